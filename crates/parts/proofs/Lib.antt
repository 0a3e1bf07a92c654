-- The laws of the crate `parts`.
pub mod Ends
pub mod Laws
pub mod Pieces
pub mod Readers
pub mod Shape
pub mod One
