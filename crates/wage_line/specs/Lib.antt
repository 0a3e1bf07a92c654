-- The definitions of the crate `wage_line`.
pub mod Line
pub mod Pieces
