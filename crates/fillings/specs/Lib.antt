-- The definitions of the crate `fillings`.
pub mod Fillings
pub mod Mirror
pub mod Answers
pub mod Listing
