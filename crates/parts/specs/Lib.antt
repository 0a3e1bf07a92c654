-- The definitions of the crate `parts`.
pub mod Mirror
pub mod Parts
