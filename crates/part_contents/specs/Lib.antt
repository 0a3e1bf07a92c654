-- The definitions of the crate `part_contents`.
pub mod Contents
pub mod Mirror
