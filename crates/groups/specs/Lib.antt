-- The definitions of the crate `groups`.
pub mod Groups
pub mod Mirror
