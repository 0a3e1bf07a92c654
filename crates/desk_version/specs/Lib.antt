-- The definitions of the crate `desk_version`.
pub mod Version
