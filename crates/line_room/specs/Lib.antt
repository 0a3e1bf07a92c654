-- The definitions of the crate `line_room`.
pub mod LineRoom
