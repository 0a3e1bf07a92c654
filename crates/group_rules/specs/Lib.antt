-- The definitions of the crate `group_rules`.
pub mod Rules
