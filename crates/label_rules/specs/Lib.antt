-- The definitions of the crate `label_rules`.
pub mod Rules
