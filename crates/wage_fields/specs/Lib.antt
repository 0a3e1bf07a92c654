-- The definitions of the crate `wage_fields`.
pub mod Rules
