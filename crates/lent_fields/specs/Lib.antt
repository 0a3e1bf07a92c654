-- The definitions of the crate `lent_fields`.
pub mod Fields
