-- The definitions of the crate `lent_order`.
pub mod Order
