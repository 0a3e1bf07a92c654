-- The definitions of the crate `order_rules`.
pub mod Rules
