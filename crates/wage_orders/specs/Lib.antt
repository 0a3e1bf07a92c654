-- The definitions of the crate `wage_orders`.
pub mod Orders
