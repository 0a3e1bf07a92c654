-- The definitions of the crate `order_contents`.
pub mod Contents
