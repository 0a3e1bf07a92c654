-- The laws of the crate `order_contents`.
pub mod Accepted
pub mod Within
pub mod One
