-- What is promised of `lent_order`.
pub mod One
