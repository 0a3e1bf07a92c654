-- What is promised of `group_writer`.
pub mod Refusals
pub mod Theorems
pub mod Laws
pub mod One
