-- What is promised of `wage_contents`, and what the crates above cite.
pub mod Laws
pub mod Within
pub mod Accepted
pub mod One
