-- What is promised of `bare_line`.
pub mod Theorems
pub mod One
