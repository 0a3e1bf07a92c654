-- What is promised of slips of either currency.
pub mod Theorems
pub mod One
