-- What is promised of dates.
pub mod Theorems
pub mod One
