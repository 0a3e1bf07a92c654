-- What is promised of lipa in cents.
pub mod Theorems
pub mod One
