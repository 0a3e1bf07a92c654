-- What is promised of the account form.
pub mod Theorems
pub mod One
