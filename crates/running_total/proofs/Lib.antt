-- What is promised of `running_total`.
pub mod Theorems
pub mod FromZero
pub mod One
