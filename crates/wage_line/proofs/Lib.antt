-- What is promised of `wage_line`.
pub mod Laws
pub mod PieceLaws
pub mod Theorems
pub mod One
