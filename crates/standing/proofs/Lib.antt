-- The laws of what was read, and what is promised of `standing`.
pub mod Laws
pub mod One
