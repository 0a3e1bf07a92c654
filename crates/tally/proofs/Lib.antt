-- The laws of a tally, and what is promised of it.
pub mod Laws
pub mod One
