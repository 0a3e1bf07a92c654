-- What all proofs share, and what is promised of refusals.
pub mod Basics
pub mod Choices
pub mod Theorems
pub mod One
