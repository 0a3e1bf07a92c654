-- What is promised of `line_room`, and the laws that its proofs share.
pub mod Laws
pub mod Theorems
pub mod One
