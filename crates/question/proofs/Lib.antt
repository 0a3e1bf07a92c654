-- What is promised of `question`, and the laws that its proofs share.
pub mod Laws
pub mod One
