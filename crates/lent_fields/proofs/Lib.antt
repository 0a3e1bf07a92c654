-- What is promised of `lent_fields`, and the laws that its proofs share.
pub mod Laws
pub mod One
