-- What the proofs here and in the crates above share, and what is promised of `room`.
pub mod Laws
pub mod Digits
pub mod Places
pub mod One
