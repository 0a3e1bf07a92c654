-- What the proofs of `listing_printed` share, and what is proved of what the listing program prints.
pub mod Laws
pub mod One
pub mod Theorems
