-- What the proofs here and in the crates above share, and what is promised of texts.
pub mod Laws
pub mod Blanks
pub mod Stands
pub mod Same
pub mod Values
pub mod Pieces
pub mod Lines
pub mod One
