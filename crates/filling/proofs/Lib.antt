-- What the proof of `filled` uses, and what is proved of the fillings of one text.
pub mod Laws
pub mod Theorems
pub mod One
