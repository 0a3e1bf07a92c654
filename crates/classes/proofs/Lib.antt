-- The laws of classes, and what is promised of classes.
pub mod Laws
pub mod One
