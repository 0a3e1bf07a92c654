-- What is promised of models, and the laws of lists of what a model asks.
pub mod Every
pub mod Theorems
pub mod One
