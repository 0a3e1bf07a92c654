-- The laws of verdicts, and what is promised of them.
pub mod Verdicts
pub mod One
