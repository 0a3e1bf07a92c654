-- The starred cases of document 01.
pub mod Starred
