-- The definitions of the crate `printed`.
pub mod Printed
