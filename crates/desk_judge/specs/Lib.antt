-- The definitions of the crate `desk_judge`.
pub mod Wages
