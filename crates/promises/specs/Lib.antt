-- The definitions of the crate `promises`.
pub mod Calls
pub mod Listings
pub mod Refusals
pub mod Standings
pub mod WageReferences
pub mod Wages
pub mod RunningTotals
