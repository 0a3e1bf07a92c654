-- The theorems of docs/PROMISES.md about the calls of the static library.
pub mod Checks
pub mod Laws
pub mod Ledgers
pub mod Standings
pub mod Listings
pub mod Numbers
pub mod Refusals
pub mod Slips
pub mod Untouched
pub mod WageReferences
pub mod Wages
pub mod RunningTotals
