-- The definitions of the crate `wage_printed`.
pub mod FilePrinted
