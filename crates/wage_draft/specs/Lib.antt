-- The definitions of the crate `wage_draft`.
pub mod Draft
