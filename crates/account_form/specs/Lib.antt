-- The definitions of the crate `account_form`.
pub mod AccountForm
