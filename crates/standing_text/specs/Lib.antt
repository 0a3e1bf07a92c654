-- The definitions of the crate `standing_text`.
pub mod Standing
