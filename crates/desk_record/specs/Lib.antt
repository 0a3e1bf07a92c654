-- The definitions of the crate `desk_record`.
pub mod Record
