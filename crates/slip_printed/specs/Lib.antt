-- The definitions of the crate `slip_printed`.
pub mod SlipPrinted
