-- The definitions of the crate `listing_printed`.
pub mod Listing
pub mod Mirror
