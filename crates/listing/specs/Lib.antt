pub mod Listing
pub mod SectionLines
pub mod ListingAnswer
