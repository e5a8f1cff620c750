-- What would have been taken where an event file was refused: document 02, Req 07.
pub mod Expected
pub mod Meaning
pub mod Listing
