-- What the numbers tell.
pub mod ReadBack
pub mod ReadWritten
pub mod ReadDocuments
pub mod ReadExpected
