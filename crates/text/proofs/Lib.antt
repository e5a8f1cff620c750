-- Laws of laying texts, on a page and at a place.
pub mod LaidLaws
pub mod PageLaws
