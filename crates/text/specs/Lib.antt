-- Text in a buffer: what laying leaves there, on a page or at a place, and a line's end.
pub mod Page
pub mod Laid
pub mod Line
