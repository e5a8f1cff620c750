-- The decoder; bytes and events undo one another; the openings in order.
pub mod EventBytes
pub mod EventPlaces
pub mod Outlines
