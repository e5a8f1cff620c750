-- The lines of the table, one after another, and whole.
pub mod LineLaws
pub mod LineLengths
