-- What is printed of a table.
pub mod Lines
