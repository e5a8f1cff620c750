-- The commands of a schema file, questions 2 to 7 and 21 to 23, and the schema that they state.
-- `Building` and `Laying` say what the private steps compute; no public promise cites them.
pub mod Questions
pub mod File
pub mod Value
pub mod Written
pub mod TypePlaces
pub mod Answer
pub mod Building
pub mod Laying
