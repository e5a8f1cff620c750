-- The commands of the schema file as bytes; and questions in order.
pub mod Command
pub mod Cases
pub mod Relabelled
pub mod Asked
