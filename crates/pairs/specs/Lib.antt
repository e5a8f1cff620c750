-- Pair numbers: the table of them, and a number as an answer.
pub mod Table
pub mod Pairs
