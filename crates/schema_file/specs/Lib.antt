-- The schema file's answer: questions 1 to 9 and 21 to 24, and samples, those of NIL among them. Questions 2 to 7 and 21 to 23 are those of crate
-- `commands`. `Place` says what a private call computes.
pub mod Answer
pub mod Place
pub mod Samples
