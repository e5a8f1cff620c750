-- What the programs print. `Steps` says what the private functions leave; no public promise cites it.
pub mod Words
pub mod Text
pub mod Report
pub mod ExpectedText
pub mod ExpectedReport
pub mod Samples
pub mod Steps
