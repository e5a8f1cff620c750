-- What is meant, in the order of document 01. The theorems about it are in `proofs/`.
pub mod Limits
pub mod Numbered
pub mod Lists
pub mod Schema
pub mod Tree
pub mod Document
pub mod Trim
pub mod Competition
pub mod Answer
pub mod Output
pub mod Reduced
pub mod Reading
pub mod Calls
pub mod Samples
