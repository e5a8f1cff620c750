-- Competition. `Found`, `Rows`, `Marks`, `Rivals`, `Queue`, `Roots` and `Unused` say what the private functions compute; no public promise cites them.
pub mod Questions
pub mod Search
pub mod Witness
pub mod Found
pub mod Rows
pub mod Marks
pub mod Rivals
pub mod Queue
pub mod Roots
pub mod Unused
