-- Schemas as values. `Spread`, `Going`, `RowMaking` and `Limits` say what the private loops compute; no public promise cites them.
pub mod States
pub mod StatesLeft
pub mod Value
pub mod Steps
pub mod Ways
pub mod Putting
pub mod Rows
pub mod Trimming
pub mod Limits
pub mod Spread
pub mod Going
pub mod RowMaking
