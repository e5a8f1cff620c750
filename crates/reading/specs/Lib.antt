-- Readings and event files: document 01's sections "A reading" and "The event file", and document 02, Req 05. `Heads`, `Coming`, `Steps`, `Turns`
-- and `Asking` say what the private steps compute; no public promise cites them.
pub mod Levels
pub mod Questions
pub mod Calls
pub mod Passage
pub mod EventFile
pub mod EventMeaning
pub mod Stop
pub mod Coming
pub mod Heads
pub mod Sought
pub mod Steps
pub mod Turns
pub mod Asking
