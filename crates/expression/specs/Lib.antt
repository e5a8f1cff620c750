-- Content written as an expression. `Parsing` says what the private steps of the parsers compute; no public promise cites
-- it.
pub mod Limits
pub mod Expression
pub mod Automaton
pub mod Tests
pub mod Content
pub mod Answer
pub mod Parsing
