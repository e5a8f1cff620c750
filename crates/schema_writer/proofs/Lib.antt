-- What the writer's answers say; that what is written states the schema without unused types, rises, and is written as it is; and what the code lays.
pub mod Outcomes
pub mod WalkPieces
pub mod WalkCommands
pub mod RewriteStates
pub mod RewriteSame
pub mod RisingSteps
pub mod SecondPass
pub mod NumberLaws
pub mod ContentLaws
pub mod LeftLaws
pub mod BlockLaws
pub mod FileLaws
pub mod Answered
