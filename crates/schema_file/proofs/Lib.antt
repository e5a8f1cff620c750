-- Laws of the answers.
pub mod AfterDone
pub mod Answered
pub mod FileAnswers
pub mod UnusedTypes
pub mod OneResult
pub mod OneWitness
pub mod FileExists
pub mod FileSamples
pub mod Longest
