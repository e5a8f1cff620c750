-- Laws of what the loops of the search compute.
pub mod WaysLaws
pub mod RowLaws
pub mod Kept
pub mod MarkGrowth
pub mod Queues
pub mod Words
pub mod Compete
pub mod Shortest
pub mod SearchMeaning
pub mod RootLaws
pub mod Answers
pub mod JudgedSchemas
pub mod OneWitness
