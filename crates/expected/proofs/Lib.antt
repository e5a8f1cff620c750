-- The list of the openings, the calls that would be taken and the reading where a walk stops, the answer for every schema value, and what it
-- says by valid documents.
pub mod ListLaws
pub mod TakenLaws
pub mod PassageLaws
pub mod AnswerLaws
pub mod TableLaws
pub mod ByDocuments
