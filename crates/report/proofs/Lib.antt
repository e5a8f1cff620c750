-- Laws of laying lines, and of the text printed.
pub mod ExpectedLines
pub mod OpeningLaws
pub mod ReportLaws
pub mod TextLengths
pub mod ExpectedLengths
pub mod WitnessLaws
pub mod PrintedLaws
pub mod ExpectedTexts
pub mod ExpectedSample
