-- The demands met, the requests of the writer and of what would have been taken met, the starred samples, the whole jobs, and the lines and the
-- numbers of an event file.
pub mod DemandsMet
pub mod ReducingMet
pub mod ExpectingMet
pub mod SampleFiles
pub mod SampleWitnesses
pub mod SamplesHold
pub mod Lines
pub mod EventNumbers
pub mod Jobs
pub mod ExpectedJobs
