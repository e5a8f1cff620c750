-- The demands on the engine, what the writer of schema files meets, the starred samples with those of nil elements, and the whole job.
pub mod Demands
pub mod Reducing
pub mod Samples
pub mod Job
pub mod ExpectedJob
pub mod Expecting
