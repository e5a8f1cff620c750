-- What the benchmark's exports promise.
pub mod Handed
