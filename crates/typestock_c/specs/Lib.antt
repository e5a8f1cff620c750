-- What the exports promise.
pub mod Numbers
pub mod Exports
