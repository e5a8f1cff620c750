-- Event files as bytes: document 01, "The event file", and document 02, Req 05. `Outline` is the openings in order with their levels.
pub mod Events
pub mod Outline
