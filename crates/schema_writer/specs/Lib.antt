-- The writer of schema files without the types that no valid document uses. `Laying` says what the private steps compute; no
-- public promise cites it.
pub mod Left
pub mod Answer
pub mod Laying
