-- The rule of the table, and what follows from it.
pub mod TableRule
