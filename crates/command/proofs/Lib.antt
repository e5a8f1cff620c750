-- Laws of the commands and their bytes, and of questions in order.
pub mod CommandLaws
pub mod CaseLaws
pub mod AskedLaws
