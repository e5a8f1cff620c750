-- What the program writes beside the file.
pub mod Line
