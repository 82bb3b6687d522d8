pub mod Entries
pub mod Calls
pub mod Laws
pub mod Answers
