pub mod Names
pub mod Refusals
pub mod SameNames
pub mod Shortening
