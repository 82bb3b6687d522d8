pub mod Texts
pub mod Readings
pub mod Problems
pub mod Escapes
