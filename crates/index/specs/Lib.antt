pub mod Numbers
pub mod Maps
pub mod Levels
pub mod Ranges
pub mod Servers
pub mod Values
pub mod Setting
