pub mod Rfc1321
pub mod Placements
