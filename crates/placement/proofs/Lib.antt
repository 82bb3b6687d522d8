pub mod Chunks
pub mod Operations
pub mod Tail
pub mod Blocks
pub mod Vectors
