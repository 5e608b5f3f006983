pub mod Answers
pub mod Bits
pub mod Checksum
pub mod Identifier
pub mod Parts
