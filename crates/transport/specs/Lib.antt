pub mod Answers
pub mod Cutting
pub mod Exchange
pub mod Parts
pub mod Reassembly
