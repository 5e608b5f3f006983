pub mod Answers
pub mod Pairs
pub mod Verdict
pub mod Row
pub mod Lines
pub mod Report
pub mod Parts
