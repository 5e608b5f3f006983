pub mod FrameTime
pub mod Slots
pub mod Judge
pub mod InWords
pub mod Parts
