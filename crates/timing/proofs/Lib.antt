pub mod JudgeExactly
pub mod OpensExactly
pub mod Steps
pub mod Worked
