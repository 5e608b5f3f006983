pub mod AsCalls
pub mod RowReplies
pub mod Claimed
pub mod Only
pub mod Worked
