pub mod Orders
pub mod Run
pub mod Replies
pub mod Claim
