pub mod Taken
pub mod Put
