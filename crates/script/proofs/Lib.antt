pub mod Reading
pub mod Splitting
pub mod Forming
pub mod Listing
pub mod Putting
pub mod Patterns
pub mod FieldsExactly
pub mod TwoRows
