pub mod Fields
pub mod Forms
pub mod Lists
pub mod Print
pub mod Rows
