mod SearchLaws
mod Searching
