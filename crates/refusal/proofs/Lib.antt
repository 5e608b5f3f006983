pub mod NumberLaws
pub mod PassedOn
