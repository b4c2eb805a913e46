pub mod DrawLemmas
pub mod NumberLemmas
pub mod TextLemmas
