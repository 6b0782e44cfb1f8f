pub mod Entries
pub mod Setting
pub mod WeightLines
pub mod Judgements
pub mod Texts
