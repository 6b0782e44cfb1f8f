pub mod TableLemmas
pub mod Holding
pub mod SixParts
pub mod PartWords
pub mod LineForms
pub mod Growing
pub mod Judgements
pub mod Texts
