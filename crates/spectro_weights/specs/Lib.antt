pub mod Setting
pub mod Entries
pub mod WeightLines
pub mod Kinds
pub mod Faults
pub mod WeightTexts
pub mod Laws
pub mod LineReading
