pub mod Rows
pub mod StateTables
pub mod StepsByLabel
pub mod Truths
