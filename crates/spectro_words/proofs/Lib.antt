pub mod OptionWords
pub mod Verbs
pub mod FilledForms
pub mod WordExamples
