pub mod Growing
pub mod LabelLaws
