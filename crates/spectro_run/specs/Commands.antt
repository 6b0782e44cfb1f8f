-- What each command gives, one file a command.
pub mod Eval
pub mod Rewrite
pub mod Price
pub mod Size
pub mod Compare
pub mod Demo
