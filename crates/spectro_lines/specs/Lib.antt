pub mod Form
pub mod Texts
pub mod LineReading
pub mod Feeding
