pub mod Labels
pub mod Numbered
pub mod Tables
pub mod Ranks
pub mod Indexed
