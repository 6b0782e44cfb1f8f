pub mod Prices
pub mod Growth
