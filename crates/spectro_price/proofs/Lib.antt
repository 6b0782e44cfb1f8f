pub mod Conjunctions
pub mod NodePrices
pub mod Passes
pub mod Walks
