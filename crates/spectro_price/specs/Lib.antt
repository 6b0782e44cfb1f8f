pub mod NodePrices
