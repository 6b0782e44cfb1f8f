pub mod NodeFormulas
pub mod NodePlaces
pub mod Unfoldings
