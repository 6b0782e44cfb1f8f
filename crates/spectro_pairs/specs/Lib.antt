pub mod Explored
pub mod Limits
pub mod Known
pub mod Interned
pub mod Subsets
pub mod Lattices
pub mod Growth
pub mod Arenas
