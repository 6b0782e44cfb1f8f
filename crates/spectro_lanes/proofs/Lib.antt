pub mod Vectors
pub mod First
pub mod Marks
pub mod Places
pub mod Lists
