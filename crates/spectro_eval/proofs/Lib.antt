pub mod Bits
pub mod Marking
pub mod Meets
pub mod Numbers
pub mod Tables
