pub mod Lexicographic
