pub mod Clauses
pub mod Nodes
pub mod Sheets
