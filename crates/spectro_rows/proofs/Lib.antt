pub mod RowLists
pub mod FilledParts
pub mod PartedRows
pub mod Stamps
pub mod TurnedRows
pub mod GroupedItems
