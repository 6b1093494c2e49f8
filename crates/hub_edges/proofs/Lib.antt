pub mod CheaperCosts
pub mod EntryOrder
pub mod WrittenPairs
pub mod SortedRows
pub mod InsideEntries
pub mod OneRow
