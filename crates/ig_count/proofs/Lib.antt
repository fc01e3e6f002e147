pub mod EntryLaws
pub mod MergeSteps
pub mod FileLaws
pub mod TableLaws
pub mod SortedRuns
pub mod TablesOf
