pub mod NumberLemmas
pub mod CutLemmas
pub mod Places
pub mod CallNames
pub mod CallWords
pub mod ByteLemmas
pub mod ListLemmas
pub mod FieldLemmas
pub mod FrontLemmas
pub mod ShownLemmas
pub mod ShownFields
pub mod ShownWords
pub mod ShownLengths
pub mod ShownCalls
pub mod ShownLines
pub mod LineLemmas
pub mod SessionTexts
pub mod SpelledFields
pub mod SpelledLines
pub mod SpelledSessions
pub mod SpelledTrees
pub mod SavedLemmas
pub mod SessionCallLemmas
pub mod SavedTrees
pub mod FaultColumns
pub mod RowWords
pub mod RowLines
pub mod NameLemmas
pub mod PieceLemmas
pub mod NameTables
pub mod NoteLemmas
pub mod NotedLines
pub mod NotedTrees
pub mod NotedCounts
mod WorkedLines
mod WorkedAnswers
mod LongLines
mod WorkedTrees
mod WorkedNotes
