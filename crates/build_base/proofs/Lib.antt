pub mod KeptLemmas
pub mod RowLemmas
pub mod BuiltLemmas
pub mod WalkLemmas
pub mod GroupLemmas
pub mod GroupSteps
pub mod MeetLemmas
pub mod CoverLemmas
