pub mod CaseRows
pub mod CaseSteps
pub mod PutCases
pub mod Explanations
pub mod Branches
