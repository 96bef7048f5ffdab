pub mod Options
pub mod Results
pub mod FlatValues
pub mod Surrounding
pub mod CaseNodes
pub mod CaseAnswers
pub mod KindsWithoutForm
