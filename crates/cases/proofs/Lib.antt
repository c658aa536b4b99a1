-- The proof of the table in specs/Cases.antt: `cases` in Cases.
mod Example
mod DateCases
mod HalvingCases
mod QuestionCases
mod WhyCases
pub mod Cases
