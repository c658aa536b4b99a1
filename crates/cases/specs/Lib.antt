pub mod Given
pub mod DateCases
pub mod HalvingCases
pub mod QuestionCases
pub mod WhyCases
pub mod Cases
