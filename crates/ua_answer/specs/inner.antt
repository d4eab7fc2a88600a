-- What is asked of a question.
pub mod Questions
