mod Walking
mod Choices
mod Numbers
pub mod OptionValues
