mod Flawless
mod Loops
mod Words
mod FlawlessAnswers
