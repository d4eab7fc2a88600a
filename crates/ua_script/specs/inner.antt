-- The form that has a word, and what is finished of it.
pub mod Forms
-- What stands at the front of the tokens while a script is read back.
pub mod Reading
-- What stands for a part of a form, by its type: for which part, and the value of that part that is meant.
pub mod Parts
-- The words of choices, and where the machine of scripts begins.
pub mod Tables
