-- How the options are read: the command that they make, and their values.
pub mod Options
