-- The parts of a state, and what they hold on the way.
pub mod States
