-- Points of an operation in k variables: elements as arguments, and the value that is wanted there.
pub mod Points
-- Polynomials of an algebra: terms in variables and in the elements.
pub mod Polynomials
-- The power in which a polynomial is looked for, and the vectors that stand there for variables, elements and values.
pub mod Frames
-- What may be answered when it is asked whether some polynomial agrees with points, with the refusals.
pub mod Permitted
