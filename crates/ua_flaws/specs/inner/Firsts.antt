-- The first tuple that passes a test, of those that go on from a front.
use Rattle.std.specs.Prelude.{ℕ, Bool, List, ◌++◌, Option, find}
use Rattle.std.specs.Option.{option_map}
use Rattle.ua_term.specs.Assignments.{assignments}

-- the first tuple that passes the test, of those that begin with these and go on with k numbers below n
abbrev pub first_behind : (List ℕ → Bool) → ℕ → List ℕ → ℕ → Option (List ℕ)
first_behind test n begin k = option_map (λ (t : List ℕ). begin ++ t) (find (λ t. test (begin ++ t)) (assignments n k))
