-- Operations of two arguments.
use Rattle.std.proofs.Common.{◌≡◌, ℕ, zero, suc, ◌<◌, List, [], ◌∷◌, length, arith}
use Rattle.std.specs.Prelude.{slice_index}

-- an operation with arguments is there
pub arity_low : (ks : List ℕ) (f n : ℕ) → slice_index ks f ≡ suc n → f < length ks
arity_low [] f n e = absurd (omega (arith, e))
arity_low (k ∷ ks) zero n e = omega arith
arity_low (k ∷ ks) (suc f) n e = let low = arity_low ks f n e in omega (arith, low)
