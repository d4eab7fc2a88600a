-- Which lists of arguments a set holds.
use Rattle.std.specs.Prelude.{◌≡◌, ℕ, List, Vec}
use Rattle.std.specs.BTreeSet.{contains}
use Rattle.std.specs.Cmp.Lexicographic.{slice_cmp}
use Rattle.std.specs.Ordering.{nat_cmp}
use Rattle.std.specs.declared.alloc.Global.{Global}
use Rattle.ua_text.specs.Words.{among}
use Rattle.ua_answer_conditions.specs.declared.arguments.ArgumentSet.{ArgumentSet}

-- the set holds the lists and no others
abbrev pub HoldsThese : ArgumentSet → List (List ℕ) → Type 0
HoldsThese s lists = (xs : Vec ℕ Global) → contains (λ (x y : Vec ℕ Global). slice_cmp nat_cmp x.items y.items) s.arguments xs ≡ among xs.items lists
