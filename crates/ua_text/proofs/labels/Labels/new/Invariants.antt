use Rattle.std.proofs.Common.{◌≡◌, ℕ, List, drop}
use Rattle.std.specs.BTreeMap.{get_by}
use Rattle.std.specs.Cmp.Lexicographic.{slice_cmp}
use Rattle.std.specs.Ordering.{nat_cmp}
use Rattle.ua_text.specs.Labels.{place_in}
use Rattle.ua_text.proofs.labels.Labels.new.Given as goal

-- the names from here on are found at their places
abbrev pub invariant-loop-place : goal.invariant-loop-place
invariant-loop-place l = (t : List ℕ) → get_by (λ k. slice_cmp nat_cmp t k.now) l.places ≡ place_in l.place (drop l.place l.names) t
