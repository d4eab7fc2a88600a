use Rattle.std.proofs.Common.{◌≡◌, ℕ, List, subst}
use Rattle.ua_table.specs.Slices.{slice_at}
use Rattle.ua_table.proofs.SliceLaws.{IsPart, part_of, part_only}
use Rattle.ua_log.proofs.laws.walks.Goals as goal

is_part : (ks : List ℕ) (s u j : ℕ) → slice_at ks s ≡ (u, j) → IsPart ks s u j
is_part ks s u j e = subst (λ (q : ℕ × ℕ). IsPart ks s q.0 q.1) e (part_of ks s)

pub returns : goal.returns
returns c = λ ks s u j. ((λ e. let p = is_part ks s u j e in (p.below, p.number)), (λ h. part_only ks s u j record { below = h.0; number = h.1 }))
