use Rattle.std.proofs.Common.{◌≡◌, ◌+◌, ℕ, suc, List, [], ◌∷◌, ◌++◌, ap, ◌∙◌, arith}
use Rattle.ua_table.specs.Counting.{numbers_below}
use Rattle.ua_listing.proofs.leasts.all_places.Goals as goal

pub loop-i-preserved : goal.loop-i-preserved
loop-i-preserved c = c.in_ok-push.ensures.items ∙ ap (λ (xs : List ℕ). xs ++ c.loop-i.i ∷ []) c.loop-i.invariant ∙ ap numbers_below (let e : suc c.loop-i.i ≡ c.loop-i.i + 1 = omega arith in e)
