use Rattle.std.proofs.Common.{◌≡◌, take}
use Rattle.ua_sub.specs.Homs.{with_images}
use Rattle.ua_sub.proofs.homs.with_images.Given as goal

abbrev pub invariant-loop-i : goal.invariant-loop-i
invariant-loop-i l = l.list ≡ record { width = 2; items = take l.i (with_images l.gens l.images) }
