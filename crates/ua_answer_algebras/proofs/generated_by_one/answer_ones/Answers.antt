use Rattle.std.proofs.Common.{ℕ, ◌∷◌, [], length, ap, arith}
use Rattle.std.proofs.lemmas.List.{length-map}
use Rattle.std.specs.Prelude.{Vec}
use Rattle.std.specs.declared.alloc.Global.{Global}
use Rattle.ua_table.specs.Algebras.{FiniteAlgebra}
use Rattle.ua_table.specs.Counting.{numbers_below}
use Rattle.ua_table.proofs.Counts.{length-numbers_below}
use Rattle.ua_table.proofs.Lists.{AllZip-length}
use Rattle.ua_sub.specs.Members.{AreMembers, contents}
use Rattle.ua_answer_algebras.proofs.generated_by_one.answer_ones.Goals as goal

pub ones_reply-requires : goal.ones_reply-requires
ones_reply-requires g c =
    let a = c.algebra.result.now in
    let sets = c.in_ok-sets.sets.items in
    let each = AllZip-length (λ x members. AreMembers a (x ∷ []) members) (numbers_below a.size) (contents sets) c.in_ok-sets.ensures in
    let sizes = length-numbers_below a.size in
    let count = length-map sets (λ (v : Vec ℕ Global). v.items) in
    let same = ap (length {A = Vec ℕ Global}) c.deref.ensures.value in
    let size = ap (λ (a : FiniteAlgebra). a.size) c.algebra.ensures in
    omega (arith, each, sizes, count, same, size)
