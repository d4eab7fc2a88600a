use Rattle.std.proofs.Common.{◌≡◌, ◌<◌, ◌+◌, ◌-◌, length, take, drop, ap, sym, ◌∙◌, arith}
use Rattle.std.proofs.lemmas.Grind.{common_steps}
use Rattle.ua_io.specs.Memory.{Supply}
use Rattle.ua_io.proofs.Known.{given}
use Rattle.ua_io.proofs.memory.MemSourceSource.read.Goals as goal

pub returns-clause-bytes : goal.returns-clause-bytes
returns-clause-bytes c =
    let n : c.self.inside.at + c.min-given.result - c.self.inside.at ≡ c.min-given.result = omega arith in
    let some : 0 < c.self.inside.most = c.self.invariant.1 in
    let len : length c.copy_from_slice.new.self ≡ c.min-given.result = grind (arith, common_steps) in
    let left = ap (λ (s : Supply). s.left) c.self.view_is in (
      sym left
          ∙ given _ _ _ _ _
          (c.copy_from_slice.ensures.after ∙ ap (λ m. take m (drop c.self.inside.at c.deref-2.result.now)) n
          ∙ ap (λ t. take c.min-given.result (drop c.self.inside.at t)) c.deref-2.ensures.value)
          len,
      λ zero room. grind (arith, common_steps),
    )
