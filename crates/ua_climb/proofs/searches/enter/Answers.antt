use Rattle.std.proofs.Common.{◌≡◌, ◌++◌, ◌∷◌, [], ◌<◌, length, get_or, true, false, None, ap, ◌∙◌, arith}
use Rattle.std.specs.Prelude.{is_some, not}
use Rattle.std.proofs.lemmas.List.Elements.{All-from_recursion}
use Rattle.ua_climb.proofs.MarkLaws.{enters_none, enters_passes, enters_marks}
use Rattle.ua_climb.proofs.searches.enter.Goals as goal
use Rattle.ua_climb.proofs.searches.enter.Goals.{then-is_none+in_ok-push, else-is_none}

pub loop-member-init : goal.loop-member-init
loop-member-init c = enters_none _ _ _

pub loop-member-preserved : goal.loop-member-preserved
loop-member-preserved c =
    let e = c.is_none.ensures in
    let i = c.loop-member.member-index in
    let ms = c.args.members.now in
    elim c.if-is_none.branch [
      | then-is_none+in_ok-push w ↦
          let r = w.if-is_none.true in
          let none : is_some (get_or c.loop-member.from (get_or ms i 0) None) ≡ false = e ∙ ap not r in
          let below : get_or ms i 0 < length c.loop-member.from = omega (arith, All-from_recursion (λ t. t < length c.args.from.now) ms c.requires i 0 c.loop-member-test.true, c.loop-member.auto.from) in
          let pushed : c.if-is_none.next.items ≡ c.loop-member.next.items ++ get_or ms i 0 ∷ [] = ap (λ v. v.items) w.next-is ∙ w.in_ok-push.ensures.items in
          enters_marks _ ms i _ _ _ _ _ _ c.loop-member.invariant c.loop-member-test.true below none w.from-is pushed
      | else-is_none w ↦
          let r = w.if-is_none.false in
          let some : is_some (get_or c.loop-member.from (get_or ms i 0) None) ≡ true = e ∙ ap not r in
          enters_passes _ ms i _ _ _ _ _ _ c.loop-member.invariant c.loop-member-test.true some w.from-is (ap (λ v. v.items) w.next-is)
    ]
