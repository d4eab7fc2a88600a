use Rattle.std.proofs.Common.{◌≡◌, ℕ, Bool, true, false, not, cond, List, ◌++◌, ◌∷◌, [], length, Bor, Some, None, refl, sym, ap, ◌∙◌, subst, arith}
use Rattle.std.specs.Prelude.{Option, nat_eq, is_ok, is_some, option_copied}
use Rattle.std.specs.Cmp.Lexicographic.{pointwise}
use Rattle.indexmap.specs.IndexMap.{get_by}
use Rattle.ua_text.specs.declared.named.Block.{Block}
use Rattle.ua_reply.specs.Sessions.{ArePlaces}
use Rattle.ua_reply.proofs.SessionLaws.{places_more, places_stay}
use Rattle.ua_reply.proofs.session.Session.enter.Goals as goal
use Rattle.ua_reply.proofs.session.Session.enter.Goals.{then-is_none+in_ok-insert, else-is_none}

absent : (r : Option (Bor ℕ)) (b : Bool) → is_some r ≡ not b → b ≡ true → option_copied r ≡ None
absent None b e h = refl
absent (Some x) true e h = cc
absent (Some x) false e h = cc

record HasPlace (r : Option ℕ) : Type 0 where
  place : ℕ
  is : r ≡ Some place

present : (r : Option (Bor ℕ)) (b : Bool) → is_some r ≡ not b → b ≡ false → HasPlace (option_copied r)
present None true e h = absurd (let z : ⊥ = cc in z)
present None false e h = absurd (let z : ⊥ = cc in z)
present (Some x) b e h = record { place = x.now; is = refl }

pub invariant_of-self-2 : goal.invariant_of-self-2
invariant_of-self-2 c =
    let k = c.args.known in
    let s = c.self.inside.knowns.items in
    let old : List ℕ → Option ℕ = λ t. get_by (λ (k : Bor (List ℕ)). pointwise nat_eq t k.now) c.self.inside.places in
    let named : c.args.name.now ≡ k.algebra.name = c.requires in
    let here = c.if-is_none.self-inside.knowns.items in
    let pushed : c.push.new.self.items ≡ here ++ k ∷ [] = c.push.ensures.items ∙ ap (λ r. cond (is_ok r) (here ++ k ∷ []) here) c.unwrap.ensures in
    elim c.if-is_none.branch [
      | then-is_none+in_ok-insert w ↦
          let new : List ℕ → Option ℕ = λ t. get_by (λ (k : Bor (List ℕ)). pointwise nat_eq t k.now) w.insert.new.self in
          let kept : c.reserve.new.self.items ≡ s = c.in_ok-reserve.ensures.items in
          let count : w.len.result ≡ length s = (let e = w.len.ensures in let k = c.reserve.new.self.ok.0 in let l = ap (length {A = Block}) kept in omega (arith, e, k, l)) in
          let update : (t : List ℕ) → new t ≡ cond (pointwise nat_eq c.args.name.now t) (Some w.len.result) (old t) = λ t. w.in_ok-insert.ensures.updates.0 (record c.args.name { now = t }) in
          let update' : (t : List ℕ) → new t ≡ cond (pointwise nat_eq k.algebra.name t) (Some (length s)) (old t) = λ t. update t ∙ (λ i. cond (pointwise nat_eq (named i) t) (Some (count i)) (old t)) in
          let none : old k.algebra.name ≡ None = ap old (sym named) ∙ sym c.get.ensures.value ∙ absent c.get.result c.is_none.result c.is_none.ensures w.if-is_none.true in
          let places : c.if-is_none.self-inside.places ≡ w.insert.new.self = λ i. (w.self-inside-is i).places in
          let whole = pushed ∙ ap (λ (xs : List Block). xs ++ k ∷ []) ((λ i. (w.self-inside-is i).knowns.items) ∙ kept) in
          let all = places_more s k old new c.self.invariant none update' in
          subst (λ ps. ArePlaces c.push.new.self.items (λ t. get_by (λ (k : Bor (List ℕ)). pointwise nat_eq t k.now) ps)) (sym places) (subst (λ (xs : List Block). ArePlaces xs new) (sym whole) all)
      | else-is_none w ↦
          let some = present c.get.result c.is_none.result c.is_none.ensures w.if-is_none.false in
          let known : old k.algebra.name ≡ Some some.place = ap old (sym named) ∙ sym c.get.ensures.value ∙ some.is in
          let places : c.if-is_none.self-inside.places ≡ c.self.inside.places = λ i. (w.self-inside-is i).places in
          let whole = pushed ∙ ap (λ (xs : List Block). xs ++ k ∷ []) ((λ i. (w.self-inside-is i).knowns.items) ∙ c.in_ok-reserve.ensures.items) in
          let all = places_stay s k some.place old c.self.invariant known in
          subst (λ ps. ArePlaces c.push.new.self.items (λ t. get_by (λ (k : Bor (List ℕ)). pointwise nat_eq t k.now) ps)) (sym places) (subst (λ (xs : List Block). ArePlaces xs old) (sym whole) all)
    ]
