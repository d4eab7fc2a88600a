use Rattle.std.proofs.Common.{◌≡◌, ◌+◌, ◌<◌, ◌≤◌, ◌∙◌, ℕ, List, Vec, Global, length, sym, ap, arith, subst}
use Rattle.std.specs.Prelude.{slice_index}
use Rattle.std.specs.List.{AllByRecursion}
use Rattle.std.proofs.lemmas.Bool.{iff_false}
use Rattle.ua_lattice.specs.inner.Places.{LiesAboveOne}
use Rattle.ua_lattice.proofs.LeastLaws.{AreLeastOfFirst, least_within, least_kept, least_pushed, least_all}
use Rattle.ua_lattice.proofs.least.keep_least.Goals as goal
use Rattle.ua_lattice.proofs.least.keep_least.Goals.{then-not-lies_above_one+in_ok-push, else-not-lies_above_one}

pub lies_above_one-requires-clause-within : goal.lies_above_one-requires-clause-within
lies_above_one-requires-clause-within c =
    let few : c.loop-k.k ≤ length c.args.places.now = omega (arith, c.loop-k-test.true) in
    subst (AllByRecursion (λ j. j < length c.args.list.now)) (sym c.as_slice.ensures.value) (least_within c.args.list.now c.args.places.now c.loop-k.k c.loop-k.least.items c.loop-k.invariant c.requires.within few)

pub loop-k-preserved : goal.loop-k-preserved
loop-k-preserved c =
    let list = c.args.list.now in
    let places = c.args.places.now in
    let least = c.loop-k.least.items in
    let k = c.loop-k.k in
    let place = slice_index places k in
    let h = c.loop-k.invariant in
    let slice = c.as_slice.ensures.value in
    elim c.if-not-lies_above_one.branch [
      | then-not-lies_above_one+in_ok-push w ↦
          let none : ¬ LiesAboveOne list least place = (λ l. iff_false c.lies_above_one.ensures w.if-not-lies_above_one.true (subst (λ (js : List ℕ). LiesAboveOne list js place) (sym slice) l)) in
          subst (AreLeastOfFirst list places (k + 1)) (sym (ap (λ (v : Vec ℕ Global). v.items) w.least-is ∙ w.in_ok-push.ensures.items))
          (least_pushed list places k least h c.requires.list c.requires.in_order c.requires.within c.loop-k-test.true none)
      | else-not-lies_above_one w ↦
          let above : LiesAboveOne list least place = subst (λ (js : List ℕ). LiesAboveOne list js place) slice (c.lies_above_one.ensures.0 w.if-not-lies_above_one.false) in
          subst (AreLeastOfFirst list places (k + 1)) (sym (ap (λ (v : Vec ℕ Global). v.items) w.least-is)) (least_kept list places k least h above)
    ]

pub returns : goal.returns
returns c =
    let all : length c.args.places.now ≡ c.loop-k.k = omega arith in
    least_all c.args.list.now c.args.places.now c.loop-k.least.items c.loop-k.k all c.loop-k.invariant
