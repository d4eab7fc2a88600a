use Rattle.std.proofs.Common.{◌≡◌, ◌+◌, ◌<◌, List, [], ◌∷◌, length, refl, sym, ◌∙◌, ap, subst, arith}
use Rattle.std.specs.List.{AllByRecursion}
use Rattle.std.proofs.lemmas.Bool.{false≢true}
use Rattle.std.proofs.lemmas.Bool.Decides.{nat_tests}
use Rattle.ua_table.specs.Algebras.{Vector}
use Rattle.ua_clone.specs.Points.{ArePoints}
use Rattle.ua_clone.proofs.PointLaws.{entries_from, entries_below, width_is, are_entries}
use Rattle.ua_clone.proofs.points.Points.fit.Goals as goal

-- a list that is not empty has elements
some_length : {X : Type 0} (xs : List X) → ¬ (xs ≡ []) → 0 < length xs
some_length [] h = absurd (h refl)
some_length (x ∷ xs) h = omega arith

pub returns-then-width-from : goal.returns-then-width-from
returns-then-width-from c =
    let n = c.args.a.now.size in
    let k = c.args.k in
    let vs = c.in-Partial.vectors.items in
    let some : 0 < length vs = some_length vs (λ e. false≢true (sym c.if-is_empty.false ∙ c.is_empty.ensures.1 e)) in
    let width = c.if-width-from.true ∙ ap (λ m. m + 1) c.from-in-Partial.ensures in
    let wide = subst (λ w. AllByRecursion (λ (v : Vector). length v ≡ w) vs) (sym c.width.ensures.width) c.width.ensures.widths in
    let below = c.are_elements.ensures in (
      λ yes.
          subst (ArePoints n k) (sym c.in-Partial.is) (
            some,
            entries_from n k c.width.result vs width wide
                (subst (λ m. AllByRecursion (λ (v : Vector). AllByRecursion (λ x. x < m) v) vs) c.size-then-width-from.ensures.size (below.0 yes)),
          ),
      λ h. below.1 (subst (λ m. AllByRecursion (λ (v : Vector). AllByRecursion (λ x. x < m) v) vs) (sym c.size-then-width-from.ensures.size) (entries_below n k vs (are_entries n k c.args.self.now h c.in-Partial.vectors c.in-Partial.is))),
    )

pub returns-else-width-from : goal.returns-else-width-from
returns-else-width-from c =
    let n = c.args.a.now.size in
    let k = c.args.k in
    let vs = c.in-Partial.vectors.items in
    let some : 0 < length vs = some_length vs (λ e. false≢true (sym c.if-is_empty.false ∙ c.is_empty.ensures.1 e)) in
    let wide = subst (λ w. AllByRecursion (λ (v : Vector). length v ≡ w) vs) (sym c.width.ensures.width) c.width.ensures.widths in
    let other = c.if-width-from.false in (
      λ yes. absurd (other (grind (arith, nat_tests))),
      λ h. absurd (other (width_is n k c.width.result vs wide some (are_entries n k c.args.self.now h c.in-Partial.vectors c.in-Partial.is) ∙ ap (λ m. m + 1) (sym c.from-in-Partial.ensures))),
    )
