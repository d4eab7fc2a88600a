-- The entries by which rows that are reached lead to others.
use Rattle.std.proofs.Common.{◌≡◌, ℕ, ◌+◌, ◌<◌, Bool, true, false, Some, List, length, get_or, ⊎_elim, refl, sym, ap, ◌∙◌, subst, arith}
use Rattle.std.specs.Prelude.{Contains, slice_get, Option, is_some}
use Rattle.std.specs.Option.{IfSome, IfNone}
use Rattle.std.proofs.lemmas.Bool.{cases_lt, false≢true, false_from_ne_true}
use Rattle.std.proofs.lemmas.List.Elements.{Contains-append_left, Contains-append_cases}
use Rattle.ua_table.specs.Algebras.{Vector}
use Rattle.ua_table.proofs.Lists.{all_at}
use Rattle.ua_rows.specs.RowLists.{GoesOnWith}
use Rattle.ua_rows.proofs.AppliedLaws.{contains_by}
use Rattle.ua_identity.specs.Identities.{VariablePattern}
use Rattle.ua_identity.specs.Chains.{Link}
use Rattle.ua_flaws.proofs.FirstLaws.{same_is}
use Rattle.ua_flaws.proofs.PassLaws.{is_same_vector}
use Rattle.ua_check.specs.declared.charts.Chart.{Chart}
use Rattle.ua_check.specs.declared.positions.Positions.{Positions}
use Rattle.ua_check.specs.Reached.{part, leads, holds_position, is_led_to}
use Rattle.ua_check.specs.inner.ChartsOf.{IsSide, row_at, entries_at, IsEntriesOf, AreEntriesBelow}
use Rattle.ua_check.proofs.NoChainLaws.{any_at}
use Rattle.ua_check.proofs.ReachedRows.{is_held, led_from}

-- ---- row by row

module _ (c : Chart) (p : VariablePattern) (marks : List Bool) (n : ℕ) (old : List Vector) (h : AreEntriesBelow c p marks n old) where
  kept : (w : Vector) → Contains old w → (i : ℕ) × IsEntriesOf c p marks (n + 1) w i
  kept w there = let e = h.only w there in let l = e.1.low in (e.0, record { low = omega (arith, l); marked = e.1.marked; same = e.1.same })

  -- a row that is marked
  pub entered : (new : List Vector) → GoesOnWith old (entries_at c p n) new → get_or marks n false ≡ true → AreEntriesBelow c p marks (n + 1) new
  entered new g marked = record {
    held = λ i l m. ⊎_elim
        (λ low. subst (λ xs. Contains xs (entries_at c p i)) (sym g.is) (Contains-append_left old g.more (entries_at c p i) (h.held i low m)))
        (λ high. let same : i ≡ n = omega (arith, l, high) in subst (λ j. Contains new (entries_at c p j)) (sym same) g.there)
        (cases_lt i n);
    only = λ w there. ⊎_elim
        (λ before. kept w before)
        (λ more. (n, record { low = omega arith; marked = marked; same = sym (g.same w more) }))
        (Contains-append_cases old g.more w (subst (λ xs. Contains xs w) g.is there));
  }

  -- a row that is not
  pub passed_over : get_or marks n false ≡ false → AreEntriesBelow c p marks (n + 1) old
  passed_over unmarked = record {
    held = λ i l m. ⊎_elim
        (λ low. h.held i low m)
        (λ high. let same : i ≡ n = omega (arith, l, high) in absurd (false≢true (sym unmarked ∙ ap (λ j. get_or marks j false) (sym same) ∙ m)))
        (cases_lt i n);
    only = kept;
  }

-- ---- which rows are led to

module _ (c : Chart) (l : Link) (s : Positions) (h : IsSide c l s) (i : ℕ) where
  -- one with the entries of a row that is reached is
  led_by : (v : Vector) → v ≡ part c.size c.kind.now l.next (row_at c i) → Contains s.entries.now.items v → is_led_to c.size c.kind.now l c.rows.now.items s.list.now (row_at c i) ≡ true
  led_by v e there =
      let from = h.entries.entries.only v there in
      let held : holds_position s.list.now from.0 ≡ true = sym (h.marks.holds from.0 from.1.low) ∙ from.1.marked in
      any_at (λ p. leads c.size c.kind.now l (row_at c p) (row_at c i)) s.list.now from.0 held (is_same_vector (entries_at c l.pattern from.0) (part c.size c.kind.now l.next (row_at c i)) (from.1.same ∙ e))

  -- and no other
  found_of_led : (v : Vector) → v ≡ part c.size c.kind.now l.next (row_at c i) → is_led_to c.size c.kind.now l c.rows.now.items s.list.now (row_at c i) ≡ true → Contains s.entries.now.items v
  found_of_led v e reached =
      let from = led_from (λ p. leads c.size c.kind.now l (row_at c p) (row_at c i)) s.list.now reached in
      let low = all_at (λ p. p < length c.rows.now.items) s.list.now from.0 h.marks.low from.1 in
      let marked : get_or s.marks.now from.0 false ≡ true = h.marks.holds from.0 low ∙ is_held s.list.now from.0 from.1 in
      let same = same_is (entries_at c l.pattern from.0) (part c.size c.kind.now l.next (row_at c i)) from.2 in
      subst (Contains s.entries.now.items) (same ∙ sym e) (h.entries.entries.held from.0 low marked)

  pub led : (v : Vector) (r : Option ℕ) (b : Bool) → v ≡ part c.size c.kind.now l.next (row_at c i) → b ≡ is_some r
      → IfSome r (λ k. slice_get s.entries.now.items k ≡ Some v) → IfNone r (¬ Contains s.entries.now.items v)
      → b ≡ is_led_to c.size c.kind.now l c.rows.now.items s.list.now (row_at c i)
  led v r b e is found absent =
      let there = contains_by r b s.entries.now.items v is found absent in
      let answer : Bool = is_led_to c.size c.kind.now l c.rows.now.items s.list.now (row_at c i) in
      elim b as (λ t. b ≡ t → t ≡ answer) [
        | true ↦ λ q. sym (led_by v e (there.0 q))
        | false ↦ λ q. sym (false_from_ne_true answer (λ reached. false≢true (sym q ∙ there.1 (found_of_led v e reached))))
      ] refl
