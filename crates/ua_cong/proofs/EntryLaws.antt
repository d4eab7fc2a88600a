-- Principal congruences that become known.
use Rattle.std.proofs.Common.{◌≡◌, ℕ, List, [], length, set, Contains, sym, ap, ◌∙◌, subst, arith, length-append, ⊎_elim, inl, inr}
use Rattle.std.specs.Prelude.{Some, slice_get, slice_index_or}
use Rattle.std.specs.List.{AllByRecursion}
use Rattle.std.proofs.lemmas.List.{get_or_append_left}
use Rattle.std.proofs.lemmas.List.Elements.{Contains-append_left, Contains-get_or}
use Rattle.std.proofs.lemmas.Option.{get_or_from_slice_get, slice_get_within}
use Rattle.ua_table.specs.Algebras.{FiniteAlgebra}
use Rattle.ua_table.proofs.Lists.{all_append, all_weaker, all_from_contains, all_set}
use Rattle.ua_part.specs.Partitions.{Partition}
use Rattle.ua_cong.specs.declared.known.Known.{Known}
use Rattle.ua_cong.specs.Closings.{AreElements, IsPrincipal}
use Rattle.ua_rows.specs.RowLists.{GoesOnWith}
use Rattle.ua_cong.specs.Known.{IsKnownPair, IsNoneOrKnown, IsKnown}
use Rattle.ua_cong.specs.inner.Known.{IsPlaceOf, AreKept}
use Rattle.ua_cong.specs.Principals.{IsPrincipalCongruence}
use Rattle.ua_cong.specs.inner.Principals.{HasPrincipal}

-- ---- a row is entered

module _ (a : FiniteAlgebra) (old new : Known) (first second : ℕ) (row : Partition) (known : IsKnown a old) (elements : AreElements a (first, second))
    (principal : IsPrincipal a (first, second, row)) (e : GoesOnWith old.rows.items row new.rows.items) where
  -- what is known of a pair stays so
  kept_pair : (entry : ℕ × ℕ × ℕ) → IsKnownPair a old.rows.items entry → IsKnownPair a new.rows.items entry
  kept_pair entry h =
      let long = length-append old.rows.items e.more in
      let is = ap length e.is in
      let same : slice_index_or new.rows.items entry.2 [] ≡ slice_index_or old.rows.items entry.2 [] =
      ap (λ (ps : List Partition). slice_index_or ps entry.2 []) e.is ∙ get_or_append_left old.rows.items e.more [] entry.2 h.place in
      record {
        place = (let w = h.place in omega (arith, w, long, is));
        principal = subst (λ (p : Partition). IsPrincipal a (entry.0, entry.1, p)) (sym same) h.principal;
      }

  kept_entry : (entry : ℕ × ℕ × ℕ) → IsNoneOrKnown a old.rows.items entry → IsNoneOrKnown a new.rows.items entry
  kept_entry entry h = ⊎_elim (λ none. inl none) (λ pair. inr (kept_pair entry pair)) h

  pub entered : new.rows.width ≡ old.rows.width → new.pairs.items ≡ old.pairs.items → IsKnown a new
  entered width pairs = record {
    width = width ∙ known.width;
    pairs = subst (AllByRecursion (IsNoneOrKnown a new.rows.items)) (sym pairs)
        (all_weaker (IsNoneOrKnown a old.rows.items) (IsNoneOrKnown a new.rows.items) kept_entry old.pairs.items known.pairs);
    rows = subst (AllByRecursion (IsPrincipalCongruence a)) (sym e.is)
        (all_append (IsPrincipalCongruence a) old.rows.items e.more known.rows
        (all_from_contains (IsPrincipalCongruence a) e.more (λ p c. record { pair = (first, second); elements = elements; principal = subst (λ (q : Partition). IsPrincipal a (first, second, q)) (sym (e.same p c)) principal })));
  }

  pub entered_kept : AreKept old.rows.items new.rows.items
  entered_kept p c = subst (λ (ps : List Partition). Contains ps p) (sym e.is) (Contains-append_left old.rows.items e.more p c)

  pub entered_there : HasPrincipal a new.rows.items (first, second)
  entered_there = (row, e.there, principal)

  -- and stands at its place
  pub entered_at : (place : ℕ) → slice_get new.rows.items place ≡ Some row → IsPlaceOf a new first second place
  entered_at place at = record {
    within = slice_get_within new.rows.items place row at;
    principal = subst (λ (p : Partition). IsPrincipal a (first, second, p)) (sym (get_or_from_slice_get new.rows.items place row [] at)) principal;
  }

-- ---- a place is noted

pub noted : (a : FiniteAlgebra) (old new : Known) (first second place at : ℕ) → IsKnown a old → IsPlaceOf a old first second place → new.rows ≡ old.rows → new.pairs.items ≡ set old.pairs.items at (first, second, place) → IsKnown a new
noted a old new first second place at known here rows pairs = record {
  width = ap (λ r. r.width) rows ∙ known.width;
  pairs = subst (λ r. AllByRecursion (IsNoneOrKnown a r.items) new.pairs.items) (sym rows)
      (subst (AllByRecursion (IsNoneOrKnown a old.rows.items)) (sym pairs)
      (all_set (IsNoneOrKnown a old.rows.items) old.pairs.items at (first, second, place) (inr (record { place = here.within; principal = here.principal })) known.pairs));
  rows = subst (λ r. AllByRecursion (IsPrincipalCongruence a) r.items) (sym rows) known.rows;
}

-- a pair whose place is known has its principal congruence among the rows
pub there_at : (a : FiniteAlgebra) (known : Known) (x y place : ℕ) → IsPlaceOf a known x y place → HasPrincipal a known.rows.items (x, y)
there_at a known x y place h = (slice_index_or known.rows.items place [], Contains-get_or known.rows.items place [] h.within, h.principal)
