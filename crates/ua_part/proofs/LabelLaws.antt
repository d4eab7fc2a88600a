-- The places where labels stand first make a partition.
use Rattle.std.proofs.Common.{◌≡◌, ℕ, ◌+◌, ◌<◌, Bool, true, false, cond, Option, Some, None, List, [], ◌∷◌, ◌++◌, refl, sym, ap, ◌∙◌, arith, ⊎_elim}
use Rattle.std.specs.Prelude.{slice_index, ◌==◌, if◌then◌else◌, unwrap_or}
use Rattle.std.specs.Bool.{Decides}
use Rattle.std.proofs.lemmas.Bool.{cases_lt}
use Rattle.std.proofs.lemmas.Bool.Decides.{Decides-and, Decides-eqb, Decides-like}
use Rattle.std.proofs.lemmas.List.{length_push, get_or_push, get_or_append_left}
use Rattle.ua_part.specs.Labels.{same_labels}
use Rattle.ua_part.specs.inner.Labels.{labels_at, AreFirstPlaces}

same_labels-Decides : (x y : ℕ × ℕ) → Decides (same_labels x y) (x ≡ y)
same_labels-Decides x y =
    Decides-like (same_labels x y) (λ h. λ i. (h.0 i, h.1 i)) (λ e. (ap (λ (z : ℕ × ℕ). z.0) e, ap (λ (z : ℕ × ℕ). z.1) e))
    (Decides-and (x.0 == y.0) (x.1 == y.1) (Decides-eqb x.0 y.0) (Decides-eqb x.1 y.1))

-- how the look-up changes where a pair is put at a place
pub record IsPut (before after : ℕ × ℕ → Option ℕ) (labels : ℕ × ℕ) (here v : ℕ) : Type 0 where
  pub value : v ≡ unwrap_or (before labels) here
  pub kept : (q : ℕ × ℕ) → after q ≡ (if same_labels labels q then Some v else before q)

module _ (firsts seconds : List ℕ) (n : ℕ) (before after : ℕ × ℕ → Option ℕ) (leaders : List ℕ) (v : ℕ) (first : AreFirstPlaces firsts seconds n before leaders) (put : IsPut before after (labels_at firsts seconds n) n v) where
  at_labels : (q : ℕ × ℕ) → labels_at firsts seconds n ≡ q → after q ≡ Some v
  at_labels q e = put.kept q ∙ ap (λ b. cond b (Some v) (before q)) ((same_labels-Decides (labels_at firsts seconds n) q).1 e)

  elsewhere : (q : ℕ × ℕ) → same_labels (labels_at firsts seconds n) q ≡ false → after q ≡ before q
  elsewhere q e = put.kept q ∙ ap (λ b. cond b (Some v) (before q)) e

  -- the place is an earlier one with these labels, or this one
  value_is : (o : Option ℕ) → before (labels_at firsts seconds n) ≡ o → v ≡ unwrap_or o n → (v < n + 1) × (labels_at firsts seconds v ≡ labels_at firsts seconds n)
  value_is None e is = (omega (arith, is), ap (labels_at firsts seconds) is)
  value_is (Some w) e is = let f = first.found (labels_at firsts seconds n) w e in (omega (arith, is, f.0), ap (labels_at firsts seconds) is ∙ f.1)

  -- where the labels stand already, the look-up is as it was
  still : (o : Option ℕ) (k : ℕ) → before (labels_at firsts seconds n) ≡ o → before (labels_at firsts seconds n) ≡ Some k → v ≡ unwrap_or o n → v ≡ k
  still None k e f is = absurd (cc)
  still (Some w) k e f is = let same : w ≡ k = cc in is ∙ same

  pub one_more : AreFirstPlaces firsts seconds (n + 1) after (leaders ++ v ∷ [])
  one_more = record {
    size = length_push leaders v ∙ omega (arith, first.size);
    low = λ k w. ⊎_elim
        (λ less. let e = old k less in let l = first.low k less in omega (arith, e, l))
        (λ more. let is : k ≡ n = omega (arith, w, more) in let e = new k is in omega (arith, e, is, mine.0))
        (cases_lt k n);
    found = λ q w e. found_by q w e (same_labels (labels_at firsts seconds n) q) refl;
    each = λ k w. ⊎_elim
        (λ less. kept_by k less (same_labels (labels_at firsts seconds n) (labels_at firsts seconds k)) refl ∙ ap (λ m. Some m) (sym (old k less)))
        (λ more. let is : k ≡ n = omega (arith, w, more) in at_labels (labels_at firsts seconds k) (ap (labels_at firsts seconds) (sym is)) ∙ ap (λ m. Some m) (sym (new k is)))
        (cases_lt k n);
  }
    where
      mine : (v < n + 1) × (labels_at firsts seconds v ≡ labels_at firsts seconds n)
      mine = value_is (before (labels_at firsts seconds n)) refl put.value

      old : (k : ℕ) → k < n → slice_index (leaders ++ v ∷ []) k ≡ slice_index leaders k
      old k less = get_or_append_left leaders (v ∷ []) 0 k (omega (arith, less, first.size))

      new : (k : ℕ) → k ≡ n → slice_index (leaders ++ v ∷ []) k ≡ v
      new k is = get_or_push leaders v 0 k (first.size ∙ sym is)

      found_by : (q : ℕ × ℕ) (w : ℕ) → after q ≡ Some w → (b : Bool) → b ≡ same_labels (labels_at firsts seconds n) q → (w < n + 1) × (labels_at firsts seconds w ≡ q)
      found_by q w e true is =
          let same = (same_labels-Decides (labels_at firsts seconds n) q).0 (sym is) in
          let a = at_labels q same in
          let value : v ≡ w = cc in
          (omega (arith, mine.0, value), ap (labels_at firsts seconds) (sym value) ∙ mine.1 ∙ same)
      found_by q w e false is = let f = first.found q w (sym (elsewhere q (sym is)) ∙ e) in (omega (arith, f.0), f.1)

      kept_by : (k : ℕ) → k < n → (b : Bool) → b ≡ same_labels (labels_at firsts seconds n) (labels_at firsts seconds k) → after (labels_at firsts seconds k) ≡ Some (slice_index leaders k)
      kept_by k less true is =
          let same = (same_labels-Decides (labels_at firsts seconds n) (labels_at firsts seconds k)).0 (sym is) in
          let there : before (labels_at firsts seconds n) ≡ Some (slice_index leaders k) = ap before same ∙ first.each k less in
          at_labels (labels_at firsts seconds k) same ∙ ap (λ m. Some m) (still (before (labels_at firsts seconds n)) (slice_index leaders k) refl there put.value)
      kept_by k less false is = elsewhere (labels_at firsts seconds k) (sym is) ∙ first.each k less
