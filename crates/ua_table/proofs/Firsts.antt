-- The first, by a key, of those in a list that pass a test.
use Rattle.std.proofs.Common.{◌≡◌, ◌⊎◌, inl, inr, ⊎_elim, ℕ, false, List, [], ◌∷◌, refl, sym, subst, ◌∙◌, ap, Ordering}
use Rattle.std.specs.Prelude.{Contains}
use Rattle.std.specs.Cmp.{upto, tied_itself}
use Rattle.std.specs.Cmp.Lexicographic.{slice_cmp, nat_list_cmp_total}
use Rattle.std.specs.Ordering.{nat_cmp, ordering_reverse, is_gt}
use Rattle.std.specs.declared.cmp.Ordering.TheVariants.{Less, Equal, Greater}
use Rattle.ua_table.proofs.Lists.{Contains-head, Contains-tail, Contains-cases, Contains-none}

module _ {X : Type 0} (key : X → List ℕ) (P : X → Type 0) where
  abbrev pub IsUpTo : X → X → Type 0
  IsUpTo x y = is_gt (slice_cmp nat_cmp (key x) (key y)) ≡ false

  -- one of them passes, and none that does has an earlier key
  pub record IsFirstOf (xs : List X) : Type 0 where
    pub item : X
    pub among : Contains xs item
    pub passes : P item
    pub first : (x : X) → Contains xs x → P x → IsUpTo item x

  abbrev pub NonePasses : List X → Type 0
  NonePasses xs = (x : X) → Contains xs x → P x → ⊥

  -- one more that passes
  first_passing : (y : X) (ys : List X) → P y → IsFirstOf ys → IsFirstOf (y ∷ ys)
  first_passing y ys h r = by (slice_cmp nat_cmp (key y) (key r.item)) refl
    where
      taken : IsUpTo y r.item → IsFirstOf (y ∷ ys)
      taken le = record {
        item = y;
        among = Contains-head y ys;
        passes = h;
        first = λ x c q. ⊎_elim
            (λ same. subst (IsUpTo y) same (ap is_gt (tied_itself nat_list_cmp_total (key y))))
            (λ rest. upto nat_list_cmp_total (key y) (key r.item) (key x) le (r.first x rest q))
            (Contains-cases y x ys c);
      }

      by : (o : Ordering) → slice_cmp nat_cmp (key y) (key r.item) ≡ o → IsFirstOf (y ∷ ys)
      by Less e = taken (ap is_gt e)
      by Equal e = taken (ap is_gt e)
      by Greater e = record {
        item = r.item;
        among = Contains-tail y r.item ys r.among;
        passes = r.passes;
        first = λ x c q. ⊎_elim
            (λ same. subst (IsUpTo r.item) same (ap is_gt (nat_list_cmp_total.antisymm (key r.item) (key y) ∙ ap ordering_reverse e)))
            (λ rest. r.first x rest q)
            (Contains-cases y x ys c);
      }

  -- one more, if none of the others passes
  only_passing : (y : X) (ys : List X) → P y → NonePasses ys → IsFirstOf (y ∷ ys)
  only_passing y ys h none = record {
    item = y;
    among = Contains-head y ys;
    passes = h;
    first = λ x c q. ⊎_elim
        (λ same. subst (IsUpTo y) same (ap is_gt (tied_itself nat_list_cmp_total (key y))))
        (λ rest. absurd (none x rest q))
        (Contains-cases y x ys c);
  }

  -- one more that does not pass
  first_behind : (y : X) (ys : List X) → (P y → ⊥) → IsFirstOf ys → IsFirstOf (y ∷ ys)
  first_behind y ys not r = record {
    item = r.item;
    among = Contains-tail y r.item ys r.among;
    passes = r.passes;
    first = λ x c q. ⊎_elim (λ same. absurd (not (subst P (sym same) q))) (λ rest. r.first x rest q) (Contains-cases y x ys c);
  }

  pub first_of : ((x : X) → P x ⊎ (P x → ⊥)) → (xs : List X) → IsFirstOf xs ⊎ NonePasses xs
  first_of decided [] = inr (λ x c q. Contains-none x c)
  first_of decided (y ∷ ys) = ⊎_elim
      (λ h. ⊎_elim (λ r. inl (first_passing y ys h r)) (λ none. inl (only_passing y ys h none)) (first_of decided ys))
      (λ not. ⊎_elim
      (λ r. inl (first_behind y ys not r))
      (λ none. inr (λ x c q. ⊎_elim (λ same. not (subst P (sym same) q)) (λ rest. none x rest q) (Contains-cases y x ys c)))
      (first_of decided ys))
      (decided y)
