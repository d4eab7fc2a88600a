-- Rows by the class that they are entered by.
use Rattle.std.proofs.Common.{◌≡◌, ℕ, zero, suc, ◌+◌, ◌<◌, Bool, true, false, List, [], ◌∷◌, ◌++◌, length, map, set, get_or, Vec, refl, sym, ap, ◌∙◌, subst, arith, ⊎_elim, inl, inr}
use Rattle.std.specs.Prelude.{Contains, ◌⊎◌, slice_index_or, slice_index}
use Rattle.std.specs.declared.alloc.Global.{Global}
use Rattle.std.proofs.lemmas.List.{get_or-set_same, get_or-set_other, length-set, map-set}
use Rattle.std.proofs.lemmas.List.Elements.{Contains-push, Contains-push_cases, Contains-append_left}
use Rattle.std.proofs.lemmas.Bool.{cases_eq, cases_lt, false≢true}
use Rattle.ua_climb.specs.Ladders.{IsAllowed}
use Rattle.ua_climb.specs.inner.Sides.{IsEntered, AreGroups}

-- the items of groups
abbrev pub all_items : List (Vec ℕ Global) → List (List ℕ)
all_items gs = map (λ (v : Vec ℕ Global). v.items) gs

-- an entered row stays one
entered_more : (allowed : List Bool) (enters : List ℕ) (first k c t : ℕ) → IsEntered allowed enters first k c t → IsEntered allowed enters first (k + 1) c t
entered_more allowed enters first k c t e = record { row = e.row; low = (let low = e.low in omega arith); is = e.is; allows = e.allows; class = e.class }

-- and each is an old one or the row itself
entered_cases : (allowed : List Bool) (enters : List ℕ) (first k c t : ℕ) → IsEntered allowed enters first (k + 1) c t → IsEntered allowed enters first k c t ⊎ (t ≡ first + k) × IsAllowed allowed k × (slice_index enters k ≡ c)
entered_cases allowed enters first k c t e =
    ⊎_elim
    (λ (below : e.row < k). inl (record { row = e.row; low = below; is = e.is; allows = e.allows; class = e.class }))
    (λ above. let low = e.low in let same : e.row ≡ k = omega arith in
    inr (e.is ∙ ap (λ r. first + r) same, subst (IsAllowed allowed) same e.allows, subst (λ r. slice_index enters r ≡ c) same e.class))
    (cases_lt e.row k)

-- a row that is not allowed is left out
pub groups_skip : (allowed : List Bool) (enters : List ℕ) (classes first k : ℕ) (gs : List (List ℕ)) → AreGroups allowed enters classes first k gs → slice_index_or allowed k false ≡ false → AreGroups allowed enters classes first (k + 1) gs
groups_skip allowed enters classes first k gs h shut = record {
  count = h.count;
  members = λ c t l. (
    λ m. entered_more allowed enters first k c t ((h.members c t l).0 m),
    λ e. ⊎_elim (λ old. (h.members c t l).1 old) (λ new. absurd (false≢true (sym shut ∙ new.1))) (entered_cases allowed enters first k c t e),
  );
}

-- an allowed row is added to its group
pub groups_more : (allowed : List Bool) (enters : List ℕ) (classes first k : ℕ) (gs : List (List ℕ)) (d : ℕ) (gs' : List (List ℕ))
    → AreGroups allowed enters classes first k gs → slice_index_or allowed k false ≡ true → d ≡ slice_index enters k → d < classes
    → gs' ≡ set gs d (get_or gs d [] ++ (first + k) ∷ []) → AreGroups allowed enters classes first (k + 1) gs'
groups_more allowed enters classes first k gs d gs' h fit e l same =
    let within : d < length gs = let n = h.count in omega arith in
    let grown : List ℕ = get_or gs d [] ++ (first + k) ∷ [] in
    let here : get_or gs' d [] ≡ grown = ap (λ (x : List (List ℕ)). get_or x d []) same ∙ get_or-set_same gs d grown [] within in
    let there : (c : ℕ) → (c ≡ d → ⊥) → get_or gs' c [] ≡ get_or gs c [] = λ c other. ap (λ (x : List (List ℕ)). get_or x c []) same ∙ get_or-set_other gs d c grown [] other in
    record {
      count = ap length same ∙ length-set gs d grown ∙ h.count;
      members = λ c t low. (
        λ m. ⊎_elim
            (λ (eq : c ≡ d). ⊎_elim
            (λ old. entered_more allowed enters first k c t ((h.members c t low).0 (subst (λ j. Contains (get_or gs j []) t) (sym eq) old)))
            (λ new. record { row = k; low = omega arith; is = sym new; allows = fit; class = sym e ∙ sym eq })
            (Contains-push_cases (get_or gs d []) (first + k) t (subst (λ (x : List ℕ). Contains x t) here (subst (λ j. Contains (get_or gs' j []) t) eq m))))
            (λ other. entered_more allowed enters first k c t ((h.members c t low).0 (subst (λ (x : List ℕ). Contains x t) (there c other) m)))
            (cases_eq c d),
        λ en. ⊎_elim
            (λ old. let was = (h.members c t low).1 old in ⊎_elim
            (λ (eq : c ≡ d).
            subst (λ j. Contains (get_or gs' j []) t) (sym eq)
            (subst (λ (x : List ℕ). Contains x t) (sym here)
            (Contains-append_left (get_or gs d []) ((first + k) ∷ []) t (subst (λ j. Contains (get_or gs j []) t) eq was))))
            (λ other. subst (λ (x : List ℕ). Contains x t) (sym (there c other)) was)
            (cases_eq c d))
            (λ new. let eq : c ≡ d = sym new.2 ∙ sym e in
            subst (λ j. Contains (get_or gs' j []) t) (sym eq) (subst (λ (x : List ℕ). Contains x t) (sym here) (subst (Contains grown) (sym new.0) (Contains-push (get_or gs d []) (first + k)))))
            (entered_cases allowed enters first k c t en),
      );
    }

-- a write into the group of a class
pub group_written : (gs gs' : List (Vec ℕ Global)) (d x : ℕ) (v : Vec ℕ Global) (old : Vec ℕ Global) → gs' ≡ set gs d v → d < length gs
    → old ≡ get_or gs d old → v.items ≡ old.items ++ x ∷ [] → all_items gs' ≡ set (all_items gs) d (get_or (all_items gs) d [] ++ x ∷ [])
group_written gs gs' d x v old e l read grown =
    let was : old.items ≡ get_or (all_items gs) d [] = ap (λ (w : Vec ℕ Global). w.items) read ∙ items_at gs d old l in
    ap all_items e ∙ map-set (λ (w : Vec ℕ Global). w.items) gs d v ∙ ap (set (all_items gs) d) (grown ∙ ap (λ (xs : List ℕ). xs ++ x ∷ []) was)
  where
    items_at : (gs : List (Vec ℕ Global)) (d : ℕ) (o : Vec ℕ Global) → d < length gs → (get_or gs d o).items ≡ get_or (all_items gs) d []
    items_at [] d o l = absurd (omega (arith, l))
    items_at (g ∷ gs) zero o l = refl
    items_at (g ∷ gs) (suc d) o l = items_at gs d o (omega (arith, l))
