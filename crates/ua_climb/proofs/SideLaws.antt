-- The network of two kinds of links.
use Rattle.std.proofs.Common.{◌≡◌, ℕ, zero, suc, ◌+◌, ◌<◌, ◌≤◌, ◌^◌, Bool, List, [], ◌∷◌, ◌++◌, length, map, get_or, refl, sym, ap, ◌∙◌, subst, arith}
use Rattle.std.specs.Prelude.{Contains, slice_index_or}
use Rattle.std.specs.List.{AllByRecursion}
use Rattle.std.proofs.lemmas.List.{length-append, length-map, get_or_append_left, get_or-append-add, get_or_default}
use Rattle.std.proofs.lemmas.List.Elements.{recursion_from_All}
use Rattle.ua_table.proofs.Lists.{all_append, all_from_contains}
use Rattle.ua_climb.specs.Networks.{Network, IsNetwork, members_of}
use Rattle.ua_climb.specs.Ladders.{LinkLists, AreLinks}
use Rattle.ua_climb.specs.inner.Sides.{AreGroups, IsOfLinks}

-- classes below one bound stay below a greater one, also when they are moved up
below_more : (xs : List ℕ) (m n : ℕ) → m ≤ n → AllByRecursion (λ c. c < m) xs → AllByRecursion (λ c. c < n) xs
below_more [] m n l h = tt
below_more (x ∷ xs) m n l h = (let low = h.0 in omega arith, below_more xs m n l h.1)

moved_below : (xs : List ℕ) (e m n : ℕ) → e + m ≤ n → AllByRecursion (λ c. c < m) xs → AllByRecursion (λ c. c < n) (map (λ c. e + c) xs)
moved_below [] e m n l h = tt
moved_below (x ∷ xs) e m n l h = (let low = h.0 in omega arith, moved_below xs e m n l h.1)

moved_at : (xs : List ℕ) (e i : ℕ) → i < length xs → get_or (map (λ c. e + c) xs) i 0 ≡ e + get_or xs i 0
moved_at [] e i l = absurd (omega (arith, l))
moved_at (x ∷ xs) e zero l = refl
moved_at (x ∷ xs) e (suc i) l = moved_at xs e i (omega (arith, l))

-- the members of groups are states
groups_within : (allowed : List Bool) (enters : List ℕ) (classes first m : ℕ) (gs : List (List ℕ)) → AreGroups allowed enters classes first (length allowed) gs → first + length allowed ≤ m → AllByRecursion (AllByRecursion (λ t. t < m)) gs
groups_within allowed enters classes first m gs h l =
    recursion_from_All (AllByRecursion (λ t. t < m)) gs (λ c d low. all_from_contains (λ t. t < m) (get_or gs c d) (λ t k.
    let here : Contains (slice_index_or gs c []) t = subst (λ (x : List ℕ). Contains x t) (get_or_default gs c d [] low) k in
    let e = (h.members c t (let n = h.count in omega arith)).0 here in
    let row = e.low in let is = e.is in omega arith))

pub is_network : (allowed : List Bool) (even odd : LinkLists) (leads : List ℕ) (ge go members : List (List ℕ))
    → AreLinks even.leads even.enters even.classes → AreLinks odd.leads odd.enters odd.classes → length even.leads ≡ length allowed
    → length odd.leads ≡ length allowed → length allowed + length allowed < 2 ^ 32 → leads ≡ even.leads ++ map (λ c. even.classes + c) odd.leads
    → AreGroups allowed even.enters even.classes (length allowed) (length allowed) ge → AreGroups allowed odd.enters odd.classes 0 (length allowed) go
    → members ≡ ge ++ go → IsNetwork leads members
is_network allowed even odd leads ge go members el ol en on room e hge hgo m =
    let moved = map (λ c. even.classes + c) odd.leads in
    let long : length leads ≡ length allowed + length allowed = ap length e ∙ length-append even.leads moved ∙ (let a = length-map odd.leads (λ c. even.classes + c) in omega arith) in
    let many : length members ≡ even.classes + odd.classes = ap length m ∙ length-append ge go ∙ (let a = hge.count in let b = hgo.count in omega arith) in
    record {
      classes = subst (λ (xs : List ℕ). AllByRecursion (λ c. c < length members) xs) (sym e)
          (all_append (λ c. c < length members) even.leads moved
          (below_more even.leads even.classes (length members) (omega arith) el.leads_below)
          (moved_below odd.leads even.classes odd.classes (length members) (omega arith) ol.leads_below));
      states = subst (AllByRecursion (AllByRecursion (λ t. t < length leads))) (sym m)
          (all_append (AllByRecursion (λ t. t < length leads)) ge go
          (groups_within allowed even.enters even.classes (length allowed) (length leads) ge hge (omega arith))
          (groups_within allowed odd.enters odd.classes 0 (length leads) go hgo (omega arith)));
      few = let a = long in omega (arith, a, room);
    }

pub is_of_links : (allowed : List Bool) (even odd : LinkLists) (g : Network) (leads : List ℕ) (ge go members : List (List ℕ))
    → length even.leads ≡ length allowed → length odd.leads ≡ length allowed → leads ≡ even.leads ++ map (λ c. even.classes + c) odd.leads
    → AreGroups allowed even.enters even.classes (length allowed) (length allowed) ge → AreGroups allowed odd.enters odd.classes 0 (length allowed) go
    → members ≡ ge ++ go → g.leads ≡ leads → g.members ≡ members → IsOfLinks allowed even odd g
is_of_links allowed even odd g leads ge go members en on e hge hgo m gl gm =
    let moved = map (λ c. even.classes + c) odd.leads in
    let all = gl ∙ e in
    let groups = gm ∙ m in
    let ge_long = hge.count in
    record {
      states = ap length all ∙ length-append even.leads moved ∙ (let a = length-map odd.leads (λ c. even.classes + c) in omega arith);
      even_leads = λ i l. ap (λ (xs : List ℕ). get_or xs i 0) all ∙ get_or_append_left even.leads moved 0 i (omega arith);
      odd_leads = λ i l.
          let place : length allowed + i ≡ length even.leads + i = omega arith in
          ap (λ (xs : List ℕ). get_or xs (length allowed + i) 0) all ∙ ap (λ k. get_or (even.leads ++ moved) k 0) place ∙ get_or-append-add even.leads moved i 0 ∙ moved_at odd.leads even.classes i (omega arith);
      even_groups = λ c t l.
          let here : members_of g c ≡ get_or ge c [] = ap (λ (xs : List (List ℕ)). get_or xs c []) groups ∙ get_or_append_left ge go [] c (omega arith) in
          (λ k. (hge.members c t l).0 (subst (λ (x : List ℕ). Contains x t) here k), λ k. subst (λ (x : List ℕ). Contains x t) (sym here) ((hge.members c t l).1 k));
      odd_groups = λ c t l.
          let place : even.classes + c ≡ length ge + c = omega arith in
          let here : members_of g (even.classes + c) ≡ get_or go c [] = ap (λ (xs : List (List ℕ)). get_or xs (even.classes + c) []) groups ∙ ap (λ k. get_or (ge ++ go) k []) place ∙ get_or-append-add ge go c [] in
          (λ k. (hgo.members c t l).0 (subst (λ (x : List ℕ). Contains x t) here k), λ k. subst (λ (x : List ℕ). Contains x t) (sym here) ((hgo.members c t l).1 k));
    }
