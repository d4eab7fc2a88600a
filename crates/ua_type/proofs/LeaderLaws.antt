-- Leaders of blocks and the numbers of their blocks.
use Rattle.std.proofs.Common.{◌≡◌, ℕ, zero, suc, ◌+◌, ◌-◌, ◌<◌, ◌≤◌, Bool, true, false, cond, List, [], ◌∷◌, ◌++◌, length, get_or, refl, sym, ap, ◌∙◌, subst, arith, ⊎_elim}
use Rattle.std.specs.Prelude.{slice_index, ◌==◌}
use Rattle.std.specs.List.{filter, range_with_len}
use Rattle.std.proofs.Math.ListN.{get_or-append}
use Rattle.std.proofs.Math.Seq.{get_or-append_seam}
use Rattle.std.proofs.lemmas.Bool.{cases_lt, eq-eqb, eqb-true}
use Rattle.ua_part.specs.Partitions.{Partition}
use Rattle.ua_part.specs.Blocks.{leaders}
use Rattle.ua_part.proofs.BlockLaws.{passed_more, counted_more}
use Rattle.ua_prod.specs.Constructions.{blocks_below}
use Rattle.ua_type.specs.Quotients.{leader_of}

module _ (p : Partition) where
  abbrev leads : ℕ → Bool
  leads a = slice_index p a == a

  -- the leaders below a number
  abbrev below : ℕ → List ℕ
  below n = filter leads (range_with_len 0 n)

  more_leader : (n : ℕ) → leads n ≡ true → below (n + 1) ≡ below n ++ n ∷ []
  more_leader n is = passed_more leads n ∙ ap (λ b. below n ++ cond b (n ∷ []) []) is

  more_other : (n : ℕ) → leads n ≡ false → below (n + 1) ≡ below n ++ []
  more_other n is = passed_more leads n ∙ ap (λ b. below n ++ cond b (n ∷ []) []) is

  counted_leader : (n : ℕ) → leads n ≡ true → length (below (n + 1)) ≡ length (below n) + 1
  counted_leader n is = counted_more leads n ∙ ap (λ b. length (below n) + cond b 1 0) is

  counted_other : (n : ℕ) → leads n ≡ false → length (below (n + 1)) ≡ length (below n) + 0
  counted_other n is = counted_more leads n ∙ ap (λ b. length (below n) + cond b 1 0) is

  -- a leader, its number among those below n
  record IsLeaderAt (n k : ℕ) : Type 0 where
    within : get_or (below n) k 0 < n
    leads_itself : slice_index p (get_or (below n) k 0) ≡ get_or (below n) k 0
    number : length (below (get_or (below n) k 0)) ≡ k

  leader_at : (n k : ℕ) → k < length (below n) → IsLeaderAt n k
  leader_at zero k w = absurd (omega (arith, w))
  leader_at (suc n) k w =
      let e : n + 1 ≡ suc n = omega arith in
      subst (λ m. IsLeaderAt m k) e (at_more (λ low. leader_at n k low) (leads n) refl (subst (λ m. k < length (below m)) (sym e) w))
    where
      here : leads n ≡ true → k ≡ length (below n) → IsLeaderAt (n + 1) k
      here is last =
          let at_last : get_or (below (n + 1)) k 0 ≡ n = ap (λ (xs : List ℕ). get_or xs k 0) (more_leader n is) ∙ ap (λ j. get_or (below n ++ n ∷ []) j 0) last ∙ get_or-append_seam (below n) n [] 0 in
          record {
            within = omega (arith, at_last);
            leads_itself = subst (λ x. slice_index p x ≡ x) (sym at_last) (eqb-true (slice_index p n) n is);
            number = ap (λ x. length (below x)) at_last ∙ sym last;
          }

      before : IsLeaderAt n k → (ys : List ℕ) → below (n + 1) ≡ below n ++ ys → k < length (below n) → IsLeaderAt (n + 1) k
      before old ys is low =
          let same : get_or (below (n + 1)) k 0 ≡ get_or (below n) k 0 = ap (λ (xs : List ℕ). get_or xs k 0) is ∙ get_or-append (below n) ys 0 k low in
          record {
            within = (let w = old.within in omega (arith, same, w));
            leads_itself = subst (λ x. slice_index p x ≡ x) (sym same) old.leads_itself;
            number = ap (λ x. length (below x)) same ∙ old.number;
          }

      at_more : (k < length (below n) → IsLeaderAt n k) → (b : Bool) → leads n ≡ b → k < length (below (n + 1)) → IsLeaderAt (n + 1) k
      at_more old true is w = let c = counted_leader n is in ⊎_elim (λ low. before (old low) (n ∷ []) (more_leader n is) low) (λ high. here is (omega (arith, w, c, high))) (cases_lt k (length (below n)))
      at_more old false is w = let c = counted_other n is in let low : k < length (below n) = omega (arith, w, c) in before (old low) [] (more_other n is) low

  -- a number's leader leads itself, and has that number
  pub record IsLeader (k : ℕ) : Type 0 where
    pub within : leader_of p k < length p
    pub leads_itself : slice_index p (leader_of p k) ≡ leader_of p k
    pub number : blocks_below p (leader_of p k) ≡ k

  pub leader_is : (k : ℕ) → k < length (leaders p) → IsLeader k
  leader_is k w = let r = leader_at (length p) k w in record { within = r.within; leads_itself = r.leads_itself; number = r.number }

  stands_at : (n x : ℕ) → x < n → slice_index p x ≡ x → (length (below x) < length (below n)) × (get_or (below n) (length (below x)) 0 ≡ x)
  stands_at zero x w is = absurd (omega (arith, w))
  stands_at (suc n) x w is =
      let e : n + 1 ≡ suc n = omega arith in
      subst (λ m. (length (below x) < length (below m)) × (get_or (below m) (length (below x)) 0 ≡ x)) e
      (⊎_elim (λ low. before (stands_at n x low is) (leads n) refl) (λ high. last (omega (arith, w, high))) (cases_lt x n))
    where
      before : (length (below x) < length (below n)) × (get_or (below n) (length (below x)) 0 ≡ x) → (b : Bool) → leads n ≡ b → (length (below x) < length (below (n + 1))) × (get_or (below (n + 1)) (length (below x)) 0 ≡ x)
      before old true b_is =
          let w = old.0 in
          let c = counted_leader n b_is in
          (omega (arith, w, c), ap (λ (xs : List ℕ). get_or xs (length (below x)) 0) (more_leader n b_is) ∙ get_or-append (below n) (n ∷ []) 0 (length (below x)) old.0 ∙ old.1)
      before old false b_is =
          let w = old.0 in
          let c = counted_other n b_is in
          (omega (arith, w, c), ap (λ (xs : List ℕ). get_or xs (length (below x)) 0) (more_other n b_is) ∙ get_or-append (below n) [] 0 (length (below x)) old.0 ∙ old.1)

      last : x ≡ n → (length (below x) < length (below (n + 1))) × (get_or (below (n + 1)) (length (below x)) 0 ≡ x)
      last same =
          let is_n : leads n ≡ true = eq-eqb (slice_index p n) n (subst (λ y. slice_index p y ≡ y) same is) in
          let c = counted_leader n is_n in
          let count : length (below x) ≡ length (below n) = ap (λ y. length (below y)) same in
          (omega (arith, c, count), ap (λ (xs : List ℕ). get_or xs (length (below x)) 0) (more_leader n is_n) ∙ ap (λ k. get_or (below n ++ n ∷ []) k 0) count ∙ get_or-append_seam (below n) n [] 0 ∙ sym same)

  -- what leads itself is the leader of its number
  pub number_leads : (x : ℕ) → x < length p → slice_index p x ≡ x → (blocks_below p x < length (leaders p)) × (leader_of p (blocks_below p x) ≡ x)
  number_leads x w is = stands_at (length p) x w is

  grows : (x d : ℕ) → length (below x) ≤ length (below (x + d))
  grows x zero = let e : x ≡ x + 0 = omega arith in subst (λ y. length (below x) ≤ length (below y)) e (omega arith)
  grows x (suc d) =
      let e : x + d + 1 ≡ x + suc d = omega arith in
      let c = counted_more leads (x + d) in
      subst (λ y. length (below x) ≤ length (below y)) e (omega (arith, c, grows x d))

  -- fewer blocks lead below a lower number
  pub numbers_grow : (x y : ℕ) → x ≤ y → blocks_below p x ≤ blocks_below p y
  numbers_grow x y w = let e : x + (y - x) ≡ y = omega (arith, w) in subst (λ z. length (below x) ≤ length (below z)) e (grows x (y - x))
