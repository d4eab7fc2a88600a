-- What asking the pairs that a pair generates tells, and how a descent goes on.
use Rattle.std.proofs.Common.{◌≡◌, ◌≢◌, ⊎_elim, ℕ, ◌+◌, ◌<◌, ◌≤◌, Bool, List, [], ◌∷◌, ◌++◌, length, replicate, sym, ◌∙◌, subst, arith, Option, Some, None}
use Rattle.std.specs.Prelude.{Contains, IsTrue, ◌↔◌, slice_index, slice_index_or, slice_get}
use Rattle.std.specs.List.{AllByRecursion}
use Rattle.std.specs.Option.{IsSomeAnd}
use Rattle.std.proofs.lemmas.Bool.{cases_lt}
use Rattle.std.proofs.lemmas.List.{get_or_default}
use Rattle.std.proofs.lemmas.Option.{get_or_from_slice_get}
use Rattle.ua_table.specs.Algebras.{Vector, FiniteAlgebra, IsAlgebra}
use Rattle.ua_table.specs.Listings.{Row, vectors_of}
use Rattle.ua_table.proofs.Lists.{Contains-slice_get, all_append, all_weaker}
use Rattle.ua_table.proofs.ListingLaws.{closed_has_no_more}
use Rattle.ua_type.specs.declared.known.SubtracePair.{SubtracePair}
use Rattle.ua_type.specs.declared.descents.Descent.{Descent}
use Rattle.ua_type.specs.Subtraces.{pair_generators, Generates}
use Rattle.ua_type.specs.Trials.{HasMorePairs}
use Rattle.ua_type.specs.Outcomes.{IsMinimal}
use Rattle.ua_type.specs.inner.Outcomes.{GoesBack, IsVain}
use Rattle.ua_type.specs.Known.{IsSettled}
use Rattle.ua_type.specs.inner.Marks.{ArePairRows}
use Rattle.ua_type.specs.inner.Descents.{AreGenerated, IsLacking, LeadsTo, IsDescent}
use Rattle.ua_type.proofs.GeneratedPairs.{generates_itself, generates_through}
use Rattle.ua_type.proofs.TrialLaws.{row_pair, within_budget}

-- the first n rows go back to the pair
abbrev pub GoBackBelow : FiniteAlgebra → Descent → ℕ → Type 0
GoBackBelow b d n = (j : ℕ) → j < n → GoesBack b (slice_index_or (vectors_of d.list) j []) d.pair

module _ (b : FiniteAlgebra) (budget : ℕ) where
  -- a descent with one more pair above
  pub descent_more : (old new : Descent) (q : ℕ × ℕ) → new.pair ≡ old.pair → new.list ≡ old.list → new.above.items ≡ old.above.items ++ q ∷ [] → LeadsTo b budget old.pair q → IsDescent b budget old → IsDescent b budget new
  descent_more old new q same list above leads d = record {
    first = subst (λ (p : ℕ × ℕ). p.0 < b.size) (sym same) d.first;
    second = subst (λ (p : ℕ × ℕ). p.1 < b.size) (sym same) d.second;
    differ = subst (λ (p : ℕ × ℕ). p.0 ≢ p.1) (sym same) d.differ;
    closed = subst (λ (p : ℕ × ℕ). AreGenerated b budget p new.list) (sym same) (subst (AreGenerated b budget old.pair) (sym list) d.closed);
    above = subst (λ (p : ℕ × ℕ). AllByRecursion (LeadsTo b budget p) new.above.items) (sym same)
        (subst (AllByRecursion (LeadsTo b budget old.pair)) (sym above) (all_append (LeadsTo b budget old.pair) old.above.items (q ∷ []) d.above (leads, tt)));
  }

  module _ (alg : IsAlgebra b) (d : Descent) (h : IsDescent b budget d) (i : ℕ) (row : Vector) (at : slice_get (vectors_of d.list) i ≡ Some row) where
    there : Contains (vectors_of d.list) row
    there = Contains-slice_get (vectors_of d.list) i row at

    pub row_width : length row ≡ 2
    row_width = (row_pair b budget d.pair.0 d.pair.1 alg h.first h.second d.list h.closed row there).pair.width

    pub row_first : slice_index row 0 < b.size
    row_first = (row_pair b budget d.pair.0 d.pair.1 alg h.first h.second d.list h.closed row there).pair.first

    pub row_second : slice_index row 1 < b.size
    row_second = (row_pair b budget d.pair.0 d.pair.1 alg h.first h.second d.list h.closed row there).pair.second

    pub row_within : ¬ HasMorePairs b budget (slice_index row 0) (slice_index row 1)
    row_within = (row_pair b budget d.pair.0 d.pair.1 alg h.first h.second d.list h.closed row there).within

    pub row_generated : Generates b d.pair.0 d.pair.1 (slice_index row 0) (slice_index row 1)
    row_generated = (row_pair b budget d.pair.0 d.pair.1 alg h.first h.second d.list h.closed row there).generated

    pub row_leads : slice_index row 0 ≢ slice_index row 1 → GoesBack b row d.pair → LeadsTo b budget d.pair (slice_index row 0, slice_index row 1)
    row_leads differ back = (row_within, back differ)

    -- a settled row settles the pair
    pub row_settles : (least : Option SubtracePair) → IsSomeAnd least (λ l. IsSettled b budget l (slice_index row 0) (slice_index row 1)) → IsSomeAnd least (λ l. IsSettled b budget l d.pair.0 d.pair.1)
    row_settles None s = absurd s
    row_settles (Some l) s = record {
      within = within_budget b budget d.pair.0 d.pair.1 alg h.first h.second d.list h.closed;
      first = s.first;
      second = s.second;
      generated = generates_through b d.pair.0 d.pair.1 (slice_index row 0) (slice_index row 1) s.first s.second row_generated s.generated;
      differ = s.differ;
      none_before = s.none_before;
    }

    -- one more row goes back
    pub one_back : GoesBack b row d.pair → GoBackBelow b d i → GoBackBelow b d (i + 1)
    one_back back before j w =
        ⊎_elim
        (λ less. before j less)
        (λ more.
        let is : i ≡ j = omega (arith, more, w) in
        let here = get_or_from_slice_get (vectors_of d.list) i row [] at in
        subst (λ k. GoesBack b (slice_index_or (vectors_of d.list) k []) d.pair) is (subst (λ v. GoesBack b v d.pair) (sym here) back))
        (cases_lt j i)

  -- the same of another descent with this pair and list
  pub back_below : (old new : Descent) (n : ℕ) → new.pair ≡ old.pair → new.list ≡ old.list → GoBackBelow b old n → GoBackBelow b new n
  back_below old new n same list h j w =
      subst (λ (p : ℕ × ℕ). GoesBack b (slice_index_or (vectors_of new.list) j []) p) (sym same)
      (subst (λ (rows : List Row). GoesBack b (slice_index_or (vectors_of rows) j []) old.pair) (sym list) (h j w))

  -- each pair of different elements that the pair generates goes back
  pub all_back : (d : Descent) (n : ℕ) → IsDescent b budget d → length (vectors_of d.list) ≤ n → GoBackBelow b d n → (c e : ℕ) → Generates b d.pair.0 d.pair.1 c e → c ≢ e → Generates b c e d.pair.0 d.pair.1
  all_back d n h all back c e g apart =
      let vs = vectors_of d.list in
      let in_it = (h.closed.exact (c ∷ e ∷ [])).1 g in
      let at : slice_index_or vs in_it.0 [] ≡ c ∷ e ∷ [] = get_or_default vs in_it.0 [] (c ∷ e ∷ []) in_it.1 ∙ in_it.2 in
      let low = in_it.1 in
      subst (λ v. GoesBack b v d.pair) at (back in_it.0 (omega (arith, low, all))) apart

  -- a descent goes on to a pair that lacks the pair
  pub descent_down : (old new : Descent) (q : ℕ × ℕ) → new.pair ≡ q → new.above.items ≡ old.above.items ++ q ∷ []
      → Generates b old.pair.0 old.pair.1 q.0 q.1 → IsLacking b budget q old.pair new.list → IsDescent b budget old → IsDescent b budget new
  descent_down old new q same above g lacking d = record {
    first = subst (λ (p : ℕ × ℕ). p.0 < b.size) (sym same) lacking.first;
    second = subst (λ (p : ℕ × ℕ). p.1 < b.size) (sym same) lacking.second;
    differ = subst (λ (p : ℕ × ℕ). p.0 ≢ p.1) (sym same) lacking.differ;
    closed = subst (λ (p : ℕ × ℕ). AreGenerated b budget p new.list) (sym same) lacking.closed;
    above = subst (λ (p : ℕ × ℕ). AllByRecursion (LeadsTo b budget p) new.above.items) (sym same)
        (subst (AllByRecursion (LeadsTo b budget q)) (sym above)
        (all_append (LeadsTo b budget q) old.above.items (q ∷ [])
        (all_weaker (LeadsTo b budget old.pair) (LeadsTo b budget q) (λ p leads. (leads.0, generates_through b p.0 p.1 old.pair.0 old.pair.1 q.0 q.1 leads.1 g)) old.above.items d.above)
        ((lacking.within, generates_itself b q.0 q.1), tt)));
  }

  -- rows have two elements
  pub rows_two : IsAlgebra b → (d : Descent) → IsDescent b budget d → (v : Vector) → Contains (vectors_of d.list) v → length v ≡ 2
  rows_two alg d h v c = (row_pair b budget d.pair.0 d.pair.1 alg h.first h.second d.list h.closed v c).pair.width

  pub pair_rows : IsAlgebra b → (d : Descent) → IsDescent b budget d → ArePairRows b d.list
  pair_rows alg d h v c = let p = (row_pair b budget d.pair.0 d.pair.1 alg h.first h.second d.list h.closed v c).pair in (p.width, p.first, p.second)

  -- where the pair and what it generates stay, what it generates of the first pair stays
  pub stays : (x y : ℕ) (old new : Descent) → new.pair ≡ old.pair → Generates b x y old.pair.0 old.pair.1 → Generates b x y new.pair.0 new.pair.1
  stays x y old new same g = subst (λ (p : ℕ × ℕ). Generates b x y p.0 p.1) (sym same) g

  within_of : (d : Descent) → IsDescent b budget d → ¬ HasMorePairs b budget d.pair.0 d.pair.1
  within_of d h = closed_has_no_more (replicate 2 b) (pair_generators b d.pair.0 d.pair.1) budget d.list h.closed

  -- what sifting tells of the pair
  pub sifted_minimal : (d : Descent) (swap : Bool) → IsDescent b budget d
      → ((c e : ℕ) → Generates b d.pair.0 d.pair.1 c e → c ≢ e → Generates b c e d.pair.0 d.pair.1)
      → (IsTrue swap ↔ Contains (vectors_of d.list) (d.pair.1 ∷ d.pair.0 ∷ [])) → IsMinimal b budget d.pair.0 d.pair.1 swap
  sifted_minimal d swap h all told = record {
    within = within_of d h;
    minimal = all;
    swaps = (λ t. (h.closed.exact (d.pair.1 ∷ d.pair.0 ∷ [])).0 (told.0 t), λ g. told.1 ((h.closed.exact (d.pair.1 ∷ d.pair.0 ∷ [])).1 g));
  }

  pub sifted_vain : (d : Descent) (q : ℕ × ℕ) (rows : List Row) → IsDescent b budget d → Generates b d.pair.0 d.pair.1 q.0 q.1 → IsLacking b budget q d.pair rows → IsVain b budget d.pair.0 d.pair.1
  sifted_vain d q rows h g lacking = record {
    within = within_of d h;
    refuted = record { first = q.0; second = q.1; generated = g; differ = lacking.differ; lacks = lacking.lacks };
  }

  -- a descent begins at a pair
  pub first_descent : (pair : ℕ × ℕ) (d : Descent) → d.pair ≡ pair → d.above.items ≡ pair ∷ [] → pair.0 < b.size → pair.1 < b.size → pair.0 ≢ pair.1 → AreGenerated b budget pair d.list → IsDescent b budget d
  first_descent pair d same above first second differ closed = record {
    first = subst (λ (p : ℕ × ℕ). p.0 < b.size) (sym same) first;
    second = subst (λ (p : ℕ × ℕ). p.1 < b.size) (sym same) second;
    differ = subst (λ (p : ℕ × ℕ). p.0 ≢ p.1) (sym same) differ;
    closed = subst (λ (p : ℕ × ℕ). AreGenerated b budget p d.list) (sym same) closed;
    above = subst (λ (p : ℕ × ℕ). AllByRecursion (LeadsTo b budget p) d.above.items) (sym same)
        (subst (AllByRecursion (LeadsTo b budget pair)) (sym above)
        ((closed_has_no_more (replicate 2 b) (pair_generators b pair.0 pair.1) budget d.list closed, generates_itself b pair.0 pair.1), tt));
  }
