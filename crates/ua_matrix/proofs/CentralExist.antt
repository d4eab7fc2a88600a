-- That it is told whether a congruence centralizes another modulo a third: in a closed listing of the matrices each goes, or some is the first that fails.
use Rattle.std.proofs.Common.{◌≡◌, ◌≢◌, ◌⊎◌, inl, inr, ⊎_elim, ℕ, ◌<◌, ◌≤◌, true, false, List, [], ◌∷◌, length, replicate, Some, Result, Ok, Err, refl, sym, ap, ◌∙◌, subst, arith}
use Rattle.std.specs.Prelude.{Contains, slice_get, slice_index, slice_index_or}
use Rattle.std.specs.Cmp.{nat_cmp_is}
use Rattle.std.specs.Cmp.Lexicographic.{slice_cmp}
use Rattle.std.specs.List.{AllByRecursion, range_with_len}
use Rattle.std.specs.Ordering.{nat_cmp, ordering_then, is_gt}
use Rattle.std.specs.declared.cmp.Ordering.TheVariants.{Equal, Greater}
use Rattle.std.proofs.lemmas.Bool.{cases_lt}
use Rattle.std.proofs.lemmas.List.{length-map}
use Rattle.std.proofs.lemmas.Option.{slice_get-get_or}
use Rattle.ua_table.specs.Algebras.{Vector, FiniteAlgebra, Product, IsAlgebra, IsVector, arities}
use Rattle.ua_table.specs.Listings.{Row, vectors_of, IsClosedListing}
use Rattle.ua_table.specs.Numbering.{records}
use Rattle.ua_table.proofs.Choices.{in_range, range_low}
use Rattle.ua_table.proofs.Firsts.{IsFirstOf, NonePasses, first_of}
use Rattle.ua_table.proofs.ListingLaws.{closed_has_no_more, exceeding_has_more}
use Rattle.ua_table.proofs.Lists.{Contains-slice_get}
use Rattle.ua_close.specs.declared.close.Closure.{Closure}
use Rattle.ua_close.specs.declared.close.Closure.TheVariants as closures
use Rattle.ua_close.specs.declared.close.CloseError.{CloseError}
use Rattle.ua_close.specs.declared.close.CloseError.TheVariants.{Wide, OutOfMemory}
use Rattle.ua_close.specs.Answers.{cells, IsWide, Answers, IsSerialAnswer}
use Rattle.ua_close.specs.Needed.{rank_at}
use Rattle.ua_close.specs.Permitted.{IsAnswerable}
use Rattle.ua_close.proofs.AnswerLaws.{wide_or}
use Rattle.ua_close.proofs.KindLaws.{one_kind, members_vectors}
use Rattle.ua_close.proofs.RowSteps.{steps_exist}
use Rattle.ua_part.specs.Partitions.{Partition}
use Rattle.ua_prod.specs.Congruences.{IsCongruence}
use Rattle.ua_cong.proofs.LeastLaws.{same_or}
use Rattle.ua_matrix.specs.declared.centrality.Central.{Central}
use Rattle.ua_matrix.specs.declared.centrality.Central.TheVariants.{Yes, No, Exceeds}
use Rattle.ua_matrix.specs.Matrices.{matrix_generators, AreFour, Fails}
use Rattle.ua_matrix.specs.Answers.{HasMoreMatrices}
use Rattle.ua_matrix.specs.Permitted.{MayBeCentral}
use Rattle.ua_matrix.specs.inner.Answers.{IsJudged}
use Rattle.ua_matrix.proofs.CentralLaws.{not_central, centralizes_from_list}
use Rattle.ua_matrix.proofs.FailureLaws.{all_go}
use Rattle.ua_matrix.proofs.MatrixLaws.{fourth_product, generators_vectors, rows_four, may_judge}

-- ---- more matrices than the budget

-- there are more matrices than the budget or not
pub more_or : (a : FiniteAlgebra) (alpha beta : Partition) (b : ℕ) → IsAlgebra a → IsCongruence a alpha → IsCongruence a beta → HasMoreMatrices a alpha beta b ⊎ (HasMoreMatrices a alpha beta b → ⊥)
more_or a alpha beta b alg ca cb = let h = one_kind p gens (fourth_product a alg) (generators_vectors a alpha beta ca cb) b in by h.closure h.answers
  where
    p : Product
    p = replicate 4 a

    gens : List Vector
    gens = matrix_generators alpha beta

    by : (closure : Closure) → Answers p gens b closure → HasMoreMatrices a alpha beta b ⊎ (HasMoreMatrices a alpha beta b → ⊥)
    by (closures.Closed rows) h = inr (closed_has_no_more p gens b rows h)
    by (closures.Exceeds rows) h = inl (exceeding_has_more p gens b rows h)

-- ---- what is told if not too wide

pub told_ok : {A : Type 0} (x : A) (r : Result A CloseError) → r ≡ Ok x → r ≢ Err OutOfMemory
told_ok x r is e = cc

pub told_wide : {A : Type 0} (n c : ℕ) (r : Result A CloseError) → r ≡ Err (Wide n c) → r ≢ Err OutOfMemory
told_wide n c r is e = cc

-- an answer that is no refusal, unless the matrices are too wide
pub answered : {A : Type 0} (a : FiniteAlgebra) (alpha beta : Partition) (b : ℕ) (May : Result A CloseError → Type 0)
    → (IsWide (replicate 4 a) (matrix_generators alpha beta) b → May (Err (Wide (records (arities (replicate 4 a)) (length (matrix_generators alpha beta)) b) (cells (replicate 4 a) b))))
    → (¬ IsWide (replicate 4 a) (matrix_generators alpha beta) b → (x : A) × May (Ok x)) → IsAnswerable May OutOfMemory
answered a alpha beta b May refused found = ⊎_elim
    (λ wide.
    let n = records (arities (replicate 4 a)) (length (matrix_generators alpha beta)) b in
    let c = cells (replicate 4 a) b in
    record { answer = Err (Wide n c); permitted = refused wide; told = told_wide n c (Err (Wide n c)) refl })
    (λ narrow. let f = found narrow in record { answer = Ok f.0; permitted = f.1; told = told_ok f.0 (Ok f.0) refl })
    (wide_or (replicate 4 a) (matrix_generators alpha beta) b)

-- ---- the first matrix that fails

fails_or : (delta : Partition) (m : Vector) → Fails delta m ⊎ (Fails delta m → ⊥)
fails_or delta m = ⊎_elim
    (λ first. ⊎_elim (λ second. inr (λ h. h.second second)) (λ no. inl (record { first = first; second = no })) (same_or delta (slice_index m 2) (slice_index m 3)))
    (λ no. inr (λ h. no h.first))
    (same_or delta (slice_index m 0) (slice_index m 1))

up_to : (m n : ℕ) → is_gt (slice_cmp nat_cmp (m ∷ []) (n ∷ [])) ≡ false → m ≤ n
up_to m n h = ⊎_elim
    (λ l. absurd (let bad : true ≡ false = ap (λ o. is_gt (ordering_then o Equal)) (nat_cmp_is m n Greater l) ∙ h in cc))
    (λ le. le)
    (cases_lt n m)

module _ (a : FiniteAlgebra) (alpha beta delta : Partition) (b w : ℕ) (alg : IsAlgebra a) (ca : IsCongruence a alpha) (cb : IsCongruence a beta) (cd : IsCongruence a delta) where
  abbrev p : Product
  p = replicate 4 a

  abbrev gens : List Vector
  gens = matrix_generators alpha beta

  admitted : AllByRecursion (IsVector p) gens
  admitted = generators_vectors a alpha beta ca cb

  -- ---- in a closed listing

  module _ (rows : List Row) (closed : IsClosedListing p gens b rows) where
    abbrev FailsAt : ℕ → Type 0
    FailsAt i = Fails delta (slice_index_or (vectors_of rows) i [])

    abbrev key : ℕ → List ℕ
    key i = rank_at rows i ∷ []

    abbrev places : List ℕ
    places = range_with_len 0 (length (vectors_of rows))

    place_in : (i : ℕ) → i < length (vectors_of rows) → Contains places i
    place_in i low = in_range 0 (length (vectors_of rows)) i (omega arith) (omega (arith, low))

    record HasJudgement : Type 0 where
      central : Central
      judged : IsJudged a alpha beta delta rows central

    refuted : IsFirstOf key FailsAt places → HasJudgement
    refuted r =
        let i = r.item in
        let m = slice_index_or (vectors_of rows) i [] in
        let low = range_low 0 (length (vectors_of rows)) i r.among in
        let within : i < length (vectors_of rows) = omega (arith, low.1) in
        let count = length-map rows (λ (r : Row). r.vector) in
        let stands : slice_get (vectors_of rows) i ≡ Some m = slice_get-get_or (vectors_of rows) i [] within in
        let steps = steps_exist p gens rows closed.listing i (omega (arith, within, count)) in
        let generated = (closed.exact m).0 (Contains-slice_get (vectors_of rows) i m stands) in
        record {
          central = No m steps.steps;
          judged = (
            not_central a alpha beta delta m generated r.passes,
            record { generated = generated; fails = r.passes; value = steps.value m stands },
            record {
              place = i;
              stands = stands;
              first = record { within = within; fails = r.passes; least = λ j low fails. up_to (rank_at rows i) (rank_at rows j) (r.first j (place_in j low) fails) };
              steps_are = steps.needed;
            },
          );
        }

    confirmed : NonePasses key FailsAt places → HasJudgement
    confirmed none =
        let vectors = members_vectors p gens (fourth_product a alg) admitted in
        let four = subst (λ n. AllByRecursion (AreFour n) (vectors_of rows)) (sym cd.size) (rows_four a alpha beta vectors rows closed.listing) in
        record {
          central = Yes;
          judged = centralizes_from_list a alpha beta delta (vectors_of rows) (λ m. closed.exact m) (all_go delta (vectors_of rows) four (λ j low fails. none j (place_in j low) fails));
        }

    judgement_exists : HasJudgement
    judgement_exists = ⊎_elim refuted confirmed (first_of key FailsAt (λ i. fails_or delta (slice_index_or (vectors_of rows) i [])) places)

  -- ---- the answer

  central_found : ¬ IsWide p gens b → (central : Central) × MayBeCentral a alpha beta delta b w (Ok central)
  central_found narrow = let h = one_kind p gens (fourth_product a alg) admitted b in by h.closure h.answers h.serial
    where
      by : (closure : Closure) → Answers p gens b closure → IsSerialAnswer p gens closure → (central : Central) × MayBeCentral a alpha beta delta b w (Ok central)
      by (closures.Closed rows) closed serial = let j = judgement_exists rows closed in (j.central, may_judge a alpha beta delta b w rows narrow closed (λ one. serial) j.central j.judged)
      by (closures.Exceeds rows) exceeding serial = (Exceeds, (narrow, exceeding_has_more p gens b rows exceeding, λ one. tt))

  pub central_told : IsAnswerable (MayBeCentral a alpha beta delta b w) OutOfMemory
  central_told = answered a alpha beta b (MayBeCentral a alpha beta delta b w) (λ wide. (wide, refl, refl)) central_found
