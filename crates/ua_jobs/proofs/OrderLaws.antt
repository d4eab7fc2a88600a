-- Answers in the order of their numbers.
use Rattle.std.proofs.Common.{◌≡◌, ◌≢◌, ℕ, suc, ◌+◌, ◌<◌, ◌≤◌, List, [], ◌∷◌, length, map, drop, refl, sym, ap, ◌∙◌, subst, arith, ⊎_elim}
use Rattle.std.specs.Prelude.{slice_index_or}
use Rattle.std.specs.List.{AllByRecursion}
use Rattle.std.specs.List.Sorted.{IsPermutation, IsNonDecreasingBy}
use Rattle.std.proofs.Math.Seq.{drop-cons}
use Rattle.std.proofs.lemmas.Bool.{cases_lt}
use Rattle.std.proofs.lemmas.List.{drop_all, length-map}
use Rattle.std.proofs.lemmas.List.Sorted.{IsPermutation-map}
use Rattle.std.proofs.lemmas.Option.{get_or_from_slice_get}
use Rattle.ua_table.specs.Counting.{times, once_below, EachOnceBelow}
use Rattle.ua_table.proofs.Counts.{one_if-same, one_if-other, once_in, once_within, times-IsPermutation}
use Rattle.ua_jobs.specs.Harvests.{IsAnswer, AreAnswers, AnswerEach, numbered, numbers_of}
use Rattle.ua_jobs.proofs.Places.{holds_of}

module _ {O : Type 0} where
  -- the answers have the numbers from m on, in order
  abbrev NumbersFrom : ℕ → List (ℕ × O) → Type 0
  NumbersFrom m [] = Unit {0}
  NumbersFrom m (a ∷ xs) = (a.0 ≡ m) × NumbersFrom (suc m) xs

  abbrev IsRising : List (ℕ × O) → Type 0
  IsRising xs = IsNonDecreasingBy (λ (a : ℕ × O). a.0) xs

  -- where the numbers rise, the first is the least
  least_from : (x : ℕ) (xs : List (ℕ × O)) → ((j : ℕ) (d : ℕ × O) → j < length xs → x ≤ (slice_index_or xs j d).0) → AllByRecursion (λ y. x ≤ y) (numbers_of xs)
  least_from x [] h = tt
  least_from x (a ∷ xs) h = (h 0 a (omega arith), least_from x xs (λ j d l. h (suc j) d (omega (arith, l))))

  head_least : (a : ℕ × O) (xs : List (ℕ × O)) → IsRising (a ∷ xs) → AllByRecursion (λ y. a.0 ≤ y) (numbers_of (a ∷ xs))
  head_least a xs up = least_from a.0 (a ∷ xs) (λ j d l. up 0 j d (omega arith) l)

  tail_rises : (a : ℕ × O) (xs : List (ℕ × O)) → IsRising (a ∷ xs) → IsRising xs
  tail_rises a xs up = λ i j d le l. up (suc i) (suc j) d (omega (arith, le)) (omega (arith, l))

  -- rising numbers of which each from m to n stands once, and no other, are those numbers in order
  sorted_from : (xs : List (ℕ × O)) (m n : ℕ) → IsRising xs → ((k : ℕ) → k < m → times k (numbers_of xs) ≡ 0) → ((k : ℕ) → m ≤ k → times k (numbers_of xs) ≡ once_below n k) → m ≤ n
      → NumbersFrom m xs × (m + length xs ≡ n)
  sorted_from [] m n up low high le =
      ⊎_elim (λ less. absurd (omega (arith, high m (omega arith), once_in n m less))) (λ more. (tt, omega (arith, le, more))) (cases_lt m n)
  sorted_from (a ∷ xs) m n up low high le =
      let here : 0 < times a.0 (numbers_of (a ∷ xs)) = omega (arith, one_if-same a.0 a.0 refl) in
      let above : m ≤ a.0 = ⊎_elim (λ less. absurd (omega (arith, here, low a.0 less))) (λ more. more) (cases_lt a.0 m) in
      let below : a.0 < n = once_within n a.0 (omega (arith, here, high a.0 above)) in
      let m_in : m < n = omega (arith, above, below) in
      let stands : 0 < times m (numbers_of (a ∷ xs)) = omega (arith, high m (omega arith), once_in n m m_in) in
      let least : a.0 ≤ m = holds_of (λ y. a.0 ≤ y) (numbers_of (a ∷ xs)) m (head_least a xs up) stands in
      let same : a.0 ≡ m = omega (arith, above, least) in
      let rest = sorted_from xs (suc m) n (tail_rises a xs up)
      (λ k l. ⊎_elim
      (λ less. omega (arith, low k less))
      (λ more.
      let is : a.0 ≡ k = omega (arith, same, l, more) in
      let high_k = high k more in
      let in_k = once_in n k (omega (arith, m_in, l, more)) in
      omega (arith, one_if-same k a.0 is, high_k, in_k))
      (cases_lt k m))
      (λ k l.
      let other : a.0 ≢ k = λ e. absurd (omega (arith, e, same, l)) in
      omega (arith, one_if-other k a.0 other, high k (omega (arith, l))))
      (omega (arith, m_in)) in
      ((same, rest.0), omega (arith, rest.1))

  -- and then they are numbered from m on
  numbered_from : (xs : List (ℕ × O)) (m : ℕ) → NumbersFrom m xs → xs ≡ numbered m (map (λ (a : ℕ × O). a.1) xs)
  numbered_from [] m from = refl
  numbered_from (a ∷ xs) m from = λ i. (from.0 i, a.1) ∷ numbered_from xs (suc m) from.1 i

  module _ (answers sorted : List (ℕ × O)) (p : IsPermutation answers sorted) (up : IsRising sorted) (n : ℕ) (once : EachOnceBelow n (numbers_of answers)) where
    in_place : NumbersFrom 0 sorted × (0 + length sorted ≡ n)
    in_place =
        let same = λ (k : ℕ). times-IsPermutation k (numbers_of answers) (numbers_of sorted) (IsPermutation-map (λ (a : ℕ × O). a.0) answers sorted p) in
        sorted_from sorted 0 n up (λ k l. absurd (omega (arith, l))) (λ k l. same k ∙ once k) (omega arith)

    pub sorted_answers : IsPermutation answers (numbered 0 (map (λ (a : ℕ × O). a.1) sorted))
    sorted_answers = subst (IsPermutation answers) (numbered_from sorted 0 in_place.0) p

    pub sorted_count : length (map (λ (a : ℕ × O). a.1) sorted) ≡ n
    sorted_count = let same = length-map sorted (λ (a : ℕ × O). a.1) in omega (arith, same, in_place.1)

-- answers to the numbers of jobs, in order, are answers to the jobs
each_from : {J O : Type 0} (permits : J → O → Type 0) (jobs : List J) (outs : List O) (m : ℕ) → AreAnswers (IsAnswer permits jobs) (numbered m outs) → m + length outs ≡ length jobs → AnswerEach permits (drop m jobs) outs
each_from {J} {O} permits jobs [] m are len = subst (λ (js : List J). AnswerEach permits js []) (sym (drop_all m jobs (omega (arith, len)))) tt
each_from {J} {O} permits jobs (o ∷ os) m are len =
    let here = are.0 in
    let split : drop m jobs ≡ here.job ∷ drop (suc m) jobs = drop-cons jobs m here.job (omega (arith, len)) ∙ ap (λ j. j ∷ drop (suc m) jobs) (get_or_from_slice_get jobs m here.job here.job here.there) in
    subst (λ (js : List J). AnswerEach permits js (o ∷ os)) (sym split) (here.permitted, each_from permits jobs os (suc m) are.1 (omega (arith, len)))

pub answer_each : {J O : Type 0} (permits : J → O → Type 0) (jobs : List J) (outs : List O) → AreAnswers (IsAnswer permits jobs) (numbered 0 outs) → length outs ≡ length jobs → AnswerEach permits jobs outs
answer_each permits jobs outs are len = each_from permits jobs outs 0 are (omega (arith, len))
