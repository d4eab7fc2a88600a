-- That commutators and series are told: there is a commutator, and as long as a series goes on, it rises.
use Rattle.std.proofs.Common.{◌≡◌, ◌≢◌, ◌⊎◌, ⊎_elim, ℕ, zero, suc, ◌+◌, ◌*◌, ◌^◌, ◌<◌, ◌≤◌, List, [], ◌∷◌, ◌++◌, length, replicate, Ok, Err, Vec, refl, sym, subst, arith, length-append}
use Rattle.std.specs.List.{range_with_len}
use Rattle.std.specs.declared.alloc.Global.{Global}
use denote.RawPtr.{null_ptr}
use Rattle.ua_table.specs.declared.limits.TheConstants.{SIZE}
use Rattle.ua_table.specs.Algebras.{FiniteAlgebra, IsAlgebra, arities}
use Rattle.ua_table.specs.Counting.{total}
use Rattle.ua_table.specs.Numbering.{records}
use Rattle.ua_close.specs.declared.close.CloseError.TheVariants.{Wide, OutOfMemory}
use Rattle.ua_close.specs.Answers.{cells}
use Rattle.ua_close.specs.Permitted.{IsAnswerable}
use Rattle.ua_close.proofs.AnswerLaws.{wide_or}
use Rattle.ua_close.proofs.MetLaws.{vector_or}
use Rattle.ua_part.specs.Partitions.{Partition, full_on, identity_on}
use Rattle.ua_prod.specs.Congruences.{IsCongruence}
use Rattle.ua_matrix.specs.Matrices.{matrix_generators}
use Rattle.ua_matrix.proofs.CentralExist.{more_or, told_ok, told_wide, answered}
use Rattle.ua_comm.specs.declared.commutators.Comm.TheVariants as comms
use Rattle.ua_comm.specs.declared.members.Kind.{Kind}
use Rattle.ua_comm.specs.declared.members.Series.TheVariants.{Whole, Exceeds}
use Rattle.ua_comm.specs.Series.{partner, IsSuccessorWithin, IsBeginning, last_member}
use Rattle.ua_comm.specs.Permitted.{MayCommute, MayDescend}
use Rattle.ua_comm.proofs.CommutatorsExist.{commutator_exists}
use Rattle.ua_comm.proofs.MemberLaws.{left_to_rise}
use Rattle.ua_comm.proofs.SeriesLaws.{last_more, beginning_more, last_congruence, partner_congruence, successor_rises, member_bounded}

-- ---- a commutator

pub commutator_told : (a : FiniteAlgebra) (alpha beta : Partition) (b : ℕ) → IsAlgebra a → IsCongruence a alpha → IsCongruence a beta → IsAnswerable (MayCommute a alpha beta b) OutOfMemory
commutator_told a alpha beta b alg ca cb =
    answered a alpha beta b (MayCommute a alpha beta b) (λ wide. (wide, refl, refl))
    (λ narrow. ⊎_elim
    (λ more. (comms.Exceeds, (narrow, more)))
    (λ few. let h = commutator_exists a alpha beta alg ca cb in (comms.Whole h.delta, (narrow, (h.is, few))))
    (more_or a alpha beta b alg ca cb))

-- ---- a series

-- a list as it would lie in memory
abbrev vec_of : Global → (xs : List Partition) → length xs < 2 ^ 63 → Vec Partition Global
vec_of alloc xs small = record { ptr = null_ptr; len = length xs; cap = length xs; alloc = alloc; items = xs; ok = (refl, omega arith); small = small }

range_total : (k n m : ℕ) → k + n ≤ m → total (λ x. x) (range_with_len k n) ≤ n * m
range_total k zero m h = omega arith
range_total k (suc n) m h =
    let rest = range_total (k + 1) n m (omega (arith, h)) in
    let e : suc n * m ≡ n * m + m = omega arith in
    omega (arith, rest, h, e)

module _ (alloc : Global) (a : FiniteAlgebra) (kind : Kind) (b : ℕ) (alg : IsAlgebra a) (few : a.size ≤ SIZE) where
  -- the members of a series so far are no more than its entries may rise
  record IsBegun (members : List Partition) : Type 0 where
    beginning : IsBeginning a (IsSuccessorWithin a kind b) members
    short : length members + left_to_rise a (last_member members) ≤ total (λ x. x) (identity_on a.size) + 1

  short_enough : (members : List Partition) → IsBegun members → length members < 2 ^ 63
  short_enough members h =
      let n = range_total 0 a.size SIZE (omega (arith, few)) in
      let s = h.short in
      omega (arith, n, s, few)

  one_more : (members : List Partition) (next : Partition) → IsBegun members → IsSuccessorWithin a kind b (last_member members) next → last_member members ≢ next
      → IsBegun (members ++ next ∷ []) × (left_to_rise a (last_member (members ++ next ∷ [])) < left_to_rise a (last_member members))
  one_more members next h is differs =
      let cd = last_congruence a kind b members h.beginning alg in
      let rises = successor_rises a kind (last_member members) next alg cd is.0 differs in
      let bounded = member_bounded a next is.0.congruence in
      let last = last_more members next in
      let n = length-append members (next ∷ []) in
      let s = h.short in
      let less : left_to_rise a next < left_to_rise a (last_member members) = omega (arith, rises, bounded) in (
        record {
          beginning = beginning_more a (IsSuccessorWithin a kind b) members next h.beginning is differs;
          short = subst (λ (p : Partition). length (members ++ next ∷ []) + left_to_rise a p ≤ total (λ x. x) (identity_on a.size) + 1) (sym last) (omega (arith, s, n, less));
        },
        subst (λ (p : Partition). left_to_rise a p < left_to_rise a (last_member members)) (sym last) less,
      )

  told_from : (n : ℕ) (members : List Partition) → IsBegun members → left_to_rise a (last_member members) < n → IsAnswerable (MayDescend a kind b) OutOfMemory
  told_from zero members h low = absurd (omega (arith, low))
  told_from (suc n) members h low = ⊎_elim
      (λ wide.
      let r = records (arities (replicate 4 a)) (length (matrix_generators other d)) b in
      let c = cells (replicate 4 a) b in
      record { answer = Err (Wide r c); permitted = record { members = members; beginning = h.beginning; cause = (wide, refl, refl) }; told = told_wide r c (Err (Wide r c)) refl })
      (λ narrow. ⊎_elim
      (λ more.
      let s = Exceeds listed in
      record { answer = Ok s; permitted = record { beginning = h.beginning; beyond = more; narrow = narrow }; told = told_ok s (Ok s) refl })
      (λ few.
      let next = commutator_exists a other d alg co cd in
      let within : IsSuccessorWithin a kind b d next.delta = (next.is, few, narrow) in
      ⊎_elim
      (λ same.
      let s = Whole listed in
      record { answer = Ok s; permitted = record { beginning = h.beginning; ended = subst (IsSuccessorWithin a kind b d) (sym same) within }; told = told_ok s (Ok s) refl })
      (λ differs.
      let more = one_more members next.delta h within differs in
      told_from n (members ++ next.delta ∷ []) more.0 (let less = more.1 in omega (arith, less, low)))
      (vector_or d next.delta))
      (more_or a other d b alg co cd))
      (wide_or (replicate 4 a) (matrix_generators other d) b)
    where
      d : Partition
      d = last_member members

      other : Partition
      other = partner a kind d

      cd : IsCongruence a d
      cd = last_congruence a kind b members h.beginning alg

      co : IsCongruence a other
      co = partner_congruence a kind d alg cd

      listed : Vec Partition Global
      listed = vec_of alloc members (short_enough members h)

  pub series_told : IsAnswerable (MayDescend a kind b) OutOfMemory
  series_told =
      told_from (suc (left_to_rise a (full_on a.size))) (full_on a.size ∷ []) record { beginning = (refl, tt); short = omega arith } (omega arith)
