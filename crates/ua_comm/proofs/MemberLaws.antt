-- The last member of a series so far, and what is told of its successor.
use Rattle.std.proofs.Common.{◌≡◌, ℕ, ◌-◌, ◌<◌, List, [], ◌∷◌, ◌++◌, length, get_or, sym, ap, ◌∙◌, subst, arith, Ok, Err}
use Rattle.ua_table.specs.Algebras.{FiniteAlgebra, IsAlgebra}
use Rattle.ua_table.specs.Counting.{total}
use Rattle.ua_close.specs.declared.close.CloseError.{CloseError}
use Rattle.ua_close.specs.declared.close.CloseError.TheVariants.{Wide, OutOfMemory}
use Rattle.ua_part.specs.Partitions.{Partition, identity_on}
use Rattle.ua_prod.specs.Congruences.{IsCongruence}
use Rattle.ua_comm.specs.declared.members.Kind.{Kind}
use Rattle.ua_comm.specs.declared.commutators.Comm.{Comm}
use Rattle.ua_comm.specs.declared.commutators.Comm.TheVariants.{Whole, Exceeds}
use Rattle.ua_comm.specs.Series.{partner, IsSuccessorWithin, IsBeginning, last_member, IsSeries, IsCutSeries}
use Rattle.ua_comm.specs.Permitted.{MayCommute, MayDescend}
use Rattle.ua_comm.proofs.SeriesLaws.{last_at, last_more, beginning_more, last_congruence, successor_rises, member_bounded}

-- by how much the total of the entries may still rise
abbrev pub left_to_rise : FiniteAlgebra → Partition → ℕ
left_to_rise a d = total (λ x. x) (identity_on a.size) - total (λ x. x) d

some : (a : FiniteAlgebra) (Next : Partition → Partition → Type 0) (members : List Partition) → IsBeginning a Next members → 0 < length members
some a Next [] h = absurd h
some a Next (d ∷ rest) h = omega arith

module _ (a : FiniteAlgebra) (kind : Kind) (b : ℕ) (members : List Partition) (begun : IsBeginning a (IsSuccessorWithin a kind b) members) (n : ℕ) (read : Partition) (all : n ≡ length members) (at : read ≡ get_or members (n - 1) read) where
  -- what is read as the last member is it
  last_is : read ≡ last_member members
  last_is = at ∙ ap (λ k. get_or members (k - 1) read) all ∙ last_at members read (some a (IsSuccessorWithin a kind b) members begun)

  pub read_congruence : IsAlgebra a → IsCongruence a read
  read_congruence alg = subst (IsCongruence a) (sym last_is) (last_congruence a kind b members begun alg)

  pub cut_here : (comm : Comm) → ((next : Partition) → comm ≡ Whole next → ⊥) → MayCommute a (partner a kind read) read b (Ok comm) → IsCutSeries a kind b members
  cut_here (Whole next) other told = absurd (other next (λ i. Whole next))
  cut_here Exceeds other told =
      let here = subst (λ d. MayCommute a (partner a kind d) d b (Ok Exceeds)) last_is told in
      record { beginning = begun; beyond = here.1; narrow = here.0 }

  pub refused_here : (e : CloseError) → MayCommute a (partner a kind read) read b (Err e) → MayDescend a kind b (Err e)
  refused_here (Wide r w) told = record { members = members; beginning = begun; cause = subst (λ d. MayCommute a (partner a kind d) d b (Err (Wide r w))) last_is told }
  refused_here OutOfMemory told = tt

  module _ (next : Partition) (told : MayCommute a (partner a kind read) read b (Ok (Whole next))) where
    next_within : IsSuccessorWithin a kind b (last_member members) next
    next_within = let here = subst (λ d. MayCommute a (partner a kind d) d b (Ok (Whole next))) last_is told in (here.1.0, here.1.1, here.0)

    pub ended_here : last_member members ≡ next → IsSeries a (IsSuccessorWithin a kind b) members
    ended_here same = record { beginning = begun; ended = subst (IsSuccessorWithin a kind b (last_member members)) (sym same) next_within }

    pub goes_on_here : (last_member members ≡ next → ⊥) → IsBeginning a (IsSuccessorWithin a kind b) (members ++ next ∷ [])
    goes_on_here differs = beginning_more a (IsSuccessorWithin a kind b) members next begun next_within differs

    pub rises_here : IsAlgebra a → (last_member members ≡ next → ⊥) → left_to_rise a (last_member (members ++ next ∷ [])) < left_to_rise a (last_member members)
    rises_here alg differs =
        let rises = successor_rises a kind (last_member members) next alg (last_congruence a kind b members begun alg) next_within.0 differs in
        let bounded = member_bounded a next next_within.0.congruence in
        subst (λ (p : Partition). left_to_rise a p < left_to_rise a (last_member members)) (sym (last_more members next)) (omega (arith, rises, bounded))
