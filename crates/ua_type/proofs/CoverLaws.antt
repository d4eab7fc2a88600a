-- The covers of the lattice of congruences, and the types of some of them in order.
use Rattle.std.proofs.Common.{◌≡◌, ℕ, suc, ◌+◌, ◌<◌, List, [], ◌∷◌, ◌++◌, length, map, take, drop, get_or, sym, ap, ap₂, ◌∙◌, subst}
use Rattle.std.specs.Prelude.{Contains, Result, Ok, Err}
use Rattle.std.specs.List.{AllByRecursion}
use Rattle.std.proofs.Math.Seq.{drop-cons}
use Rattle.std.proofs.lemmas.List.{take-append-drop, map-append, take_more, get_or_default}
use Rattle.ua_table.specs.Algebras.{FiniteAlgebra}
use Rattle.ua_table.proofs.Lists.{all_append}
use Rattle.ua_close.specs.declared.close.CloseError.{CloseError}
use Rattle.ua_close.specs.declared.close.CloseError.TheVariants.{Wide, OutOfMemory}
use Rattle.ua_part.specs.Partitions.{Partition}
use Rattle.ua_lattice.specs.Lattices.{IsCover, at, AreCovers, IsWholeLattice}
use Rattle.ua_type.specs.declared.typings.Typed.{Typed}
use Rattle.ua_type.specs.Permitted.{MayType, MayTypes, places_of, IsRow}
use Rattle.ua_type.specs.inner.Tables.{MayTable}

module _ (a : FiniteAlgebra) (budget : ℕ) (list : List Partition) (covers : List (ℕ × ℕ)) (k : ℕ) (rows : List (ℕ × ℕ × Typed)) where
  -- the rows are those of the first k covers
  pub record AreRows : Type 0 where
    pub places : map places_of rows ≡ take k covers
    pub types : AllByRecursion (IsRow a budget list) rows

module _ (a : FiniteAlgebra) (budget : ℕ) (list : List Partition) (covers : List (ℕ × ℕ)) (k : ℕ) (rows : List (ℕ × ℕ × Typed)) (cover : ℕ × ℕ)
    (w : k < length covers) (is : get_or covers k (0, 0) ≡ cover) (h : AreRows a budget list covers k rows) where
  pub row_more : (new : List (ℕ × ℕ × Typed)) (typed : Typed) → new ≡ rows ++ (cover.0, cover.1, typed) ∷ [] → MayType a (at list cover.0) (at list cover.1) budget (Ok typed) → AreRows a budget list covers (k + 1) new
  row_more new typed pushed told =
      let row : ℕ × ℕ × Typed = (cover.0, cover.1, typed) in
      record {
        places = ap (map places_of) pushed ∙ map-append places_of rows (row ∷ []) ∙ ap₂ (λ (xs : List (ℕ × ℕ)) (c : ℕ × ℕ). xs ++ c ∷ []) h.places (sym is) ∙ sym (take_more covers k (0, 0) w);
        types = subst (AllByRecursion (IsRow a budget list)) (sym pushed) (all_append (IsRow a budget list) rows (row ∷ []) h.types (told, tt));
      }

  pub refused_here : (e : CloseError) → MayType a (at list cover.0) (at list cover.1) budget (Err e) → MayTable a budget list covers (Err e)
  refused_here (Wide r c) told = record {
    rows = rows;
    cover = cover;
    behind = drop (suc k) covers;
    covers_are = sym (take-append-drop k covers) ∙ ap₂ (λ (xs ys : List (ℕ × ℕ)). xs ++ ys) (sym h.places) (drop-cons covers k (0, 0) w ∙ ap (λ (c : ℕ × ℕ). c ∷ drop (suc k) covers) is);
    types = h.types;
    wide = told;
  }
  refused_here OutOfMemory told = tt

-- ---- the covers, by their places

module _ (a : FiniteAlgebra) (list : List Partition) (covers : List (ℕ × ℕ)) (are : AreCovers a list covers) (k : ℕ) (w : k < length covers) where
  abbrev cover : ℕ × ℕ
  cover = get_or covers k (0, 0)

  contained : Contains covers cover
  contained = (k, w, get_or_default covers k cover (0, 0) w)

  pub lower_within : cover.0 < length list
  lower_within = ((are.all cover.0 cover.1).0 contained).0

  pub upper_within : cover.1 < length list
  upper_within = ((are.all cover.0 cover.1).0 contained).1

  pub lower_read : (p : Partition) → p ≡ get_or list cover.0 p → p ≡ at list cover.0
  lower_read p read = read ∙ get_or_default list cover.0 p [] lower_within

  pub upper_read : (q : Partition) → q ≡ get_or list cover.1 q → q ≡ at list cover.1
  upper_read q read = read ∙ get_or_default list cover.1 q [] upper_within

  pub cover_read : (p q : Partition) → p ≡ get_or list cover.0 p → q ≡ get_or list cover.1 q → IsCover a p q
  cover_read p q p_is q_is = subst (λ r. IsCover a r q) (sym (lower_read p p_is)) (subst (IsCover a (at list cover.0)) (sym (upper_read q q_is)) ((are.all cover.0 cover.1).0 contained).2)

  pub type_read : (p q : Partition) (budget : ℕ) (r : Result Typed CloseError) → p ≡ get_or list cover.0 p → q ≡ get_or list cover.1 q → MayType a p q budget r → MayType a (at list cover.0) (at list cover.1) budget r
  type_read p q budget r p_is q_is h = subst (λ s. MayType a s (at list cover.1) budget r) (lower_read p p_is) (subst (λ s. MayType a p s budget r) (upper_read q q_is) h)

-- ---- in the whole lattice

pub types_refused : (a : FiniteAlgebra) (budget : ℕ) (list : List Partition) (covers : List (ℕ × ℕ)) (irreducibles : List ℕ)
    → IsWholeLattice a budget list covers irreducibles → (e : CloseError) → MayTable a budget list covers (Err e) → MayTypes a budget (Err e)
types_refused a budget list covers irreducibles lattice (Wide r c) h = record { list = list; covers = covers; irreducibles = irreducibles; lattice = lattice; among = h }
types_refused a budget list covers irreducibles lattice OutOfMemory h = tt
