-- Rows by their parts, and the chart that they make.
use Rattle.std.proofs.Common.{◌≡◌, ℕ, suc, ◌<◌, ◌≤◌, Bool, List, [], ◌∷◌, length, map, refl, sym, ap, ◌∙◌, subst, arith, Some, None, Option, Result, Ok, Err, Vec}
use Rattle.std.specs.Prelude.{◌↔◌, Contains, slice_index, slice_get, IfOk}
use Rattle.std.specs.declared.alloc.Global.{Global}
use Rattle.std.specs.declared.alloc.AllocError.{AllocError}
use Rattle.std.specs.Option.{IfSome}
use Rattle.std.specs.List.{AllByRecursion}
use Rattle.std.proofs.lemmas.List.{length-map}
use Rattle.std.proofs.lemmas.Option.{slice_get-get_or}
use Rattle.ua_listing.proofs.SearchLaws.{one_row}
use Rattle.ua_listing.proofs.RearrangeLaws.{increasing_different}
use Rattle.ua_table.specs.Algebras.{Vector, FiniteAlgebra, IsIncreasing}
use Rattle.ua_table.specs.Listings.{Row, vectors_of}
use Rattle.ua_table.proofs.Lists.{all_weaker}
use Rattle.ua_table.specs.Terms.{Tree, eval}
use Rattle.ua_table.specs.Generated.{Sg}
use Rattle.ua_climb.specs.Ladders.{LinkLists, Joins, IsAllowed}
use Rattle.ua_term.specs.Assignments.{projection}
use Rattle.ua_identity.specs.Identities.{VariablePattern, TermIdentity, Satisfies}
use Rattle.ua_identity.specs.Chains.{ChainKind, Link, AreLinked, power_of, generators_of}
use Rattle.ua_identity.specs.Kinds.{IsKind}
use Rattle.ua_identity.specs.Patterns.{fillings, all_fillings, vector_of}
use Rattle.ua_chain.specs.inner.Charts.{IsRowOf, IsChart}
use Rattle.ua_identity.proofs.PatternLaws.{part_is, linked_from_parts, parts_from_linked, satisfied_from_part, part_from_satisfied}
use Rattle.ua_identity.proofs.KindLaws.{part_within, entries_are}
use Rattle.ua_identity.proofs.ChainLaws.{term_of_member}
use Rattle.ua_identity.specs.declared.kinds.CoordinateRange.{CoordinateRange}
use Rattle.ua_identity.specs.declared.kinds.PatternPair.{PatternPair}
use Rattle.ua_chain.specs.inner.Classes.{entries_at, AreLinksBy}
use Rattle.ua_identity.specs.KindTables.{pattern_at, own_of, link_of, blank, IsPartOf}
use Rattle.ua_chain.specs.inner.RowsOf.{part_at, HasOwnAt, AreOwnRows, AreLinksAt, HaveWidth}

-- the coordinates of a pattern are among the entries of each vector
pub part_in_all : (n : ℕ) (ps : List VariablePattern) (m : ℕ) (p : CoordinateRange) (vs : List Vector) → m < length ps → IsPartOf n ps m p → HaveWidth n ps vs → AllByRecursion (λ (v : Vector). p.to ≤ length v) vs
part_in_all n ps m p vs l h w =
    let within = (part_within n ps m p l h).1 in
    all_weaker (λ (v : Vector). length v ≡ length (all_fillings n ps)) (λ (v : Vector). p.to ≤ length v) (λ v e. omega (arith, within, e)) vs w

pub parts_in_all : (n : ℕ) (ps : List VariablePattern) (pair : PatternPair) (p q : CoordinateRange) (vs : List Vector) → pair.first < length ps
    → pair.second < length ps → IsPartOf n ps pair.first p → IsPartOf n ps pair.second q → HaveWidth n ps vs
    → AllByRecursion (λ (v : Vector). (p.to ≤ length v) × (q.to ≤ length v)) vs
parts_in_all n ps pair p q vs l m h k w =
    let one = (part_within n ps pair.first p l h).1 in
    let two = (part_within n ps pair.second q m k).1 in
    all_weaker (λ (v : Vector). length v ≡ length (all_fillings n ps)) (λ (v : Vector). (p.to ≤ length v) × (q.to ≤ length v)) (λ v e. (omega (arith, one, e), omega (arith, two, e))) vs w

-- the rows with the values of place 0 are the allowed ones
pub own_rows_from : (n : ℕ) (kind : ChainKind) (rows : List Row) (m : ℕ) (p : CoordinateRange) (values lent : List ℕ) (r : Result (Vec Bool Global) AllocError)
    → kind.own ≡ own_of kind.patterns (Some m) → m < length kind.patterns → IsPartOf n kind.patterns m p → lent ≡ values
    → values ≡ projection n (pattern_at kind.patterns m).variables (slice_index (pattern_at kind.patterns m).places 0)
    → IfOk r (λ allowed. length allowed.items ≡ length rows)
    → IfOk r (λ allowed. (i : ℕ) (v : Vector) → slice_get (vectors_of rows) i ≡ Some v → IsAllowed allowed.items i ↔ (entries_at p v ≡ lent))
    → IfOk r (λ allowed. AreOwnRows n kind (vectors_of rows) allowed.items)
own_rows_from n kind rows m p values lent (Ok allowed) own low part same are count h = record {
  number = Some m;
  own_is = own;
  named = low;
  count = count ∙ sym (length-map rows (λ (r : Row). r.vector));
  rows = λ i v e.
      let both = h i v e in (
        λ a. sym (entries_are n kind.patterns m p v low part) ∙ both.0 a ∙ same ∙ are,
        λ e'. both.1 (entries_are n kind.patterns m p v low part ∙ e' ∙ sym are ∙ sym same),
      );
}
own_rows_from n kind rows m p values lent (Err e) own low part same are count h = tt

pub links_from : (n : ℕ) (ps : List VariablePattern) (pair : PatternPair) (vs : List Vector) (p q : CoordinateRange) (links : LinkLists) → pair.first < length ps
    → pair.second < length ps → IsPartOf n ps pair.first p → IsPartOf n ps pair.second q → AreLinksBy vs p q links → AreLinksAt n ps pair vs links
links_from n ps pair vs p q links l m a b h = record {
  count = h.count;
  few = h.few;
  joins = λ i j v w x y.
      let both = h.joins i j v w x y in (
        λ e. sym (entries_are n ps pair.first p v l a) ∙ both.0 e ∙ entries_are n ps pair.second q w m b,
        λ e. both.1 (entries_are n ps pair.first p v l a ∙ e ∙ sym (entries_are n ps pair.second q w m b)),
      );
}

pub links_from_ok : (n : ℕ) (ps : List VariablePattern) (pair : PatternPair) (vs : List Vector) (p q : CoordinateRange) (r : Result LinkLists AllocError)
    → pair.first < length ps → pair.second < length ps → IsPartOf n ps pair.first p → IsPartOf n ps pair.second q → IfOk r (AreLinksBy vs p q)
    → IfOk r (AreLinksAt n ps pair vs)
links_from_ok n ps pair vs p q (Ok links) l m a b h = links_from n ps pair vs p q links l m a b h
links_from_ok n ps pair vs p q (Err e) l m a b h = tt

-- ---- the chart

stands_at : (ps : List VariablePattern) (m : ℕ) → m < length ps → slice_get ps m ≡ Some (pattern_at ps m)
stands_at ps m l = slice_get-get_or ps m blank l

-- the part of a term's vector at a pattern
part_of_term : (a : FiniteAlgebra) (ps : List VariablePattern) (m : ℕ) (t : Tree) → m < length ps → part_at a.size ps m (vector_of a ps t) ≡ map (λ xs. eval a xs t) (fillings a.size (pattern_at ps m))
part_of_term a ps m t l = part_is a.size ps m (pattern_at ps m) (λ xs. eval a xs t) (stands_at ps m l)

pub own_both : (a : FiniteAlgebra) (ps : List VariablePattern) (number : Option ℕ) (t : Tree) → IfSome number (λ m. m < length ps) → HasOwnAt a.size ps number (vector_of a ps t) ↔ AllByRecursion (Satisfies a t) (own_of ps number)
own_both a ps None t l = (λ h. tt, λ h. tt)
own_both a ps (Some m) t l = (
  λ h. (satisfied_from_part a (record { pattern = pattern_at ps m; value = slice_index (pattern_at ps m).places 0 }) t (sym (part_of_term a ps m t l) ∙ h), tt),
  λ h. part_of_term a ps m t l ∙ part_from_satisfied a (record { pattern = pattern_at ps m; value = slice_index (pattern_at ps m).places 0 }) t h.0,
)

linked_both : (a : FiniteAlgebra) (ps : List VariablePattern) (pair : PatternPair) (d e : Tree) → pair.first < length ps → pair.second < length ps
    → (pattern_at ps pair.first).variables ≡ (pattern_at ps pair.second).variables
    → (part_at a.size ps pair.first (vector_of a ps d) ≡ part_at a.size ps pair.second (vector_of a ps e)) ↔ AreLinked a (link_of ps pair) d e
linked_both a ps pair d e l m same = (
  λ h. linked_from_parts a (link_of ps pair) d e same (sym (part_of_term a ps pair.first d l) ∙ h ∙ part_of_term a ps pair.second e m),
  λ h. part_of_term a ps pair.first d l ∙ parts_from_linked a (link_of ps pair) d e same h ∙ sym (part_of_term a ps pair.second e m),
)

-- the numbers of a link's patterns
pub record IsPairOf (ps : List VariablePattern) (l : Link) (pair : PatternPair) : Type 0 where
  pub link_is : l ≡ link_of ps pair
  pub first : pair.first < length ps
  pub second : pair.second < length ps
  pub same : (pattern_at ps pair.first).variables ≡ (pattern_at ps pair.second).variables

links_both : (a : FiniteAlgebra) (kind : ChainKind) (vs : List Vector) (l : Link) (pair : PatternPair) (links : LinkLists)
    → IsPairOf kind.patterns l pair → AreLinksAt a.size kind.patterns pair vs links → (d e : Tree) (i j : ℕ) → IsRowOf a kind vs d i
    → IsRowOf a kind vs e j → Joins links i j ↔ AreLinked a l d e
links_both a kind vs l pair links p h d e i j x y =
    let joined = h.joins i j (vector_of a kind.patterns d) (vector_of a kind.patterns e) x.stands y.stands in
    let both = linked_both a kind.patterns pair d e p.first p.second p.same in (
      λ w. subst (λ (k : Link). AreLinked a k d e) (sym p.link_is) (both.0 (joined.0 w)),
      λ w. joined.1 (both.1 (subst (λ (k : Link). AreLinked a k d e) p.link_is w)),
    )

pub chart_from : (a : FiniteAlgebra) (kind : ChainKind) (vs : List Vector) (allowed : List Bool) (even odd : LinkLists) (ep op : PatternPair)
    → ((v : Vector) → Contains vs v ↔ Sg (power_of a kind) (generators_of a kind) v) → IsIncreasing vs → AreOwnRows a.size kind vs allowed
    → IsPairOf kind.patterns kind.even ep → IsPairOf kind.patterns kind.odd op → AreLinksAt a.size kind.patterns ep vs even
    → AreLinksAt a.size kind.patterns op vs odd → IsChart a kind vs allowed even odd
chart_from a kind vs allowed even odd ep op exact inc own pe po le lo = record {
  exact = exact;
  once = λ i j v x y. one_row vs (increasing_different vs inc) i j v x y;
  count = own.count;
  own = λ t i r.
      let here = own.rows i (vector_of a kind.patterns t) r.stands in
      let both = own_both a kind.patterns own.number t own.named in (
        λ w. subst (λ (is : List TermIdentity). AllByRecursion (Satisfies a t) is) (sym own.own_is) (both.0 (here.0 w)),
        λ w. here.1 (both.1 (subst (λ (is : List TermIdentity). AllByRecursion (Satisfies a t) is) own.own_is w)),
      );
  even_links = links_both a kind vs kind.even ep even pe le;
  odd_links = links_both a kind vs kind.odd op odd po lo;
}

-- each vector has an entry for each filling
pub have_width : (a : FiniteAlgebra) (kind : ChainKind) (vs : List Vector) → IsKind kind → 0 < length (all_fillings a.size kind.patterns)
    → ((v : Vector) → Contains vs v → Sg (power_of a kind) (generators_of a kind) v) → HaveWidth a.size kind.patterns vs
have_width a kind [] k wide h = tt
have_width a kind (v ∷ vs) k wide h =
    let t = term_of_member a kind v k wide (h v (0, omega arith, refl)) in (
      ap length (sym t.2) ∙ length-map (all_fillings a.size kind.patterns) (λ xs. eval a xs t.0),
      have_width a kind vs k wide (λ w c. h w (suc c.0, omega (arith, c.1), c.2)),
    )
