use Rattle.std.proofs.Common.{◌≡◌, ℕ, zero, suc, Bool, false, List, [], length, replicate, refl, sym, ap, ◌∙◌, subst, arith}
use Rattle.std.specs.Prelude.{Contains}
use Rattle.std.proofs.lemmas.List.{length-map, length-replicate}
use Rattle.ua_table.specs.Algebras.{Vector, Product, arities}
use Rattle.ua_table.specs.Counting.{total, one_if}
use Rattle.ua_table.specs.Listings.{Row}
use Rattle.ua_table.specs.Numbering.{IsShape}
use Rattle.ua_table.specs.Slices.{bound}
use Rattle.ua_table.specs.VectorLists.{VectorList}
use Rattle.ua_table.proofs.Lists.{Contains-none}
use Rattle.ua_listing.specs.inner.Searches.{IsMarked, IsSearch, IsSearchOf, ReachesMore, IsRowTable, GeneratorsVisitedIn, ConstantsVisitedIn, SlicesVisitedIn, IsWholeSearch}
use Rattle.ua_listing.specs.declared.searches.Search.{Search}
use Rattle.ua_listing.specs.declared.searches.Table.{Table}
use Rattle.ua_listing.proofs.SearchLaws.{later_chain}
use Rattle.ua_listing.proofs.VisitLaws.{generators_later, constants_later}
use Rattle.ua_listing.proofs.leasts.search_of.Goals as goal

none_marked : (n q : ℕ) → IsMarked (replicate n false) q → ⊥
none_marked zero q e = cc
none_marked (suc n) zero e = cc
none_marked (suc n) (suc q) e = none_marked n q e

none_counted : (n : ℕ) → total one_if (replicate n false) ≡ 0
none_counted zero = refl
none_counted (suc n) = let r = none_counted n in omega (arith, r)

search_start : (p : Product) (gens vs : List Vector) (s : Search) (n : ℕ) → n ≡ length vs → s.order.items ≡ [] → s.reached.items ≡ replicate n false → length s.heights.items ≡ n → length s.origins.items ≡ n → IsSearch p gens vs s
search_start p gens vs s n all order reached heights origins =
    let empty : length s.order.items ≡ 0 = ap (length {A = ℕ}) order in
    record {
      marks_count = ap (length {A = Bool}) reached ∙ length-replicate n false ∙ all;
      heights_count = heights ∙ all;
      origins_count = origins ∙ all;
      marks = λ q. (λ m. absurd (none_marked n q (subst (λ (bs : List Bool). IsMarked bs q) reached m)), λ c. absurd (Contains-none q (subst (λ (xs : List ℕ). Contains xs q) order c)));
      once = empty ∙ sym (ap (total one_if) reached ∙ none_counted n);
      rising = λ i j le low. absurd (omega (arith, low, empty));
      low = λ i low. absurd (omega (arith, low, empty));
      found = λ q c. absurd (Contains-none q (subst (λ (xs : List ℕ). Contains xs q) order c));
    }

whole_from : (t : Table) (a b c : Search) → IsRowTable t → GeneratorsVisitedIn t a → ReachesMore (arities t.operations) a b → ConstantsVisitedIn t b
    → ReachesMore (arities t.operations) b c → IsSearchOf t c → SlicesVisitedIn t c (bound t.shape (length c.order.items))
    → IsWholeSearch t.operations t.gens.now.items t.rows.items c
whole_from t a b c table generators l constants m search slices = record {
  search = search;
  generators = generators_later t.operations t.gens.now.items t.rows.items a c (length t.gens.now.items) (later_chain (arities t.operations) a b c l m) generators;
  constants = constants_later t.operations t.gens.now.items t.rows.items b c (length (arities t.operations)) m constants;
  slices = subst (λ ks. SlicesVisitedIn t c (bound ks (length c.order.items))) table.shape slices;
}

pub visit_generators-requires-clause-search : goal.visit_generators-requires-clause-search
visit_generators-requires-clause-search c =
    let t = c.in_ok-table.table in
    let s = c.in_ok-search.ensures in
    search_start t.operations t.gens.now.items t.rows.items c.in_ok-search.search c.len.result
    (c.len.ensures ∙ sym (length-map c.args.list.now (λ (r : Row). r.vector)) ∙ sym (ap (length {A = Vector}) c.in_ok-table.ensures.rows))
    s.order s.reached s.heights s.origins

pub returns-clause-search : goal.returns-clause-search
returns-clause-search c =
    let t = c.in_ok-table.table in
    let e = c.in_ok-table.ensures in
    subst (λ (x : Product × List Vector × List Vector). IsWholeSearch x.0 x.1 x.2 c.visit_rows.new.search) (λ i. (e.operations i, ap (λ (v : VectorList). v.items) e.gens i, e.rows i))
    (whole_from t c.visit_generators.new.search c.visit_constants.new.search c.visit_rows.new.search e.table c.in_ok-visit_generators.ensures.visited c.in_ok-visit_constants.ensures.goes_on.later c.in_ok-visit_constants.ensures.visited
    c.in_ok-visit_rows.ensures.later c.in_ok-visit_rows.ensures.search c.in_ok-visit_rows.ensures.visited)

pub returns-clause-shape : goal.returns-clause-shape
returns-clause-shape c =
    let e = c.in_ok-table.ensures in
    subst IsShape (e.table.shape ∙ ap arities e.operations) e.table.limits
