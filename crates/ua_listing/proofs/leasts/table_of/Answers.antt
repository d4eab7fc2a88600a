use Rattle.std.proofs.Common.{◌≡◌, ◌≤◌, ℕ, List, length, refl, sym, ap, ◌∙◌, subst, arith}
use Rattle.std.specs.Prelude.{nat_eq}
use Rattle.std.specs.List.{AllByRecursion, IsDistinct}
use Rattle.std.specs.Cmp.Lexicographic.{pointwise}
use Rattle.std.proofs.lemmas.List.{length-map}
use Rattle.ua_table.specs.Algebras.{Vector, FiniteAlgebra, Product, IsProduct, IsVector, arities}
use Rattle.ua_table.specs.Numbering.{IsShape, Fits}
use Rattle.ua_table.proofs.SliceLaws.{bound_laws}
use Rattle.ua_listing.specs.Leasts.{IsClosedWithin}
use Rattle.ua_listing.specs.inner.Searches.{IsRowTable}
use Rattle.ua_listing.specs.declared.searches.Table.{Table}
use Rattle.ua_table.specs.Counting.{EachOnceBelow, numbers_below}
use Rattle.ua_table.specs.Listings.{Row, vectors_of}
use Rattle.ua_table.proofs.Counts.{each_once-numbers_below, length-numbers_below}
use Rattle.ua_table.proofs.Lists.{all_weaker, AllZip-length}
use Rattle.ua_rows.specs.RowLists.{rows_at}
use Rattle.ua_listing.proofs.LeastLaws.{closed_vectors}
use Rattle.ua_listing.proofs.RearrangeLaws.{rows_whole, increasing_different}
use Rattle.ua_listing.proofs.leasts.table_of.Goals as goal

pub rows_at-requires-clause-widths : goal.rows_at-requires-clause-widths
rows_at-requires-clause-widths c =
    all_weaker (IsVector c.args.frame.now) (λ (v : Vector). length v ≡ c.width.result) (λ v h. sym (AllZip-length _ c.args.frame.now v h) ∙ sym c.width.ensures.width) (vectors_of c.args.list.now)
    (closed_vectors c.args.frame.now c.args.gens.now.items c.width.ensures.product c.requires.admitted c.requires.closed.budget c.args.list.now c.requires.closed.closed)

pub rows_at-requires-clause-places : goal.rows_at-requires-clause-places
rows_at-requires-clause-places c =
    subst (EachOnceBelow (length c.args.list.now)) (sym (c.as_slice.ensures.value ∙ c.in_ok-places.ensures ∙ ap numbers_below c.len.ensures)) (each_once-numbers_below (length c.args.list.now))

pub rows_at-requires-clause-few : goal.rows_at-requires-clause-few
rows_at-requires-clause-few c =
    let e = ap (length {A = ℕ}) (c.as_slice.ensures.value ∙ c.in_ok-places.ensures ∙ ap numbers_below c.len.ensures) in
    let n = length-numbers_below (length c.args.list.now) in
    let w = c.requires.closed.closed.within in
    let l = c.requires.closed.low in
    omega (arith, e, n, w, l)

module _ (p : Product) (gens : List Vector) (old : List Row) (closed : IsClosedWithin p gens old) (product : IsProduct p) (admitted : AllByRecursion (IsVector p) gens) (limits : IsShape (arities p))
    (t : Table) (operations : t.operations ≡ p) (shape : t.shape ≡ arities p) (generators : t.gens.now.items ≡ gens) (width : t.rows.width ≡ length p) (rows : t.rows.items ≡ vectors_of old) where
  rows_low : length t.rows.items ≤ closed.budget
  rows_low = let e = ap (length {A = Vector}) rows in let n = length-map old (λ (r : Row). r.vector) in let w = closed.closed.within in omega (arith, e, n, w)

  table_is : IsRowTable t
  table_is = record {
    product = subst IsProduct (sym operations) product;
    shape = shape ∙ ap arities (sym operations);
    limits = subst IsShape (sym shape) limits;
    width = width ∙ ap (length {A = FiniteAlgebra}) (sym operations);
    vectors = subst (λ (x : Product × List Vector). AllByRecursion (IsVector x.0) x.1) (λ i. (sym operations i, sym rows i)) (closed_vectors p gens product admitted closed.budget old closed.closed);
    different = subst (IsDistinct (pointwise nat_eq)) (sym rows) (increasing_different (vectors_of old) closed.closed.listing.increasing);
    admitted = subst (λ (x : Product × List Vector). AllByRecursion (IsVector x.0) x.1) (λ i. (sym operations i, sym generators i)) admitted;
    few = let l = closed.low in let r = rows_low in omega (arith, l, r);
    fits = subst (λ ks. Fits ks 0 (length t.rows.items)) (sym shape) ((bound_laws (arities p) limits).fits (length gens) closed.budget (length t.rows.items) rows_low closed.fits);
  }

rows_whole_at : (old : List Row) (n : ℕ) (places taken : List ℕ) (rows : List Vector) → rows ≡ rows_at (vectors_of old) taken → taken ≡ places → places ≡ numbers_below n → n ≡ length old → rows ≡ vectors_of old
rows_whole_at old n places taken rows e f g h = e ∙ (λ i. rows_at (vectors_of old) ((f ∙ g ∙ ap numbers_below h) i)) ∙ rows_whole (vectors_of old) (length old) (length-map old (λ (r : Row). r.vector))

pub returns-clause-table : goal.returns-clause-table
returns-clause-table c =
    table_is c.args.frame.now c.args.gens.now.items c.args.list.now c.requires.closed c.width.ensures.product c.requires.admitted
    c.in_ok-shape.ensures.shape _ c.in_ok-new.ensures c.in_ok-shape.ensures.arities refl (c.in_ok-rows_at.ensures.width ∙ c.width.ensures.width)
    (rows_whole_at c.args.list.now c.len.result c.in_ok-places.places.items c.as_slice.result.now c.in_ok-rows_at.field-0.items c.in_ok-rows_at.ensures.rows c.as_slice.ensures.value c.in_ok-places.ensures c.len.ensures)

pub returns-clause-rows : goal.returns-clause-rows
returns-clause-rows c =
    c.in_ok-rows_at.ensures.rows ∙ (λ i. rows_at (vectors_of c.args.list.now) ((c.as_slice.ensures.value ∙ c.in_ok-places.ensures ∙ ap numbers_below c.len.ensures) i))
    ∙ rows_whole (vectors_of c.args.list.now) (length c.args.list.now) (length-map c.args.list.now (λ (r : Row). r.vector))
