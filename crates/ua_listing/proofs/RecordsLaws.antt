-- The records that rows and their origins make.
use Rattle.std.proofs.Common.{◌≡◌, ℕ, zero, suc, ◌≤◌, List, [], ◌∷◌, length, Some, sym, ap, ◌∙◌, subst, arith}
use Rattle.std.specs.Prelude.{slice_get}
use Rattle.std.specs.List.{AllByRecursion, zip}
use Rattle.ua_table.specs.declared.origins.Origin.{Origin}
use Rattle.ua_table.specs.Algebras.{Vector}
use Rattle.ua_table.specs.Orders.{Record, rows_of}
use Rattle.ua_listing.specs.Arrangements.{IsOriginOver}
use Rattle.ua_table.proofs.RecordLaws.{length-rows_of, rows_zip}

module _ (rows : List Vector) (os : List Origin) (rs : List Record) (same : length os ≡ length rows) (is : zip rows os ≡ rs) where
  pub rows_inside : rows ≡ rows_of rs
  rows_inside = sym (rows_zip rows os (omega (arith, same))) ∙ ap rows_of is

  pub length_inside : length rows ≡ length rs
  length_inside = ap (length {A = Vector}) rows_inside ∙ length-rows_of rs

zipped : (rows : List Vector) (os : List Origin) (i : ℕ) (o : Origin) → length os ≡ length rows → slice_get os i ≡ Some o → (v : Vector) × (slice_get (zip rows os) i ≡ Some (v, o))
zipped rows [] i o same e = cc
zipped [] (x ∷ os) i o same e = absurd (omega (arith, same))
zipped (v ∷ rows) (x ∷ os) zero o same e = let here : x ≡ o = cc in (v, ap (λ (y : Origin). Some (v, y)) here)
zipped (v ∷ rows) (x ∷ os) (suc i) o same e = zipped rows os i o (omega (arith, same)) e

-- the record at the place of an origin
pub record_inside : (rows : List Vector) (os : List Origin) (rs : List Record) (i : ℕ) (o : Origin) → length os ≡ length rows → zip rows os ≡ rs → slice_get os i ≡ Some o → (v : Vector) × (slice_get rs i ≡ Some (v, o))
record_inside rows os rs i o same is e = let z = zipped rows os i o same e in (z.0, ap (λ (l : List Record). slice_get l i) (sym is) ∙ z.1)

-- origins over rows are over as many records
pub over_records : (ks : List ℕ) (rows : List Vector) (os : List Origin) (rs : List Record) → length rows ≤ length os → rs ≡ zip rows os
    → AllByRecursion (λ (r : Record). IsOriginOver ks (length rows) r.1) (zip rows os)
    → AllByRecursion (λ (r : Record). IsOriginOver ks (length rs) r.1) rs
over_records ks rows os rs low is over =
    let count : length rows ≡ length (zip rows os) = ap (length {A = Vector}) (sym (rows_zip rows os low)) ∙ length-rows_of (zip rows os) in
    subst (λ (l : List Record). AllByRecursion (λ (r : Record). IsOriginOver ks (length l) r.1) l) (sym is) (subst (λ n. AllByRecursion (λ (r : Record). IsOriginOver ks n r.1) (zip rows os)) count over)
