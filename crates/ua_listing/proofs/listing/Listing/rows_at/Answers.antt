use Rattle.std.proofs.Common.{◌≡◌, List, [], ◌∷◌, ◌++◌, length, get_or, sym, ◌∙◌, subst}
use Rattle.std.specs.Prelude.{Contains}
use Rattle.std.proofs.lemmas.List.{length-map}
use Rattle.std.proofs.lemmas.Option.{get_or_from_slice_get}
use Rattle.ua_table.specs.Algebras.{Vector}
use Rattle.ua_table.specs.Counting.{EachOnceBelow}
use Rattle.ua_table.specs.Listings.{Row, vectors_of}
use Rattle.ua_table.proofs.Lists.{All-slice_get}
use Rattle.ua_table.proofs.NumbersOnce.{once-below}
use Rattle.ua_listing.proofs.RearrangeLaws.{rows_more, row_new}
use Rattle.ua_listing.proofs.listing.Listing.rows_at.Goals as goal

pub row-requires : goal.row-requires
row-requires c = once-below (length c.args.self.now) c.args.places.now c.requires.places c.loop-place.place-index c.loop-place-test.true

pub push-requires-clause-width : goal.push-requires-clause-width
push-requires-clause-width c = All-slice_get (λ (v : Vector). length v ≡ c.args.width) (vectors_of c.args.self.now) _ c.row.result.now c.requires.widths c.row.ensures ∙ sym c.loop-place.invariant.width

pub push-requires-clause-new : goal.push-requires-clause-new
push-requires-clause-new c = λ h.
    let vs = vectors_of c.args.self.now in
    let places = c.args.places.now in
    let k = c.loop-place.place-index in
    let once = subst (λ n. EachOnceBelow n places) (sym (length-map c.args.self.now (λ (r : Row). r.vector))) c.requires.places in
    let same = get_or_from_slice_get vs (get_or places k 0) c.row.result.now [] c.row.ensures in
    row_new vs places k c.requires.increasing once c.loop-place-test.true
    (subst (λ (x : List Vector × Vector). Contains x.0 x.1) (λ i. (c.loop-place.invariant.items i, sym same i)) h)

pub loop-place-preserved : goal.loop-place-preserved
loop-place-preserved c =
    let vs = vectors_of c.args.self.now in
    let places = c.args.places.now in
    let k = c.loop-place.place-index in
    let same = get_or_from_slice_get vs (get_or places k 0) c.row.result.now [] c.row.ensures in
    record {
      width = c.in_ok-push.ensures.width ∙ c.loop-place.invariant.width;
      items = c.in_ok-push.ensures.ok ∙ (λ i. c.loop-place.invariant.items i ++ sym same i ∷ []) ∙ sym (rows_more vs places k c.loop-place-test.true);
    }
