use Rattle.std.proofs.Common.{◌≡◌, ℕ, List, length, sym, ◌∙◌, subst, Result, Ok, Err}
use Rattle.std.specs.Prelude.{IfOk}
use Rattle.ua_table.specs.Algebras.{Vector, IsVector}
use Rattle.ua_table.specs.Listings.{vectors_of, ranks_of}
use Rattle.ua_table.proofs.Lists.{all_weaker, AllZip-length}
use Rattle.ua_listing.specs.inner.Leasts.{AreByHeight}
use Rattle.ua_listing.specs.Rankings.{ArePositions}
use Rattle.ua_listing.proofs.LeastLaws.{closed_vectors, least_listing}
use Rattle.ua_listing.proofs.leasts.least.Goals as goal

with_three : {A E : Type 0} (r : Result A E) (P Q R S : A → Type 0) → ((x : A) → P x → Q x → R x → S x) → IfOk r P → IfOk r Q → IfOk r R → IfOk r S
with_three (Ok x) P Q R S f p q t = f x p q t
with_three (Err e) P Q R S f p q t = tt

pub rearranged-requires-clause-widths : goal.rearranged-requires-clause-widths
rearranged-requires-clause-widths c =
    all_weaker (IsVector c.args.frame.now) (λ (v : Vector). length v ≡ c.width.result) (λ v h. sym (AllZip-length _ c.args.frame.now v h) ∙ sym c.width.ensures.width) (vectors_of c.args.list.now)
    (closed_vectors c.args.frame.now c.args.gens.now.items c.width.ensures.product c.requires.admitted c.requires.closed.budget c.args.list.now c.requires.closed.closed)

pub returns : goal.returns
returns c =
    with_three c.rearranged.result _ _ _ _
    (λ new vectors ranks origins b closed.
    least_listing c.args.frame.now c.args.gens.now.items b c.args.list.now new c.in_ok-search.search c.in_ok-places.places.items closed c.in_ok-search.ensures.shape c.in_ok-search.ensures.search
    (subst (λ (hs : List ℕ). AreByHeight hs c.in_ok-places.places.items) c.as_slice.ensures.value c.in_ok-places.ensures) vectors
    (subst (λ (ps : List ℕ). ArePositions ps (ranks_of new)) c.as_slice-2.ensures.value ranks) origins)
    c.rearranged.ensures.vectors c.rearranged.ensures.ranks c.rearranged.ensures.origins
