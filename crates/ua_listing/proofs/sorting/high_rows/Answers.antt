use Rattle.std.proofs.Common.{◌≡◌, ◌+◌, ◌<◌, List, [], ◌∷◌, ◌++◌, length, map, get_or, refl, sym, ap, ◌∙◌, subst, arith, Ordering}
use Rattle.std.specs.Ordering.{is_lt}
use Rattle.std.specs.List.Sorted.{IsPermutation, IsSorted}
use Rattle.std.proofs.lemmas.List.{length-map, get_or-map, map-append}
use Rattle.std.proofs.lemmas.List.Sorted.{IsPermutation-map}
use Rattle.ua_listing.specs.declared.sorting.HighRow.{HighRow}
use Rattle.ua_listing.proofs.HighLaws.{High, high, high_cmp, highs, highs_more, by_height_from}
use Rattle.ua_listing.proofs.sorting.high_rows.Goals as goal

-- what is in order by a test that reads the height and the position
sorted_high : (cmp : HighRow → HighRow → Ordering) → ((a b : HighRow) → cmp a b ≡ high_cmp (high a) (high b)) → (rows : List HighRow) → IsSorted cmp rows → IsSorted high_cmp (map high rows)
sorted_high cmp same [] s = λ k d l h. absurd (omega (arith, h))
sorted_high cmp same (x ∷ xs) s = λ k d l h.
    let top : k + 1 < length (x ∷ xs) = omega (arith, h, length-map (x ∷ xs) high) in
    let low : k < length (x ∷ xs) = omega (arith, top) in
    let a = get_or-map high (x ∷ xs) (k + 1) x d top in
    let b = get_or-map high (x ∷ xs) k x d low in
    let here = s k x l top in
    (λ i. is_lt (high_cmp (a i) (b i))) ∙ ap is_lt (sym (same (get_or (x ∷ xs) (k + 1) x) (get_or (x ∷ xs) k x))) ∙ here

pub loop-place-preserved : goal.loop-place-preserved
loop-place-preserved c =
    ap (map high) c.in_ok-push.ensures.items
    ∙ map-append high c.loop-place.rows.items _
    ∙ (λ i. c.loop-place.invariant i ++ (get_or c.args.heights.now c.loop-place.place 0, c.loop-place.place) ∷ [])
    ∙ sym (highs_more c.args.heights.now c.loop-place.place)

pub returns : goal.returns
returns c =
    let stop = c.loop-place-test.false in
    let end = c.loop-place.auto.place-end in
    let all : c.loop-place.place ≡ length c.args.heights.now = omega (arith, stop, end) in
    let is : map high c.loop-place.rows.items ≡ highs c.args.heights.now (length c.args.heights.now) = c.loop-place.invariant ∙ ap (highs c.args.heights.now) all in
    by_height_from c.args.heights.now c.sort.new.self.items
    (subst (λ (ps : List High). IsPermutation ps (map high c.sort.new.self.items)) is (IsPermutation-map high c.loop-place.rows.items c.sort.new.self.items c.in_ok-sort.ensures.permutation))
    (sorted_high _ (λ a b. refl) c.sort.new.self.items c.in_ok-sort.ensures.sorted)
