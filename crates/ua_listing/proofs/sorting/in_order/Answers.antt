use Rattle.std.proofs.Common.{◌≡◌, ◌+◌, ◌<◌, ◌≤◌, List, [], ◌∷◌, ◌++◌, length, map, get_or, refl, sym, ap, ◌∙◌, subst, arith, Ordering}
use Rattle.std.specs.Ordering.{is_lt}
use Rattle.std.specs.List.Sorted.{IsPermutation, IsSorted}
use Rattle.std.proofs.lemmas.List.{length-map, get_or-map, map-append, take_all}
use Rattle.std.proofs.lemmas.List.Sorted.{IsPermutation-map}
use Rattle.std.proofs.lemmas.Option.{get_or_from_slice_get}
use Rattle.ua_table.specs.Orders.{Record, rows_of}
use Rattle.ua_listing.specs.declared.sorting.RankedRow.{RankedRow}
use Rattle.ua_listing.proofs.RankingLaws.{Ranked, ranked, ranked_cmp, numbered, numbered_more, ranking_from}
use Rattle.ua_listing.proofs.sorting.in_order.Goals as goal

-- what is in order by a test that reads the vector and the rank
sorted_ranked : (cmp : RankedRow → RankedRow → Ordering) → ((a b : RankedRow) → cmp a b ≡ ranked_cmp (ranked a) (ranked b)) → (rows : List RankedRow) → IsSorted cmp rows → IsSorted ranked_cmp (map ranked rows)
sorted_ranked cmp same [] s = λ k d l h. absurd (omega (arith, h))
sorted_ranked cmp same (x ∷ xs) s = λ k d l h.
    let high : k + 1 < length (x ∷ xs) = omega (arith, h, length-map (x ∷ xs) ranked) in
    let low : k < length (x ∷ xs) = omega (arith, high) in
    let a = get_or-map ranked (x ∷ xs) (k + 1) x d high in
    let b = get_or-map ranked (x ∷ xs) k x d low in
    let here = s k x l high in
    (λ i. is_lt (ranked_cmp (a i) (b i))) ∙ ap is_lt (sym (same (get_or (x ∷ xs) (k + 1) x) (get_or (x ∷ xs) k x))) ∙ here

pub loop-rank-preserved : goal.loop-rank-preserved
loop-rank-preserved c =
    let rows = rows_of c.args.records.now in
    let in_rows : c.loop-rank.rank < length rows = omega (arith, c.loop-rank-test.true, c.len-rank-end.ensures.len, length-map c.args.records.now (λ (r : Record). r.0)) in
    let vector : c.row.result.now ≡ get_or rows c.loop-rank.rank [] = sym (get_or_from_slice_get rows c.loop-rank.rank c.row.result.now [] c.row.ensures) in
    ap (map ranked) c.in_ok-push.ensures.items
    ∙ map-append ranked c.loop-rank.rows.items _
    ∙ (λ i. c.loop-rank.invariant i ++ (vector i, c.loop-rank.rank) ∷ [])
    ∙ sym (numbered_more rows c.loop-rank.rank in_rows)

pub returns-clause-ranking : goal.returns-clause-ranking
returns-clause-ranking c =
    let rows = rows_of c.args.records.now in
    let all : length rows ≤ c.loop-rank.rank = omega (arith, c.loop-rank-test.false, c.len-rank-end.ensures.len, length-map c.args.records.now (λ (r : Record). r.0)) in
    let is : map ranked c.loop-rank.rows.items ≡ numbered 0 rows = c.loop-rank.invariant ∙ ap (numbered 0) (take_all c.loop-rank.rank rows all) in
    ranking_from rows c.sort.new.self.items c.len.ensures.different (record {
      permutation = subst (λ (ps : List Ranked). IsPermutation ps (map ranked c.sort.new.self.items)) is (IsPermutation-map ranked c.loop-rank.rows.items c.sort.new.self.items c.in_ok-sort.ensures.permutation);
      sorted = sorted_ranked _ (λ a b. refl) c.sort.new.self.items c.in_ok-sort.ensures.sorted;
    })
