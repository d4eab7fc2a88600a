use Rattle.std.proofs.Common.{◌+◌, ◌*◌, ◌/◌, ◌%◌, ◌<◌, ◌≤◌, ℕ, List, [], length, sym, ap, ◌∙◌, subst, arith}
use Rattle.std.specs.Prelude.{slice_index, slice_index_or}
use Rattle.std.proofs.lemmas.List.FromFn.{length-map-range_with_len}
use Rattle.ua_columns.specs.Columns.{VectorColumns, entry_of, block_of, vector_in}
use Rattle.ua_columns.proofs.KnownLaws.{entry_at, whole_at}
use Rattle.ua_columns.proofs.columns.Columns.entry.Goals as goal

pub block_in-block-requires : goal.block_in-block-requires
block_in-block-requires c =
    let here = c.self.inside in
    let count = length-map-range_with_len (vector_in here.width here.tiles.items) 0 here.count in
    let same = ap (λ (v : VectorColumns). length v.items) c.self.view_is in
    let low : c.args.i < here.count = (let r = c.requires.vector in omega (arith, r, count, same)) in
    subst (λ n. c.args.i / 16 * here.parts + here.parts ≤ n) (sym (ap (length {A = List (List ℕ)}) c.as_slice.ensures.value))
    (whole_at here.width here.in_bytes here.parts here.words here.count here.blocks here.tiles.items here.keys here.key.items here.front.items here.ready c.self.invariant c.args.i low)

pub returns : goal.returns
returns c =
    let here = c.self.inside in
    let i = c.args.i in
    let x = c.args.x in
    let count = length-map-range_with_len (vector_in here.width here.tiles.items) 0 here.count in
    let same = ap (λ (v : VectorColumns). length v.items) c.self.view_is in
    let low : i < here.count = (let r = c.requires.vector in omega (arith, r, count, same)) in
    let within : x < here.width = (let r = c.requires.coordinate in let w = ap (λ (v : VectorColumns). v.width) c.self.view_is in omega (arith, r, w)) in
    c.entry_at.ensures
    ∙ ap (λ (b : List (List (List ℕ))). entry_of b (i % 16) x) (c.block_in-block.ensures.block ∙ ap (λ (ts : List (List (List ℕ))). block_of ts here.parts (i / 16)) c.as_slice.ensures.value)
    ∙ ap (λ w. entry_of (block_of here.tiles.items w (i / 16)) (i % 16) x) c.self.invariant.parts_are
    ∙ sym (entry_at here.width here.in_bytes here.parts here.words here.count here.blocks here.tiles.items here.keys here.key.items here.front.items here.ready c.self.invariant i x low within)
    ∙ ap (λ (v : VectorColumns). slice_index (slice_index_or v.items i []) x) c.self.view_is
