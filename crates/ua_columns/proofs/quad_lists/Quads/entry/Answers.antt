use Rattle.std.proofs.Common.{◌+◌, ◌*◌, ◌/◌, ◌%◌, ◌<◌, ℕ, List, [], length, sym, ap, ◌∙◌, arith}
use Rattle.std.specs.Prelude.{slice_index, slice_index_or}
use Rattle.std.proofs.lemmas.List.FromFn.{length-map-range_with_len}
use Rattle.ua_rows.specs.Words.{lanes_of}
use Rattle.ua_columns.specs.Quads.{QuadVectors, quad_vector, quad_entry}
use Rattle.ua_columns.proofs.QuadLaws.{spot, entry_at}
use Rattle.ua_columns.proofs.quad_lists.Quads.entry.Goals as goal

pub overflow_mul-i : goal.overflow_mul-i
overflow_mul-i c =
    let here = c.self.inside in
    let n = length-map-range_with_len (quad_vector here.width here.keys.items) 0 here.count in
    let same = ap (λ (v : QuadVectors). length v.items) c.self.view_is in
    let w = ap (λ (v : QuadVectors). v.width) c.self.view_is in
    let low : c.args.i < here.count = (let r = c.requires.vector in omega (arith, r, n, same)) in
    let within : c.args.x < here.width = (let r = c.requires.coordinate in omega (arith, r, w)) in
    let s = spot here.width here.words here.count c.args.i c.args.x c.self.invariant.words_are low within in
    let k = c.self.invariant.keyed in
    omega (arith, s, k)

pub overflow_add-i : goal.overflow_add-i
overflow_add-i c =
    let here = c.self.inside in
    let n = length-map-range_with_len (quad_vector here.width here.keys.items) 0 here.count in
    let same = ap (λ (v : QuadVectors). length v.items) c.self.view_is in
    let w = ap (λ (v : QuadVectors). v.width) c.self.view_is in
    let low : c.args.i < here.count = (let r = c.requires.vector in omega (arith, r, n, same)) in
    let within : c.args.x < here.width = (let r = c.requires.coordinate in omega (arith, r, w)) in
    let s = spot here.width here.words here.count c.args.i c.args.x c.self.invariant.words_are low within in
    let k = c.self.invariant.keyed in
    omega (arith, s, k)

pub word_in-word-requires : goal.word_in-word-requires
word_in-word-requires c =
    let here = c.self.inside in
    let n = length-map-range_with_len (quad_vector here.width here.keys.items) 0 here.count in
    let same = ap (λ (v : QuadVectors). length v.items) c.self.view_is in
    let w = ap (λ (v : QuadVectors). v.width) c.self.view_is in
    let low : c.args.i < here.count = (let r = c.requires.vector in omega (arith, r, n, same)) in
    let within : c.args.x < here.width = (let r = c.requires.coordinate in omega (arith, r, w)) in
    let s = spot here.width here.words here.count c.args.i c.args.x c.self.invariant.words_are low within in
    let k = c.self.invariant.keyed in
    let l = ap (length {A = ℕ}) c.as_slice.ensures.value in
    omega (arith, s, k, l)

pub returns : goal.returns
returns c =
    let here = c.self.inside in
    let i = c.args.i in
    let x = c.args.x in
    let n = length-map-range_with_len (quad_vector here.width here.keys.items) 0 here.count in
    let same = ap (λ (v : QuadVectors). length v.items) c.self.view_is in
    let w = ap (λ (v : QuadVectors). v.width) c.self.view_is in
    let low : i < here.count = (let r = c.requires.vector in omega (arith, r, n, same)) in
    let within : x < here.width = (let r = c.requires.coordinate in omega (arith, r, w)) in
    ap (λ (ls : List ℕ). slice_index ls (x % 4)) (c.elements_of.ensures ∙ ap lanes_of (c.word_in-word.ensures ∙ ap (λ (ks : List ℕ). slice_index ks (i * here.words + x / 4)) c.as_slice.ensures.value))
    ∙ ap (λ m. quad_entry here.keys.items m i x) c.self.invariant.words_are
    ∙ sym (entry_at here.width here.keys.items here.count i x low within)
    ∙ ap (λ (v : QuadVectors). slice_index (slice_index_or v.items i []) x) c.self.view_is
