use Rattle.std.proofs.Common.{◌≡◌, ◌+◌, ◌*◌, ◌/◌, ◌<◌, ◌≤◌, ◌-◌, ℕ, List, [], length, sym, ap, ◌∙◌, subst, arith}
use Rattle.std.specs.Prelude.{slice_index_or, Contains}
use Rattle.std.specs.List.{AllByRecursion}
use Rattle.std.proofs.lemmas.List.FromFn.{length-map-range_with_len}
use Rattle.ua_table.specs.Algebras.{Vector}
use Rattle.ua_columns.specs.inner.Tiles.{IsSomeKeyAt}
use Rattle.ua_columns.specs.Columns.{VectorColumns, words_for, block_of, vector_in, AreLinesOf, values_at}
use Rattle.ua_columns.specs.inner.Columns.{AreDigits}
use Rattle.ua_columns.proofs.KnownLaws.{whole_at, known_vector}
use Rattle.ua_columns.proofs.columns.Columns.known.Goals as goal

pub block_in-tiles-requires : goal.block_in-tiles-requires
block_in-tiles-requires c =
    let here = c.self.inside in
    let b = c.args.block in
    let count = length-map-range_with_len (vector_in here.width here.tiles.items) 0 here.count in
    let same = ap (λ (v : VectorColumns). length v.items) c.self.view_is in
    let low : 16 * b < here.count = (let r = c.requires.block in omega (arith, r, count, same)) in
    let place : 16 * b / 16 ≡ b = omega arith in
    subst (λ (q : ℕ × ℕ). q.0 * here.parts + here.parts ≤ q.1) (λ i. (place i, sym (ap (length {A = List (List ℕ)}) c.as_slice.ensures.value) i))
    (whole_at here.width here.in_bytes here.parts here.words here.count here.blocks here.tiles.items here.keys here.key.items here.front.items here.ready c.self.invariant (16 * b) low)

pub known_lanes-bits-requires-clause-named : goal.known_lanes-bits-requires-clause-named
known_lanes-bits-requires-clause-named c = subst (AllByRecursion (λ r. r ≤ c.self.inside.count - 1)) (sym c.as_slice-3.ensures.value) c.self.invariant.named

pub overflow_mul-block : goal.overflow_mul-block
overflow_mul-block c =
    let here = c.self.inside in
    let count = length-map-range_with_len (vector_in here.width here.tiles.items) 0 here.count in
    let same = ap (λ (v : VectorColumns). length v.items) c.self.view_is in
    let few = c.self.invariant.few in
    let r = c.requires.block in omega (arith, r, count, same, few)

pub overflow_sub-self-inside : goal.overflow_sub-self-inside
overflow_sub-self-inside c =
    let here = c.self.inside in
    let count = length-map-range_with_len (vector_in here.width here.tiles.items) 0 here.count in
    let same = ap (λ (v : VectorColumns). length v.items) c.self.view_is in
    let r = c.requires.block in omega (arith, r, count, same)

pub returns-clause-known : goal.returns-clause-known
returns-clause-known c f are r low bit =
    let here = c.self.inside in
    let b = c.args.block in
    let h = c.self.invariant in
    let all = length-map-range_with_len (vector_in here.width here.tiles.items) 0 here.count in
    let view = ap (λ (v : VectorColumns). v.items) c.self.view_is in
    let told = c.first_bits.ensures r bit in
    let fewer = told.0 in
    let least = c.min.ensures in
    let within : 16 * b + r < here.count = omega (arith, fewer, least) in
    let values = c.write_digits-hashes.new.out in
    let values_long : length values ≡ here.words = c.write_digits-hashes.auto.out ∙ c.requires.values ∙ sym (h.words_are ∙ ap (λ (v : VectorColumns). words_for v.in_bytes v.width) c.self.view_is) in
    let block : c.block_in-tiles.result.now ≡ block_of here.tiles.items here.parts b = c.block_in-tiles.ensures.block ∙ ap (λ (ts : List (List (List ℕ))). block_of ts here.parts b) c.as_slice.ensures.value in
    let form : c.args.self.now.in_bytes ≡ here.in_bytes = sym (ap (λ (v : VectorColumns). v.in_bytes) c.self.view_is) in
    let lines : AreLinesOf here.in_bytes f c.args.lines.now = subst (λ t. AreLinesOf t f c.args.lines.now) form are in
    let digits : AreDigits here.in_bytes f (block_of here.tiles.items here.parts b) values = subst (λ (bs : List (List (List ℕ))). AreDigits here.in_bytes f bs values) block (c.write_digits-hashes.ensures f lines) in
    let row : IsSomeKeyAt here.keys.items here.words here.count values r = subst (λ (q : List ℕ × ℕ). IsSomeKeyAt q.0 q.1 here.count values r) (λ i. (c.as_slice-2.ensures.value i, values_long i)) (c.known_lanes-bits.ensures r low told.1) in
    let found =
    known_vector here.width here.in_bytes here.parts here.words here.count here.blocks here.tiles.items here.keys here.key.items here.front.items
    here.ready h f c.args.lines.now values b r row.0 lines values_long digits low within row.1 row.2 in
    subst (λ (vs : List Vector). (16 * b + r < length vs) × Contains vs (values_at f (slice_index_or vs (16 * b + r) []))) view (omega (arith, within, all), found)
