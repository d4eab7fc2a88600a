use Rattle.std.proofs.Common.{◌≡◌, ◌+◌, ◌*◌, ◌<◌, ◌≤◌, ◌-◌, ℕ, List, [], length, sym, ap, ◌∙◌, subst, arith}
use Rattle.std.specs.Prelude.{slice_index, slice_index_or, slice_range, Contains}
use Rattle.std.specs.List.{AllByRecursion}
use Rattle.std.proofs.Math.Nat.{mul-le-mul_right}
use Rattle.std.proofs.lemmas.List.FromFn.{length-map-range_with_len}
use Rattle.ua_table.specs.Algebras.{Vector}
use Rattle.ua_columns.specs.Columns.{values_at}
use Rattle.ua_columns.specs.Quads.{QuadVectors, quad_vector, AreLongLines}
use Rattle.ua_columns.specs.inner.Quads.{IsSomeKey}
use Rattle.ua_columns.proofs.ListLaws.{part_index}
use Rattle.ua_columns.proofs.QuadLaws.{known_quads}
use Rattle.ua_columns.proofs.quad_lists.Quads.known.Goals as goal

pub overflow_mul-block : goal.overflow_mul-block
overflow_mul-block c =
    let here = c.self.inside in
    let n = length-map-range_with_len (quad_vector here.width here.keys.items) 0 here.count in
    let same = ap (λ (v : QuadVectors). length v.items) c.self.view_is in
    let few = c.self.invariant.few in
    let r = c.requires.block in omega (arith, r, n, same, few)

pub overflow_sub-self-inside : goal.overflow_sub-self-inside
overflow_sub-self-inside c =
    let here = c.self.inside in
    let n = length-map-range_with_len (quad_vector here.width here.keys.items) 0 here.count in
    let same = ap (λ (v : QuadVectors). length v.items) c.self.view_is in
    let r = c.requires.block in omega (arith, r, n, same)

pub block_keys-keys-requires-clause-whole : goal.block_keys-keys-requires-clause-whole
block_keys-keys-requires-clause-whole c =
    let here = c.self.inside in
    let n = length-map-range_with_len (quad_vector here.width here.keys.items) 0 here.count in
    let same = ap (λ (v : QuadVectors). length v.items) c.self.view_is in
    let least = c.min-count.ensures in
    let within : 16 * c.args.block + c.min-count.result ≤ here.count = (let r = c.requires.block in omega (arith, r, n, same, least)) in
    let m : (16 * c.args.block + c.min-count.result) * here.words ≤ here.count * here.words = mul-le-mul_right here.words within in
    let k = c.self.invariant.keyed in
    let l = ap (length {A = ℕ}) c.as_slice.ensures.value in
    omega (arith, m, k, l)

pub block_keys-keys-requires-clause-few : goal.block_keys-keys-requires-clause-few
block_keys-keys-requires-clause-few c =
    let here = c.self.inside in
    let n = length-map-range_with_len (quad_vector here.width here.keys.items) 0 here.count in
    let same = ap (λ (v : QuadVectors). length v.items) c.self.view_is in
    let least = c.min-count.ensures in
    let few = c.self.invariant.few in
    let r = c.requires.block in omega (arith, r, n, same, least, few)

pub known_keys-bits-requires-clause-named : goal.known_keys-bits-requires-clause-named
known_keys-bits-requires-clause-named c = subst (AllByRecursion (λ r. r ≤ c.self.inside.count - 1)) (sym c.as_slice-3.ensures.value) c.self.invariant.named

pub returns-clause-known : goal.returns-clause-known
returns-clause-known c f are r low bit =
    let here = c.self.inside in
    let b = c.args.block in
    let h = c.self.invariant in
    let all = length-map-range_with_len (quad_vector here.width here.keys.items) 0 here.count in
    let view = ap (λ (v : QuadVectors). v.items) c.self.view_is in
    let count = ap (length {A = Vector}) view in
    let told = c.first_bits.ensures r bit in
    let fewer = told.0 in
    let least = c.min-count.ensures in
    let lanes = c.min-count.result in
    let block = c.requires.block in
    let top : 16 * b + lanes ≤ here.count = omega (arith, least, block, all, count) in
    let within : 16 * b + r < here.count = omega (arith, fewer, top) in
    let values = c.write_values-hashes.new.out in
    let width = ap (λ (v : QuadVectors). v.width) c.self.view_is in
    let size = ap (λ (v : QuadVectors). v.size) c.self.view_is in
    let row : IsSomeKey here.keys.items here.words here.count values r = subst (λ (ks : List ℕ). IsSomeKey ks here.words here.count values r) c.as_slice-2.ensures.value (c.known_keys-bits.ensures r low told.1) in
    let part = c.block_keys-keys.result.now in
    let part_is : (k : ℕ) → k < lanes * here.words → slice_index part k ≡ slice_index here.keys.items (16 * b * here.words + k) =
    (λ k inside.
    ap (λ (ks : List ℕ). slice_index ks k)
    (c.block_keys-keys.ensures.part
    ∙ ap (λ (ks : List ℕ). slice_range ks (16 * b * here.words) (16 * b * here.words + lanes * here.words)) c.as_slice.ensures.value)
    ∙ part_index here.keys.items (16 * b * here.words) (lanes * here.words) k inside)
    in
    let lined : AreLongLines here.size here.width f c.args.lines.now = subst (λ (q : ℕ × ℕ). AreLongLines q.0 q.1 f c.args.lines.now) (λ i. (sym size i, sym width i)) are in
    let found = known_quads here.width here.size here.words here.count here.keys.items c.args.lines.now f b r row.0 lanes values part h.words_are h.keyed h.some_size h.below lined part_is
    c.write_values-hashes.ensures fewer top row.1 row.2 in
    subst (λ (vs : List Vector). (16 * b + r < length vs) × Contains vs (values_at f (slice_index_or vs (16 * b + r) []))) view (omega (arith, within, all), found)
