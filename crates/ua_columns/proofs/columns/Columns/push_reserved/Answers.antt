use Rattle.std.proofs.Common.{◌≡◌, ◌+◌, ◌-◌, ◌*◌, ◌/◌, ◌%◌, ◌<◌, ◌≤◌, ◌++◌, ◌∷◌, [], ℕ, List, false, length, take, drop, sym, ap, ◌∙◌, subst, arith, cond}
use Rattle.std.specs.Prelude.{is_ok}
use Rattle.std.specs.List.{AllByRecursion}
use Rattle.std.proofs.lemmas.List.FromFn.{length-map-range_with_len}
use Rattle.ua_table.specs.Algebras.{Vector}
use Rattle.ua_columns.specs.Columns.{VectorColumns, limit, digits, base, AreBelow, word_of, key_of, block_of, vectors_in, HasRoom, AreColumns}
use Rattle.ua_table.proofs.Lists.{all_weaker, written_back}
use Rattle.ua_columns.proofs.PushLaws.{some_one, block_whole, IsEntered, pushed_vectors, pushed_columns}
use Rattle.ua_columns.proofs.KnownLaws.{block_low}
use Rattle.ua_columns.proofs.columns.Columns.push_reserved.Goals as goal

-- there is room, as the caller says
has_room : (c : goal.After-self-4-1) → HasRoom c.self.inside.words c.self.inside.count c.self.inside.blocks c.self.inside.keys
has_room c = c.self.invariant.room (some_one c.self.inside.ready (let e = ap (λ (v : VectorColumns). v.spare) c.self.view_is in let s = c.requires.spare in omega (arith, e, s)))

-- the tiles, written through their slice
written : (c : goal.After-self-4-1) → take c.self.inside.tiles.len (c.enter_lane.new.tiles ++ drop (length c.enter_lane.new.tiles) c.self.inside.tiles.items) ≡ c.enter_lane.new.tiles
written c =
    let here = c.self.inside in
    written_back here.tiles.items c.enter_lane.new.tiles here.tiles.len (c.enter_lane.ensures.length ∙ ap (length {A = List (List ℕ)}) c.as_mut_slice.ensures.value) here.tiles.ok.0

entered : (c : goal.After-self-4-1) → IsEntered c.self.inside.parts c.self.inside.count c.self.inside.tiles.items c.enter_lane.new.tiles c.args.v.now
entered c =
    let here = c.self.inside in
    let e = c.enter_lane.ensures in
    let room = has_room c in
    subst (λ (tiles : List (List (List ℕ))). IsEntered here.parts here.count tiles c.enter_lane.new.tiles c.args.v.now) c.as_mut_slice.ensures.value record {
      long = e.length;
      whole = block_whole here.parts here.count here.blocks (length c.as_mut_slice.result.now) room.block (let w = c.self.invariant.whole in let l = ap (length {A = List (List ℕ)}) c.as_mut_slice.ensures.value in omega (arith, w, l));
      others = e.others;
      lane = e.lane;
      lanes = e.lanes;
    }

pub write_key-requires-clause-low : goal.write_key-requires-clause-low
write_key-requires-clause-low c =
    let here = c.self.inside in
    let tiles = c.enter_lane.new.tiles in
    let old : c.as_mut_slice.result.now ≡ here.tiles.items = c.as_mut_slice.ensures.value in
    let to : c.args.self.now.in_bytes ≡ here.in_bytes = sym (ap (λ (v : VectorColumns). v.in_bytes) c.self.view_is) in
    let back = written_back here.tiles.items tiles here.tiles.len (c.enter_lane.ensures.length ∙ ap (length {A = List (List ℕ)}) old) here.tiles.ok.0 in
    let low : AreBelow (limit here.in_bytes) tiles =
    c.enter_lane.ensures.low (limit here.in_bytes) (subst (λ b. AllByRecursion (λ x. x < limit b) c.args.v.now) to c.requires.entries)
    (subst (AreBelow (limit here.in_bytes)) (sym old) c.self.invariant.low) in
    subst (AreBelow (limit here.in_bytes)) (sym (c.block_in-columns.ensures.block ∙ ap (λ (ts : List (List (List ℕ))). block_of ts here.parts (here.count / 16)) (c.as_slice.ensures.value ∙ back)))
    (block_low (limit here.in_bytes) tiles here.parts (here.count / 16) low)

-- the tiles are as low as before, with the entries of the vector
stay_low : (c : goal.After-self-4-1) → AreBelow (limit c.self.inside.in_bytes) c.enter_lane.new.tiles
stay_low c =
    let here = c.self.inside in
    let to : c.args.self.now.in_bytes ≡ here.in_bytes = sym (ap (λ (v : VectorColumns). v.in_bytes) c.self.view_is) in
    c.enter_lane.ensures.low (limit here.in_bytes) (subst (λ b. AllByRecursion (λ x. x < limit b) c.args.v.now) to c.requires.entries) (subst (AreBelow (limit here.in_bytes)) (sym c.as_mut_slice.ensures.value) c.self.invariant.low)

pub invariant_of-self : goal.invariant_of-self
invariant_of-self c =
    let here = c.self.inside in
    let e = c.enter_lane.ensures in
    let block = c.block_in-columns.result.now in
    let key = c.write_key.new.key in
    let old : length c.as_mut_slice-2.result.now ≡ here.words = ap (length {A = ℕ}) c.as_mut_slice-2.ensures.value ∙ c.self.invariant.key_long in
    let word : ℕ → ℕ = λ j. word_of (base here.in_bytes) (digits here.in_bytes) block (here.count % 16) (digits here.in_bytes * j) in
    let words : length key ≡ here.words = ap (length {A = ℕ}) c.write_key.ensures ∙ length-map-range_with_len word 0 (length c.as_mut_slice-2.result.now) ∙ old in
    let keyed : take here.key.len (key ++ drop (length key) here.key.items) ≡ key = written_back here.key.items key here.key.len (words ∙ sym c.self.invariant.key_long) here.key.ok.0 in
    let added : c.extend_from_slice.new.self.items ≡ here.keys.items ++ key =
    c.extend_from_slice.ensures.items ∙ ap (λ r. cond (is_ok r) (here.keys.items ++ c.as_slice-2.result.now) here.keys.items) c.unwrap.ensures
    ∙ ap (λ (k : List ℕ). here.keys.items ++ k) (c.as_slice-2.ensures.value ∙ keyed) in
    let named = c.enter.ensures.named here.count (omega arith) (all_weaker (λ r. r ≤ here.count - 1) (λ r. r ≤ here.count) (λ r low. omega (arith, low)) here.front.items c.self.invariant.named) in
    let some : 0 < length c.enter.new.front.items = (let l = c.enter.ensures.length in let s = c.self.invariant.some in omega (arith, l, s)) in
    let is : key ≡ key_of here.in_bytes here.words (block_of c.enter_lane.new.tiles here.parts (here.count / 16)) (here.count % 16) =
    c.write_key.ensures ∙ ap (λ n. key_of here.in_bytes n block (here.count % 16)) old
    ∙ ap (λ (b : List (List (List ℕ))). key_of here.in_bytes here.words b (here.count % 16))
    (c.block_in-columns.ensures.block
    ∙ ap (λ (ts : List (List (List ℕ))). block_of ts here.parts (here.count / 16)) (c.as_slice.ensures.value ∙ written c))
    in
    subst (λ (q : List (List (List ℕ)) × List ℕ). AreColumns here.width here.in_bytes here.parts here.words (here.count + 1) here.blocks q.0 c.extend_from_slice.new.self q.1 c.enter.new.front.items false)
    (λ j. (sym (written c) j, sym keyed j))
    (pushed_columns here.width here.in_bytes here.parts here.words here.count here.blocks here.tiles.items here.keys here.key.items here.front.items here.ready c.self.invariant
    c.enter_lane.new.tiles c.args.v.now c.extend_from_slice.new.self key c.enter.new.front.items (entered c) (stay_low c) some named (has_room c).block (has_room c).few is added words)

pub returns-clause-items : goal.returns-clause-items
returns-clause-items c =
    let here = c.self.inside in
    let e = c.self.view_is in
    let long : length c.args.v.now ≡ here.width = c.requires.width ∙ sym (ap (λ (v : VectorColumns). v.width) e) in
    ap (λ (ts : List (List (List ℕ))). vectors_in here.width ts (here.count + 1)) (written c)
    ∙ pushed_vectors here.parts here.count here.tiles.items c.enter_lane.new.tiles c.args.v.now (entered c) here.width c.self.invariant.parts_are long
    ∙ ap (λ (vs : List Vector). vs ++ c.args.v.now ∷ []) (ap (λ (v : VectorColumns). v.items) e)
