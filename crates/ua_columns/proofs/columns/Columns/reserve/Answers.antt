use Rattle.std.proofs.Common.{◌≡◌, ◌*◌, ◌≤◌, true, false, length, refl, sym, ap, ◌∙◌, subst, arith}
use Rattle.ua_columns.specs.Columns.{VectorColumns}
use Rattle.ua_columns.proofs.ColumnLaws.{columns_roomy, vectors_same}
use Rattle.ua_columns.proofs.columns.Columns.reserve.Goals as goal

pub invariant_of-self : goal.invariant_of-self
invariant_of-self c =
    let here = c.self.inside in
    let h = c.self.invariant in
    let e = c.reserve_block.ensures in
    columns_roomy here.width here.in_bytes here.parts here.words here.count here.blocks here.tiles.items here.keys here.key.items here.front.items here.ready h
    c.reserve_block.new.blocks c.reserve_block.new.tiles.items here.keys here.front.items here.ready e.front e.low e.whole e.within e.tight refl h.some h.named
    (λ t. let no : true ≡ false = sym t ∙ c.if-self.false in absurd cc)

pub returns-in_err-reserve_block-clause-items : goal.returns-in_err-reserve_block-clause-items
returns-in_err-reserve_block-clause-items c =
    let here = c.self.inside in
    let h = c.self.invariant in
    vectors_same here.width here.tiles.items c.reserve_block.new.tiles.items here.count here.blocks h.within (subst (λ w. here.blocks * w ≤ length here.tiles.items) h.parts_are h.whole) c.reserve_block.ensures.front
    ∙ ap (λ (v : VectorColumns). v.items) c.self.view_is

pub invariant_of-self-in_err-reserve : goal.invariant_of-self-in_err-reserve
invariant_of-self-in_err-reserve c =
    let here = c.self.inside in
    let h = c.self.invariant in
    let e = c.reserve_block.ensures in
    columns_roomy here.width here.in_bytes here.parts here.words here.count here.blocks here.tiles.items here.keys here.key.items here.front.items here.ready h
    c.reserve_block.new.blocks c.reserve_block.new.tiles.items c.reserve.new.self here.front.items here.ready e.front e.low e.whole e.within e.tight c.reserve.ensures.items h.some h.named
    (λ t. let no : true ≡ false = sym t ∙ c.if-self.false in absurd cc)

pub returns-in_err-reserve-clause-items : goal.returns-in_err-reserve-clause-items
returns-in_err-reserve-clause-items c =
    let here = c.self.inside in
    let h = c.self.invariant in
    vectors_same here.width here.tiles.items c.reserve_block.new.tiles.items here.count here.blocks h.within (subst (λ w. here.blocks * w ≤ length here.tiles.items) h.parts_are h.whole) c.reserve_block.ensures.front
    ∙ ap (λ (v : VectorColumns). v.items) c.self.view_is

pub invariant_of-self-in_err-reserve_slots : goal.invariant_of-self-in_err-reserve_slots
invariant_of-self-in_err-reserve_slots c =
    let here = c.self.inside in
    let h = c.self.invariant in
    let e = c.reserve_block.ensures in
    columns_roomy here.width here.in_bytes here.parts here.words here.count here.blocks here.tiles.items here.keys here.key.items here.front.items here.ready h
    c.reserve_block.new.blocks c.reserve_block.new.tiles.items c.reserve.new.self c.reserve_slots.new.front.items here.ready e.front e.low e.whole
    e.within e.tight c.reserve.ensures.items c.reserve_slots.ensures.some c.reserve_slots.ensures.named
    (λ t. let no : true ≡ false = sym t ∙ c.if-self.false in absurd cc)

pub returns-in_err-reserve_slots-clause-items : goal.returns-in_err-reserve_slots-clause-items
returns-in_err-reserve_slots-clause-items c =
    let here = c.self.inside in
    let h = c.self.invariant in
    vectors_same here.width here.tiles.items c.reserve_block.new.tiles.items here.count here.blocks h.within (subst (λ w. here.blocks * w ≤ length here.tiles.items) h.parts_are h.whole) c.reserve_block.ensures.front
    ∙ ap (λ (v : VectorColumns). v.items) c.self.view_is

pub invariant_of-self-2 : goal.invariant_of-self-2
invariant_of-self-2 c =
    let here = c.self.inside in
    let h = c.self.invariant in
    let e = c.reserve_block.ensures in
    columns_roomy here.width here.in_bytes here.parts here.words here.count here.blocks here.tiles.items here.keys here.key.items here.front.items here.ready h
    c.reserve_block.new.blocks c.reserve_block.new.tiles.items c.reserve.new.self c.reserve_slots.new.front.items true e.front e.low e.whole e.within e.tight c.reserve.ensures.items c.reserve_slots.ensures.some c.reserve_slots.ensures.named
    (λ t. record {
      few = omega arith;
      block = c.in_ok-reserve_block.ensures.room;
      key = (let k = c.in_ok-reserve.ensures.ok in let l = c.in_ok-reserve.ensures.len in omega (arith, k, l));
    })

pub returns-clause-items : goal.returns-clause-items
returns-clause-items c =
    let here = c.self.inside in
    let h = c.self.invariant in
    vectors_same here.width here.tiles.items c.reserve_block.new.tiles.items here.count here.blocks h.within (subst (λ w. here.blocks * w ≤ length here.tiles.items) h.parts_are h.whole) c.reserve_block.ensures.front
    ∙ ap (λ (v : VectorColumns). v.items) c.self.view_is
