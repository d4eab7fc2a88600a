use Rattle.ua_operands.proofs.Vocabulary.{flat_map, Shows, part_block}
use Rattle.std.proofs.Common.{◌≡◌, ◌++◌, ◌<◌, length, take, sym, ◌∙◌, ap, subst, arith}
use Rattle.std.proofs.lemmas.List.{take_all}
use Rattle.ua_text.specs.declared.symbols.Role.TheVariants as roles
use Rattle.ua_text.proofs.Prints.{shows_both, flat_push}
use Rattle.ua_operands.proofs.ReadLaws.{blocks_flat}
use Rattle.ua_operands.proofs.printers.put_part_blocks.Goals as goal

pub loop-block-preserved : goal.loop-block-preserved
loop-block-preserved c =
    let bs = c.args.blocks.now in let i = c.loop-block.block-index in let b = c.block-item.result in
    let below : i < length bs = let l = c.loop-block-test.true in omega arith in
    let one = subst (λ z. Shows c.loop-block.printer c.put_part_block.new.printer (part_block roles.More z)) c.as_slice.ensures c.in_ok-put_part_block.ensures in
    subst (λ z. Shows c.args.printer.now c.put_part_block.new.printer z) (sym (flat_push (part_block roles.More) bs i b below ∙ ap (λ z. flat_map (part_block roles.More) (take i bs) ++ part_block roles.More z) (sym c.block-item.is)))
    (shows_both c.args.printer.now c.loop-block.printer c.put_part_block.new.printer (flat_map (part_block roles.More) (take i bs)) (part_block roles.More b) c.loop-block.invariant one)

pub returns : goal.returns
returns c =
    let bs = c.args.blocks.now in
    let e : take c.loop-block.block-index bs ≡ bs = take_all c.loop-block.block-index bs (let f = c.loop-block-test.false in omega arith) in
    subst (λ z. Shows c.args.printer.now c.loop-block.printer z) (sym (blocks_flat bs)) (subst (λ z. Shows c.args.printer.now c.loop-block.printer (flat_map (part_block roles.More) z)) e c.loop-block.invariant)
