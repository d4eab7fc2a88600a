use Rattle.ua_operands.proofs.Vocabulary.{sign_at, Shows, Number, part_block, part_blocks}
use Rattle.std.proofs.Common.{◌≡◌, ◌∷◌, ◌++◌, [], List, codes, sym, subst, ◌∙◌}
use Rattle.ua_text.specs.declared.symbols.Role.TheVariants as roles
use Rattle.ua_text.proofs.Prints.{shows_both, on_ok}
use Rattle.ua_operands.proofs.printers.put_part.Goals as goal

pub returns : goal.returns
returns c =
    let first : List Number = c.in-Some.first.now in let others = c.in-Some.others.now in
    let whole : c.args.p.now.blocks ≡ first ∷ others = sym c.as_slice.ensures ∙ c.in-Some.ensures.cases.0 in
    let bar = sign_at roles.Bar (codes "|") c.args.p.now.place ∷ [] in
    let opened : Shows c.args.printer.now c.put.new.self bar = record { text = c.in_ok-put.ensures.text; last = c.in_ok-put.ensures.last } in
    let block = subst (λ z. Shows c.put.new.self c.put_part_block.new.printer (part_block roles.Inner z)) c.as_slice-2.ensures c.in_ok-put_part_block.ensures in
    on_ok c.put_part_blocks.result c.put_part_blocks.ensures (λ s. subst (λ z. Shows c.args.printer.now c.put_part_blocks.new.printer (bar ++ part_blocks roles.Inner z)) (sym whole)
    (shows_both c.args.printer.now c.put.new.self c.put_part_blocks.new.printer bar (part_block roles.Inner first ++ part_blocks roles.More others) opened
    (shows_both c.put.new.self c.put_part_block.new.printer c.put_part_blocks.new.printer (part_block roles.Inner first) (part_blocks roles.More others) block s)))
