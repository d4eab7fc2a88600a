use Rattle.ua_operands.proofs.Vocabulary.{sign, Shows, Number, number, part_block}
use Rattle.std.proofs.Common.{◌≡◌, ◌∷◌, ◌++◌, [], map, codes, sym, subst}
use Rattle.ua_text.specs.declared.symbols.Role.TheVariants as roles
use Rattle.ua_text.proofs.Prints.{shows_both, on_ok}
use Rattle.ua_operands.proofs.printers.put_part_block.Goals as goal

pub returns : goal.returns
returns c =
    let first : Number = c.in-Some.first.now in let others = c.in-Some.others.now in
    let whole : c.args.block.now ≡ first ∷ others = c.in-Some.ensures.cases.0 in
    let one = number c.args.role first ∷ [] in let more = map (number roles.Inner) others in let bar = sign roles.Bar (codes "|") ∷ [] in
    on_ok c.put-2.result c.put-2.ensures (λ s. subst (λ z. Shows c.args.printer.now c.put-2.new.self (part_block c.args.role z)) (sym whole)
    (shows_both c.args.printer.now c.put_number.new.printer c.put-2.new.self one (more ++ bar) c.in_ok-put_number.ensures
    (shows_both c.put_number.new.printer c.put_inner.new.printer c.put-2.new.self more bar c.in_ok-put_inner.ensures s)))
