use Rattle.ua_operands.proofs.Vocabulary.{Shows, Number, number}
use Rattle.std.proofs.Common.{◌≡◌, ◌∷◌, [], ◌<◌, length, map, take, get_or, sym, subst, arith}
use Rattle.std.proofs.lemmas.List.{map_more, take_all}
use Rattle.ua_text.specs.declared.symbols.Role.TheVariants as roles
use Rattle.ua_text.proofs.Prints.{shows_both}
use Rattle.ua_operands.proofs.printers.put_inner.Goals as goal

abbrev none_there : Number
none_there = record { value = 0; place = record { line = 0; column = 0 } }

pub loop-n-preserved : goal.loop-n-preserved
loop-n-preserved c =
    let ns = c.args.numbers.now in let i = c.loop-n.n-index in
    let below : i < length ns = let l = c.loop-n-test.true in omega arith in
    subst (λ z. Shows c.args.printer.now c.put_number.new.printer z) (sym (map_more (number roles.Inner) ns i none_there below))
    (shows_both c.args.printer.now c.loop-n.printer c.put_number.new.printer (map (number roles.Inner) (take i ns)) (number roles.Inner (get_or ns i none_there) ∷ []) c.loop-n.invariant c.in_ok-put_number.ensures)

pub returns : goal.returns
returns c =
    let ns = c.args.numbers.now in
    let e : take c.loop-n.n-index ns ≡ ns = take_all c.loop-n.n-index ns (let f = c.loop-n-test.false in omega arith) in
    subst (λ z. Shows c.args.printer.now c.loop-n.printer (map (number roles.Inner) z)) e c.loop-n.invariant
