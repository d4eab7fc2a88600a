use Rattle.ua_operands.proofs.Vocabulary.{sign, Shows, variable}
use Rattle.std.proofs.Common.{◌≡◌, ◌∷◌, [], ◌<◌, length, map, take, codes, sym, subst, arith}
use Rattle.std.proofs.lemmas.List.{map_more, take_all}
use Rattle.ua_text.specs.declared.symbols.Role.TheVariants as roles
use Rattle.ua_text.proofs.Prints.{shows_both}
use Rattle.ua_operands.proofs.identities.put_arguments.Goals as goal

pub loop-v-preserved : goal.loop-v-preserved
loop-v-preserved c =
    let vs = c.args.args.now in let i = c.loop-v.v-index in
    let below : i < length vs = let l = c.loop-v-test.true in omega arith in
    subst (λ z. Shows c.args.printer.now c.put_variable.new.printer z) (sym (map_more variable vs i _ below))
    (shows_both c.args.printer.now c.loop-v.printer c.put_variable.new.printer (map variable (take i vs)) (variable _ ∷ []) c.loop-v.invariant c.in_ok-put_variable.ensures)

pub returns : goal.returns
returns c =
    let vs = c.args.args.now in
    let e : take c.loop-v.v-index vs ≡ vs = take_all c.loop-v.v-index vs (let f = c.loop-v-test.false in omega arith) in
    let inner = subst (λ z. Shows c.args.printer.now c.loop-v.printer (map variable z)) e c.loop-v.invariant in
    shows_both c.args.printer.now c.loop-v.printer c.put.new.self (map variable vs) (sign roles.Closes (codes ")") ∷ []) inner c.in_ok-put.ensures
