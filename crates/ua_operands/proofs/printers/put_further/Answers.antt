use Rattle.ua_operands.proofs.Vocabulary.{sign, Shows, further}
use Rattle.std.proofs.Common.{◌≡◌, ◌∷◌, ◌++◌, [], ◌<◌, length, map, take, sym, ap, ◌∙◌, subst, arith}
use Rattle.std.proofs.lemmas.List.{map_more, take_all}
use Rattle.ua_text.specs.declared.symbols.Role.TheVariants as roles
use Rattle.ua_text.proofs.Prints.{shows_both}
use Rattle.ua_operands.proofs.printers.put_further.Goals as goal

pub loop-w-preserved : goal.loop-w-preserved
loop-w-preserved c =
    let ws = c.args.words.now in let i = c.loop-w.w-index in let w = c.w-item.result in
    let below : i < length ws = let l = c.loop-w-test.true in omega arith in
    let put = subst (λ z. Shows c.loop-w.printer c.put.new.self (sign roles.Further z ∷ [])) c.text.ensures.text c.in_ok-put.ensures in
    let one : Shows c.loop-w.printer c.put.new.self (further w ∷ []) = record { text = put.text; last = put.last } in
    subst (λ z. Shows c.args.printer.now c.put.new.self z) (sym (map_more further ws i w below ∙ ap (λ z. map further (take i ws) ++ further z ∷ []) (sym c.w-item.is)))
    (shows_both c.args.printer.now c.loop-w.printer c.put.new.self (map further (take i ws)) (further w ∷ []) c.loop-w.invariant one)

pub returns : goal.returns
returns c =
    let ws = c.args.words.now in
    let e : take c.loop-w.w-index ws ≡ ws = take_all c.loop-w.w-index ws (let f = c.loop-w-test.false in omega arith) in
    subst (λ z. Shows c.args.printer.now c.loop-w.printer (map further z)) e c.loop-w.invariant
