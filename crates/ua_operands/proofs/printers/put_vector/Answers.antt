use Rattle.ua_operands.proofs.Vocabulary.{sign, sign_at, Shows, entry}
use Rattle.std.proofs.Common.{◌≡◌, ◌∷◌, ◌++◌, [], ◌<◌, length, map, take, codes, sym, ap, ◌∙◌, subst, arith}
use Rattle.std.proofs.lemmas.List.{map_more, take_all}
use Rattle.ua_text.specs.declared.symbols.Role.TheVariants as roles
use Rattle.ua_text.proofs.Prints.{shows_both}
use Rattle.ua_operands.proofs.printers.put_vector.Goals as goal

pub loop-value-preserved : goal.loop-value-preserved
loop-value-preserved c =
    let vs = c.as_slice-value-items.result.now in let i = c.loop-value.value-index in
    let d = c.value-item.result in
    let below : i < length vs = let l = c.loop-value-test.true in omega arith in
    subst (λ z. Shows c.put.new.self c.put_entry.new.printer z) (sym (map_more entry vs i d below ∙ ap (λ z. map entry (take i vs) ++ entry z ∷ []) (sym c.value-item.is)))
    (shows_both c.put.new.self c.loop-value.printer c.put_entry.new.printer (map entry (take i vs)) (entry d ∷ []) c.loop-value.invariant c.in_ok-put_entry.ensures)

pub returns : goal.returns
returns c =
    let vs = c.as_slice-value-items.result.now in
    let e : take c.loop-value.value-index vs ≡ vs = take_all c.loop-value.value-index vs (let f = c.loop-value-test.false in omega arith) in
    let inner = subst (λ z. Shows c.put.new.self c.loop-value.printer (map entry z)) (e ∙ c.as_slice-value-items.ensures) c.loop-value.invariant in
    let opened : Shows c.args.printer.now c.put.new.self (sign_at roles.Opens (codes "[") c.args.v.now.place ∷ []) = record { text = c.in_ok-put.ensures.text; last = c.in_ok-put.ensures.last } in
    shows_both c.args.printer.now c.put.new.self c.put-2.new.self (sign_at roles.Opens (codes "[") c.args.v.now.place ∷ []) (map entry c.args.v.now.values ++ sign roles.Closes (codes "]") ∷ []) opened
    (shows_both c.put.new.self c.loop-value.printer c.put-2.new.self (map entry c.args.v.now.values) (sign roles.Closes (codes "]") ∷ []) inner c.in_ok-put-2.ensures)
