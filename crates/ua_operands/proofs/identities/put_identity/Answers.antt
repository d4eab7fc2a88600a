use Rattle.ua_operands.proofs.Vocabulary.{sign, sign_at, Shows, variable, arguments, identity_behind}
use Rattle.std.proofs.Common.{◌∷◌, [], codes, subst}
use Rattle.ua_text.specs.declared.symbols.Role.TheVariants as roles
use Rattle.ua_text.proofs.Prints.{shows_both, on_ok}
use Rattle.ua_operands.proofs.identities.put_identity.Goals as goal

pub returns : goal.returns
returns c =
    let p = c.args.printer.now in
    let i = c.args.i.now in
    let opened : Shows p c.put.new.self (sign_at roles.Opens (codes "(") i.place ∷ []) = record { text = c.in_ok-put.ensures.text; last = c.in_ok-put.ensures.last } in
    let args = subst (λ z. Shows c.put.new.self c.put_arguments.new.printer (arguments z)) c.as_slice.ensures c.in_ok-put_arguments.ensures in
    on_ok c.put_variable.result c.put_variable.ensures (λ m.
    let value = shows_both c.put_arguments.new.printer c.put-2.new.self c.put_variable.new.printer (sign roles.Exact (codes "=") ∷ []) (variable i.value ∷ []) c.in_ok-put-2.ensures m in
    let behind = shows_both c.put.new.self c.put_arguments.new.printer c.put_variable.new.printer (arguments i.args) (sign roles.Exact (codes "=") ∷ variable i.value ∷ []) args value in
    shows_both p c.put.new.self c.put_variable.new.printer (sign_at roles.Opens (codes "(") i.place ∷ []) (identity_behind i) opened behind)
