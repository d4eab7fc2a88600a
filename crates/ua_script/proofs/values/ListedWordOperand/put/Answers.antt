use Rattle.ua_operands.proofs.Vocabulary.{names, Shows}
use Rattle.std.proofs.Common.{subst}
use Rattle.ua_text.proofs.Prints.{shows_both, on_ok}
use Rattle.ua_script.proofs.values.ListedWordOperand.put.Goals as goal

pub returns : goal.returns
returns c = on_ok c.put-2.result c.put-2.ensures (λ t. shows_both c.args.printer.now c.put.new.self c.put-2.new.self _ _ c.in_ok-put.ensures
    (shows_both c.put.new.self c.put_names.new.printer c.put-2.new.self _ _ (subst (λ z. Shows c.put.new.self c.put_names.new.printer (names z)) c.as_slice.ensures c.in_ok-put_names.ensures) t))
