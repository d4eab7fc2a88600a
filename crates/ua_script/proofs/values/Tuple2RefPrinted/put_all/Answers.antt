use Rattle.ua_text.proofs.Prints.{shows_both, on_ok}
use Rattle.ua_script.proofs.values.Tuple2RefPrinted.put_all.Goals as goal

pub returns : goal.returns
returns g c = on_ok c.put_all.result c.put_all.ensures (λ t. shows_both c.args.printer.now c.put.new.printer c.put_all.new.printer _ _ c.in_ok-put.ensures t)
