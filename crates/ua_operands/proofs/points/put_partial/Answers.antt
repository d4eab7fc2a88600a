use Rattle.ua_operands.proofs.Vocabulary.{flat_map, sign, vector}
use Rattle.std.proofs.Common.{◌∷◌, ◌++◌, [], codes}
use Rattle.ua_text.specs.declared.symbols.Role.TheVariants as roles
use Rattle.ua_text.proofs.Prints.{shows_both, on_ok}
use Rattle.ua_operands.proofs.points.put_partial.Goals as goal

pub returns : goal.returns
returns c =
    on_ok c.put_vectors.result c.put_vectors.ensures (λ m. shows_both c.args.printer.now c.put.new.self c.put_vectors.new.printer
    (sign roles.Exact (codes "partial") ∷ []) (vector c.args.first.now ++ flat_map vector c.args.others.now) c.in_ok-put.ensures
    (shows_both c.put.new.self c.put_vector.new.printer c.put_vectors.new.printer (vector c.args.first.now) (flat_map vector c.args.others.now) c.in_ok-put_vector.ensures m))
