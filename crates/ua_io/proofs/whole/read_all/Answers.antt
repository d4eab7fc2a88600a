use Rattle.std.proofs.Common.{◌+◌, arith}
use Rattle.std.proofs.lemmas.Grind.{common_steps}
use Rattle.ua_io.specs.Faults.{TakesAtMost}
use Rattle.std.proofs.KnownBytes.{Consumes-trans}
use Rattle.ua_io.proofs.Known.{OnErr_always}
use Rattle.ua_io.proofs.whole.read_all.Goals as goal

pub returns-in_err-extend_from_slice-clause-taken :
    goal.returns-in_err-extend_from_slice-clause-taken
returns-in_err-extend_from_slice-clause-taken g c =
    let taken : TakesAtMost (g.S.Source.left c.args.source.now) (g.S.Source.left c.read.new.self) (c.args.limit + 1) =
    (_, grind (arith, common_steps, c.in-Ok.ensures.within), Consumes-trans _ _ _ _ _ c.loop-buf.invariant.taken c.in-Ok.ensures.bytes.0) in
    OnErr_always _ taken
