use Rattle.std.proofs.Common.{refl, arith}
use Rattle.ua_bases.proofs.ClosedBases.{closed_by_bases}
use Rattle.ua_work.specs.declared.bases.Bases.{Bases}
use Rattle.ua_work.proofs.BasesLaws.{bases_further, bases_set}
use Rattle.ua_work.proofs.bases.Bases.settle_by.Goals as goal

pub complete-requires : goal.complete-requires
complete-requires c = record { completing = record { work = c.requires.work; basis = c.requires.basis; recorded = c.requires.bases.records } }

pub returns-in-Whole-clause-told : goal.returns-in-Whole-clause-told
returns-in-Whole-clause-told c =
    let new = c.complete.new.replica in
    let e = c.in-Whole.ensures in
    let f = c.args.op in
    let b = c.args.self.now in
    let taken = c.requires.bases in
    let recorded : Bases = record b { records = c.complete.new.records } in
    let later = bases_further c.requires.work e.told.0.work e.worked b recorded refl refl e.told.0.recorded taken in
    let count = taken.count in
    let op = c.requires.operation in (
      e.told.0.work,
      bases_set new recorded _ f c.complete.new.basis refl refl refl (omega (arith, count, op)) e.told.0.basis later,
      (e.told.0.basis.associative.binary, closed_by_bases new.operations f new.rows.items c.complete.new.basis e.told.0.basis.associative e.told.0.work.goes.working.replica.vectors e.told.0.basis.basis e.told.1),
    )

pub returns-in-GivenUp-clause-told : goal.returns-in-GivenUp-clause-told
returns-in-GivenUp-clause-told c =
    let e = c.in-GivenUp.ensures in
    (e.told.0, bases_further c.requires.work e.told.0 e.worked c.args.self.now _ refl refl e.told.1 c.requires.bases)

pub returns-in-Unfinished-clause-told : goal.returns-in-Unfinished-clause-told
returns-in-Unfinished-clause-told c =
    let e = c.in-Unfinished.ensures in
    let f = c.args.op in
    let b = c.args.self.now in
    let taken = c.requires.bases in
    let recorded : Bases = record b { records = c.complete.new.records } in
    let later = bases_further c.requires.work e.told.work e.worked b recorded refl refl e.told.recorded taken in
    let count = taken.count in
    let op = c.requires.operation in
    (e.told.work, bases_set c.complete.new.replica recorded _ f c.complete.new.basis refl refl refl (omega (arith, count, op)) e.told.basis later)
