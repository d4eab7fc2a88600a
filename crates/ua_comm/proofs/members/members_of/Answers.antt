use Rattle.std.proofs.Common.{◌<◌, List, sym, subst, arith, Ok}
use Rattle.std.proofs.lemmas.Result.{err_from_is_err_and}
use Rattle.ua_part.specs.Partitions.{Partition}
use Rattle.ua_comm.specs.declared.commutators.Comm.{Comm}
use Rattle.ua_comm.specs.Series.{partner, IsSuccessorWithin, IsBeginning, last_member, IsSeries}
use Rattle.ua_comm.specs.Permitted.{MayCommute}
use Rattle.ua_comm.proofs.MemberLaws.{left_to_rise, read_congruence, cut_here, refused_here, ended_here, goes_on_here, rises_here}
use Rattle.ua_comm.proofs.members.members_of.Goals as goal

pub successor-requires-clause-last : goal.successor-requires-clause-last
successor-requires-clause-last g c _ _ =
    let members = c.members.members.items in
    let size = c.len.ensures in
    let ok = c.members.members.ok.0 in
    read_congruence c.args.a.now c.args.kind c.args.run.now.budget members c.members.invariant c.len.result c.index-last.result.now (omega (arith, size, ok)) c.index-last.ensures c.size-size.ensures.algebra.algebra

pub returns-in_err-next : goal.returns-in_err-next
returns-in_err-next g c =
    let members = c.members.members.items in
    let size = c.len.ensures in
    let ok = c.members.members.ok.0 in
    let p = err_from_is_err_and c.from_residual-in_err-next.result c.from_residual-in_err-next.ensures.1 in
    rw (p.1, p.2) (refused_here c.args.a.now c.args.kind c.args.run.now.budget members c.members.invariant c.len.result c.index-last.result.now (omega (arith, size, ok)) c.index-last.ensures c.in_err-next.field-0.0 c.in_err-next.ensures)

pub returns-in_default : goal.returns-in_default
returns-in_default g c =
    let members = c.members.members.items in
    let size = c.len.ensures in
    let ok = c.members.members.ok.0 in
    cut_here c.args.a.now c.args.kind c.args.run.now.budget members c.members.invariant c.len.result c.index-last.result.now (omega (arith, size, ok)) c.index-last.ensures c.in_ok-next.field-0 c.in_default.not-Whole c.in_ok-next.ensures

pub returns-then-not-branch : goal.returns-then-not-branch
returns-then-not-branch g c =
    let a = c.args.a.now in
    let kind = c.args.kind in
    let b = c.args.run.now.budget in
    let members = c.members.members.items in
    let size = c.len.ensures in
    let ok = c.members.members.ok.0 in
    let read = c.index-last.result.now in
    let told = subst (λ (comm : Comm). MayCommute a (partner a kind read) read b (Ok comm)) c.in-Whole.is c.in_ok-next.ensures in
    subst (IsSeries a (IsSuccessorWithin a kind b)) (sym (c.in_ok-append.ensures.kept c.if-not-branch.true))
    (ended_here a kind b members c.members.invariant c.len.result read (omega (arith, size, ok)) c.index-last.ensures c.in-Whole.next told (c.in_ok-append.ensures.ends c.if-not-branch.true))

pub members-preserved : goal.members-preserved
members-preserved g c =
    let a = c.args.a.now in
    let kind = c.args.kind in
    let b = c.args.run.now.budget in
    let members = c.members.members.items in
    let size = c.len.ensures in
    let ok = c.members.members.ok.0 in
    let read = c.index-last.result.now in
    let told = subst (λ (comm : Comm). MayCommute a (partner a kind read) read b (Ok comm)) c.in-Whole.is c.in_ok-next.ensures in
    subst (IsBeginning a (IsSuccessorWithin a kind b)) (sym (c.in_ok-append.ensures.goes_on c.if-not-branch.false))
    (goes_on_here a kind b members c.members.invariant c.len.result read (omega (arith, size, ok)) c.index-last.ensures c.in-Whole.next told (c.in_ok-append.ensures.differs c.if-not-branch.false))

pub members-smaller : goal.members-smaller
members-smaller g c =
    let a = c.args.a.now in
    let kind = c.args.kind in
    let b = c.args.run.now.budget in
    let members = c.members.members.items in
    let size = c.len.ensures in
    let ok = c.members.members.ok.0 in
    let read = c.index-last.result.now in
    let told = subst (λ (comm : Comm). MayCommute a (partner a kind read) read b (Ok comm)) c.in-Whole.is c.in_ok-next.ensures in
    subst (λ (ps : List Partition). left_to_rise a (last_member ps) < left_to_rise a (last_member members)) (sym (c.in_ok-append.ensures.goes_on c.if-not-branch.false))
    (rises_here a kind b members c.members.invariant c.len.result read (omega (arith, size, ok)) c.index-last.ensures c.in-Whole.next told c.size-size.ensures.algebra.algebra (c.in_ok-append.ensures.differs c.if-not-branch.false))
