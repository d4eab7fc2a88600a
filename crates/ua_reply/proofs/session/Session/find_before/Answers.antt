use Rattle.std.proofs.Common.{List, Some, take, sym, ap, ◌∙◌, subst, arith}
use Rattle.std.specs.Prelude.{option_copied}
use Rattle.std.proofs.lemmas.Option.{slice_get-get_or}
use Rattle.ua_text.specs.declared.named.Block.{Block}
use Rattle.ua_reply.specs.Sessions.{lookup, IsPlace}
use Rattle.ua_reply.proofs.SessionLaws.{lookup_absent, lookup_among, lookup_behind}
use Rattle.ua_reply.proofs.session.Session.find_before.Goals as goal

pub returns-in_err-place : goal.returns-in_err-place
returns-in_err-place c =
    let name = c.args.name.now in
    let here = c.self.inside.knowns.items in
    let absent = subst (IsPlace here name) (sym c.get.ensures.value ∙ ap option_copied c.in_err-place.was) (c.self.invariant name) in
    ap option_copied c.from_residual.ensures ∙ sym (lookup_absent here name c.args.count absent) ∙ ap (λ (s : List Block). lookup (take c.args.count s) name) c.self.view_is

pub index-requires : goal.index-requires
index-requires c =
    let name = c.args.name.now in
    let at = subst (IsPlace c.self.inside.knowns.items name) (sym c.get.ensures.value ∙ ap option_copied c.in_ok-place.was) (c.self.invariant name) in
    let low = at.0 in
    let len = c.self.inside.knowns.ok.0 in
    omega (arith, low, len)

pub returns-then-place-count : goal.returns-then-place-count
returns-then-place-count c =
    let name = c.args.name.now in
    let here = c.self.inside.knowns.items in
    let at = subst (IsPlace here name) (sym c.get.ensures.value ∙ ap option_copied c.in_ok-place.was) (c.self.invariant name) in
    sym (lookup_behind here name c.in_ok-place.place.now c.args.count at (let far = c.if-place-count.true in omega (arith, far))) ∙ ap (λ (s : List Block). lookup (take c.args.count s) name) c.self.view_is

pub returns : goal.returns
returns c =
    let name = c.args.name.now in
    let here = c.self.inside.knowns.items in
    let at = subst (IsPlace here name) (sym c.get.ensures.value ∙ ap option_copied c.in_ok-place.was) (c.self.invariant name) in
    ap Some c.index.ensures ∙ sym (slice_get-get_or here c.in_ok-place.place.now c.index.result.now at.0) ∙ at.1
    ∙ sym (lookup_among here name c.in_ok-place.place.now c.args.count at (let near = c.if-place-count.false in omega (arith, near)))
    ∙ ap (λ (s : List Block). lookup (take c.args.count s) name) c.self.view_is
