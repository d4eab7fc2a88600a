use Rattle.std.proofs.Common.{◌≡◌, ◌++◌, [], ◌∷◌, List, Some, sym, ◌∙◌, subst}
use Rattle.std.specs.Prelude.{slice_get}
use Rattle.std.proofs.lemmas.Option.{slice_get_within}
use Rattle.ua_table.specs.Algebras.{Vector}
use Rattle.ua_table.proofs.Lists.{Contains-slice_get, slice_get-push}
use Rattle.ua_rows.proofs.ListLaws.{entered_there, entered_new}
use Rattle.ua_rows.proofs.row_lists.Rows.enter.Goals as goal

pub returns-in-Some-clause-entered : goal.returns-in-Some-clause-entered
returns-in-Some-clause-entered c =
    entered_there c.args.self.now.items c.args.v.now (Contains-slice_get c.args.self.now.items c.in-Some.i c.args.v.now c.in-Some.ensures.found)

pub returns-clause-place : goal.returns-clause-place
returns-clause-place c =
    let old = c.args.self.now.items in
    subst (λ (vs : List Vector). slice_get vs c.in_ok-i.i ≡ Some c.args.v.now) (sym c.in_ok-i.ensures.ok)
    (subst (λ k. slice_get (old ++ c.args.v.now ∷ []) k ≡ Some c.args.v.now) (sym c.in_ok-i.ensures.place) (slice_get-push old c.args.v.now))

pub returns-clause-entered : goal.returns-clause-entered
returns-clause-entered c = entered_new c.args.self.now.items c.args.v.now c.push.new.self.items c.in_ok-i.ensures.ok

pub returns-clause-kept : goal.returns-clause-kept
returns-clause-kept c j w e = c.in_ok-i.ensures.kept j (slice_get_within c.args.self.now.items j w e) ∙ e
