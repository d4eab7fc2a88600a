use Rattle.std.proofs.Common.{◌≡◌, ◌||◌, Bool, true, false, cond, not, refl, ◌∙◌, ap}
use Rattle.std.specs.Prelude.{ℕ, Vec}
use Rattle.std.specs.BTreeSet.{contains}
use Rattle.std.specs.Cmp.Lexicographic.{slice_cmp}
use Rattle.std.specs.Ordering.{nat_cmp}
use Rattle.std.specs.declared.alloc.Global.{Global}
use Rattle.std.proofs.lemmas.Map.Text.{is_eq-slice_cmp}
use Rattle.ua_text.specs.Words.{same, among}
use Rattle.ua_text.proofs.WordLaws.{same_turned}
use Rattle.ua_answer_conditions.proofs.arguments.ArgumentSet.insert.Goals as goal

chosen : (b x : Bool) → cond b true x ≡ b || x
chosen true x = refl
chosen false x = refl

pub returns-clause-added : goal.returns-clause-added
returns-clause-added c lists h = c.in_ok-added.ensures.added ∙ ap not (h c.args.arguments)

pub returns-clause-holds : goal.returns-clause-holds
returns-clause-holds c lists h xs =
    let key = c.args.arguments.items in
    let old = contains (λ (x y : Vec ℕ Global). slice_cmp nat_cmp x.items y.items) c.args.self.now.arguments xs in
    c.in_ok-added.ensures.updates.0 xs ∙ ap (λ b. cond b true old) (is_eq-slice_cmp key xs.items ∙ same_turned key xs.items) ∙ ap (cond (same xs.items key) true) (h xs) ∙ chosen (same xs.items key) (among xs.items lists)
