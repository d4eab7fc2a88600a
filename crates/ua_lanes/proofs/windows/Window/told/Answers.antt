use Rattle.std.proofs.Common.{◌≡◌, ◌+◌, ◌*◌, ◌/◌, ℕ, List, ap, sym, ◌∙◌, subst}
use Rattle.std.specs.Prelude.{slice_index, slice_set}
use Rattle.ua_lanes.specs.Windows.{IsKnown}
use Rattle.ua_lanes.proofs.WindowLaws.{agreeing_with}
use Rattle.ua_lanes.proofs.windows.Window.told.Goals as goal

pub returns : goal.returns
returns c p in_bytes items h r low bit =
    let w = c.args.self.now in
    let args = c.args.args.now in
    let place = c.args.place in
    let block : slice_index args place / 16 ≡ w.block = c.if-args-place.false in
    let free : w.free ≡ place = c.if-self-place.false in
    let same = agreeing_with args w.fixed place (16 * w.block + r) c.told-args h.four c.requires (c.agree.ensures c.if-not-agree.false) in
    subst (λ (q : ℕ × List ℕ). IsKnown p items q.0 q.1) (λ i. (c.if-self-op.false i, (ap (λ n. slice_set w.fixed n (16 * w.block + r)) free ∙ same ∙ ap (λ n. slice_set args place (16 * n + r)) (sym block)) i))
    (h.told r low bit)
