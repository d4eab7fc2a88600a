use Rattle.std.proofs.Common.{◌≡◌, ℕ, ◌<◌, ◌+◌, true, false, length, take, get_or, length-set, refl, sym, ap, ◌∙◌, subst, arith}
use Rattle.ua_flaws.specs.Flaws.{is_rank}
use Rattle.ua_flaws.proofs.RankLaws.{AreMarks, fresh_is, marks_more, rank_bad, rank_good}
use Rattle.ua_flaws.proofs.ranks.ranks.Goals as goal

pub returns-then-not-mark : goal.returns-then-not-mark
returns-then-not-mark c =
    let b = c.min-both.ensures in let l = c.loop-i-test.true in
    let low : c.loop-i.i < length c.args.rows.now = omega arith in
    let there : c.loop-i.i < length c.args.ranks.now = omega arith in
    let bad : is_rank (length c.args.rows.now) c.args.ranks.now c.loop-i.i (get_or c.args.ranks.now c.loop-i.i 0) ≡ false
    = sym (fresh_is (length c.args.rows.now) c.loop-i.marks.items c.args.ranks.now c.loop-i.i (get_or c.args.ranks.now c.loop-i.i 0) c.loop-i.invariant.count c.loop-i.invariant.marked) ∙ sym c.mark.ensures.fresh ∙ c.if-not-mark.true in
    rank_bad c.args.rows.now c.args.ranks.now c.loop-i.i (get_or c.args.ranks.now c.loop-i.i 0) low there refl bad c.loop-i.invariant.rest

pub loop-i-preserved : goal.loop-i-preserved
loop-i-preserved c =
    let b = c.min-both.ensures in let l = c.loop-i-test.true in
    let low : c.loop-i.i < length c.args.rows.now = omega arith in
    let there : c.loop-i.i < length c.args.ranks.now = omega arith in
    let x : ℕ = get_or c.args.ranks.now c.loop-i.i 0 in
    let good : is_rank (length c.args.rows.now) c.args.ranks.now c.loop-i.i (get_or c.args.ranks.now c.loop-i.i 0) ≡ true
    = sym (fresh_is (length c.args.rows.now) c.loop-i.marks.items c.args.ranks.now c.loop-i.i (get_or c.args.ranks.now c.loop-i.i 0) c.loop-i.invariant.count c.loop-i.invariant.marked) ∙ sym c.mark.ensures.fresh ∙ c.if-not-mark.false in
    let made = c.mark.ensures.marked c.if-not-mark.false in
    record {
      count = ap length made ∙ length-set c.loop-i.marks.items (get_or c.args.ranks.now c.loop-i.i 0) true ∙ c.loop-i.invariant.count;
      marked = subst (λ ms. AreMarks (length c.args.rows.now) ms (take (c.loop-i.i + 1) c.args.ranks.now)) (sym made)
          (marks_more (length c.args.rows.now) c.loop-i.marks.items c.args.ranks.now c.loop-i.i (get_or c.args.ranks.now c.loop-i.i 0) c.loop-i.invariant.count there refl c.loop-i.invariant.marked);
      rest = rank_good c.args.rows.now c.args.ranks.now c.loop-i.i (get_or c.args.ranks.now c.loop-i.i 0) low there refl good c.loop-i.invariant.rest;
    }
