use Rattle.std.proofs.Common.{◌≡◌, ◌<◌, ℕ, true, ⊎_elim, sym, ◌∙◌, subst, arith}
use Rattle.std.specs.Prelude.{slice_index_or}
use Rattle.std.specs.HashSet as set
use Rattle.std.proofs.lemmas.Bool.{cases_lt}
use Rattle.std.proofs.lemmas.List.{get_or_default}
use Rattle.ua_part.specs.Labels.{same_labels}
use Rattle.ua_type.proofs.KnownLaws.{put_in, put_kept, put_there}
use Rattle.ua_type.proofs.known.Known.settle.Goals as goal

pub loop-pair-preserved : goal.loop-pair-preserved
loop-pair-preserved c =
    let pairs = c.args.pairs.now in
    let i = c.loop-pair.pair-index in
    let pair = slice_index_or pairs i (0, 0) in
    let before = set.contains same_labels c.loop-pair.self.settled in
    let after = set.contains same_labels c.insert.new.self in
    let put : (q : ℕ × ℕ) → after q ≡ _ = λ q. c.in_ok-insert.ensures.updates.0 q in
    let known = c.loop-pair.invariant in
    record {
      least = known.least;
      settled = put_in before after (set.contains same_labels c.args.self.now.settled) pair pairs put (i, c.loop-pair-test.true, get_or_default pairs i pair (0, 0) c.loop-pair-test.true) known.settled;
      kept = λ q e. put_kept before after pair put q (known.kept q e);
      added = λ k low. ⊎_elim
          (λ less. put_kept before after pair put (slice_index_or pairs k (0, 0)) (known.added k less))
          (λ last. (let same : k ≡ i = omega (arith, low, last) in subst (λ j. after (slice_index_or pairs j (0, 0)) ≡ true) (sym same) (put_there before after pair put)))
          (cases_lt k i);
    }

pub returns-clause-added : goal.returns-clause-added
returns-clause-added c q there =
    let pairs = c.args.pairs.now in
    let low : there.0 < c.loop-pair.pair-index = (let past = c.loop-pair-test.false in let inside = there.1 in omega (arith, past, inside)) in
    subst (λ p. set.contains same_labels c.loop-pair.self.settled p ≡ true) (get_or_default pairs there.0 (0, 0) q there.1 ∙ there.2) (c.loop-pair.invariant.added there.0 low)
