use Rattle.std.proofs.Common.{false, refl, arith}
use Rattle.std.specs.Prelude.{IsTrue}
use Rattle.std.proofs.lemmas.Option.{slice_get-get_or}
use Rattle.ua_rows.specs.Indexing.{IsFree}
use Rattle.ua_rows.proofs.IndexLaws.{behind_none, before_more, all_round}
use Rattle.ua_rows.proofs.index.free_from.Goals as goal

pub loop-init : goal.loop-init
loop-init c = record {
  behind = behind_none _ _ c.requires.slot;
  taken = λ j b e low behind at. absurd (omega (arith, low));
}

pub bounds-buckets-bucket : goal.bounds-buckets-bucket
bounds-buckets-bucket c = c.loop.invariant.behind.below

pub returns-then-is_free-clause-free : goal.returns-then-is_free-clause-free
returns-then-is_free-clause-free c = record {
  steps = c.loop.counter;
  old = _;
  few = c.loop-test.true;
  behind = c.loop.invariant.behind;
  there = slice_get-get_or c.args.buckets.now c.loop.bucket (record { tag = 0; row = 0 }) c.loop.invariant.behind.below;
  free = c.if-is_free.ensures.0 refl;
  before = c.loop.invariant.taken;
}

pub next_of-bucket-requires : goal.next_of-bucket-requires
next_of-bucket-requires c = c.loop.invariant.behind.below

pub loop-preserved : goal.loop-preserved
loop-preserved c = record {
  behind = c.next_of-bucket.ensures.behind c.args.slot c.loop.counter c.requires.slot c.loop-test.true c.loop.invariant.behind;
  taken = before_more (λ e. ¬ IsFree e) c.args.buckets.now c.args.slot c.loop.counter c.loop.bucket _ c.loop.invariant.behind
      (slice_get-get_or c.args.buckets.now c.loop.bucket (record { tag = 0; row = 0 }) c.loop.invariant.behind.below) (λ free. never (c.if-is_free.ensures.1 free)) c.loop.invariant.taken;
}
  where
    never : IsTrue false → ⊥
    never e = cc

pub unreachable-requires : goal.unreachable-requires
unreachable-requires c = all_round c.args.buckets.now c.args.slot c.loop.counter c.requires.slot c.loop-test.false c.loop.invariant.taken c.requires.free
