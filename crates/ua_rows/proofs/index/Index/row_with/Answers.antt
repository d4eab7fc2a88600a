use Rattle.std.proofs.Common.{◌≡◌, ◌<◌, ℕ, List, false, length, refl, sym, ap, ◌∙◌, subst, arith, Some}
use Rattle.std.specs.Prelude.{slice_get, IsTrue}
use Rattle.std.proofs.lemmas.Option.{slice_get-get_or}
use Rattle.ua_rows.specs.declared.index.Entry.{Entry}
use Rattle.ua_rows.specs.Indexing.{slot_of, IsBehind, Has}
use Rattle.ua_rows.proofs.IndexLaws.{behind_none, before_more, has_before, has_round}
use Rattle.ua_rows.proofs.index.Index.row_with.Goals as goal

pub loop-init : goal.loop-init
loop-init c =
    let n = length c.buckets-buckets.result.now in
    let start = c.slot_of-bucket.ensures in
    record {
      behind = subst (λ b. IsBehind n b 0 c.slot_of-bucket.result) start.slot (behind_none n c.slot_of-bucket.result start.below);
      other = λ j b e low behind at. absurd (omega (arith, low));
    }

pub bounds-buckets-bucket : goal.bounds-buckets-bucket
bounds-buckets-bucket c = c.loop.invariant.behind.below

pub returns-then-is_free-clause-absent : goal.returns-then-is_free-clause-absent
returns-then-is_free-clause-absent c =
    let buckets = c.buckets-buckets.result.now in
    let at = slice_get-get_or buckets c.loop.bucket (record { tag = 0; row = 0 }) c.loop.invariant.behind.below in
    λ f tagged taken has. has_before (λ (e : Entry). ¬ (e.tag ≡ c.args.tag)) buckets (slot_of (length buckets) c.args.tag) c.loop.counter c.loop.bucket _ f c.loop.invariant.other c.loop.invariant.behind at (c.if-is_free.ensures.0 refl)
    (ap (slot_of (length buckets)) (sym tagged)) taken (subst (λ (l : List Entry). Has l f) (sym c.buckets-buckets.ensures.buckets) has) tagged

pub returns-then-entry-tag-clause-found : goal.returns-then-entry-tag-clause-found
returns-then-entry-tag-clause-found c =
    let buckets = c.buckets-buckets.result.now in
    let at = slice_get-get_or buckets c.loop.bucket (record { tag = 0; row = 0 }) c.loop.invariant.behind.below in
    record {
      bucket = c.loop.bucket;
      there = ap (λ (l : List Entry). slice_get l c.loop.bucket) (sym c.buckets-buckets.ensures.buckets) ∙ at ∙ ap Some (tagged _ c.args.tag c.if-entry-tag.true);
      taken = λ free. never (c.if-is_free.ensures.1 free);
    }
  where
    never : IsTrue false → ⊥
    never e = cc

    tagged : (e : Entry) (tag : ℕ) → e.tag ≡ tag → e ≡ record { tag = tag; row = e.row }
    tagged e tag same i = record { tag = same i; row = e.row }

pub next_of-bucket-requires : goal.next_of-bucket-requires
next_of-bucket-requires c = c.loop.invariant.behind.below

pub loop-preserved : goal.loop-preserved
loop-preserved c =
    let buckets = c.buckets-buckets.result.now in
    let s = slot_of (length buckets) c.args.tag in
    let at = slice_get-get_or buckets c.loop.bucket (record { tag = 0; row = 0 }) c.loop.invariant.behind.below in
    let start = c.slot_of-bucket.ensures in
    record {
      behind = c.next_of-bucket.ensures.behind s c.loop.counter (subst (λ n. n < length buckets) start.slot start.below) c.loop-test.true c.loop.invariant.behind;
      other = before_more (λ (e : Entry). ¬ (e.tag ≡ c.args.tag)) buckets s c.loop.counter c.loop.bucket _ c.loop.invariant.behind at c.if-entry-tag.false c.loop.invariant.other;
    }

pub returns-clause-absent : goal.returns-clause-absent
returns-clause-absent c =
    let buckets = c.buckets-buckets.result.now in
    λ f tagged taken has. has_round (λ (e : Entry). ¬ (e.tag ≡ c.args.tag)) buckets (slot_of (length buckets) c.args.tag) c.loop.counter f c.loop.invariant.other c.loop-test.false
    (ap (slot_of (length buckets)) (sym tagged)) (subst (λ (l : List Entry). Has l f) (sym c.buckets-buckets.ensures.buckets) has) tagged
