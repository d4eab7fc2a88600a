use Rattle.std.proofs.Common.{◌≡◌, ◌<◌, false, length, take, refl, ap, sym, ◌∙◌, subst, arith}
use Rattle.std.specs.Prelude.{slice_get, Some, Contains, IsTrue}
use Rattle.std.proofs.lemmas.Option.{slice_get-get_or}
use Rattle.ua_rows.specs.RowLists.{RowList}
use Rattle.ua_rows.specs.Words.{hash_of}
use Rattle.ua_rows.specs.Listing.{items_of}
use Rattle.ua_rows.specs.Indexing.{slot_of, hashes_of, IsIndex}
use Rattle.ua_rows.proofs.IndexLaws.{row_within, before_more, has_before, has_round}
use Rattle.ua_rows.proofs.ListLaws.{NoneBefore, not_there, length_items, length_hashes}
use Rattle.ua_rows.proofs.row_lists.Rows.compare_rows.Goals as goal
use Rattle.ua_rows.proofs.row_lists.Rows.compare_rows.Goals.{else-entry-tag-via-then-entry-tag+else-stands_at, else-entry-tag-via-else-entry-tag}

pub returns-then-is_free-clause-absent : goal.returns-then-is_free-clause-absent
returns-then-is_free-clause-absent c =
    let here = c.self.inside in
    let buckets = c.buckets-buckets.result.now in
    let tag = c.tag_of-tag.result in
    let s = slot_of (length buckets) tag in
    let key = c.args.key.now in
    let index : IsIndex (hashes_of here.width here.pages.rows) buckets = subst (IsIndex (hashes_of here.width here.pages.rows)) (sym c.buckets-buckets.ensures.buckets) c.self.invariant.entered in
    let at = slice_get-get_or buckets c.loop.bucket (record { tag = 0; row = 0 }) c.loop.invariant.behind.below in
    subst (λ (l : RowList). NoneBefore l.items buckets s tag (take l.width key) c.loop.counter → ¬ Contains l.items (take l.width key)) c.self.view_is
    (λ none. not_there here.width here.pages.rows buckets (take here.width key) c.args.hash tag index
    (c.requires.hash ∙ sym (ap (λ (l : RowList). hash_of (take l.width key)) c.self.view_is)) c.tag_of-tag.ensures
    (λ f tagged taken there has.
    has_before (λ e. e.tag ≡ tag → slice_get (items_of here.width here.pages.rows) e.row ≡ Some (take here.width key) → ⊥) buckets s
    c.loop.counter c.loop.bucket _ f none c.loop.invariant.behind at (c.if-is_free.ensures.0 refl) (ap (slot_of (length buckets)) (sym tagged))
    taken has tagged there))
    c.loop.invariant.none

pub returns-clause-absent : goal.returns-clause-absent
returns-clause-absent c =
    let here = c.self.inside in
    let buckets = c.buckets-buckets.result.now in
    let tag = c.tag_of-tag.result in
    let s = slot_of (length buckets) tag in
    let key = c.args.key.now in
    let index : IsIndex (hashes_of here.width here.pages.rows) buckets = subst (IsIndex (hashes_of here.width here.pages.rows)) (sym c.buckets-buckets.ensures.buckets) c.self.invariant.entered in
    subst (λ (l : RowList). NoneBefore l.items buckets s tag (take l.width key) c.loop.counter → ¬ Contains l.items (take l.width key)) c.self.view_is
    (λ none. not_there here.width here.pages.rows buckets (take here.width key) c.args.hash tag index
    (c.requires.hash ∙ sym (ap (λ (l : RowList). hash_of (take l.width key)) c.self.view_is)) c.tag_of-tag.ensures
    (λ f tagged taken there has.
    has_round (λ e. e.tag ≡ tag → slice_get (items_of here.width here.pages.rows) e.row ≡ Some (take here.width key) → ⊥) buckets s c.loop.counter
    f none c.loop-test.false (ap (slot_of (length buckets)) (sym tagged)) has tagged there))
    c.loop.invariant.none

pub stands_at-requires-clause-named : goal.stands_at-requires-clause-named
stands_at-requires-clause-named c =
    let here = c.self.inside in
    let buckets = c.buckets-buckets.result.now in
    let index : IsIndex (hashes_of here.width here.pages.rows) buckets = subst (IsIndex (hashes_of here.width here.pages.rows)) (sym c.buckets-buckets.ensures.buckets) c.self.invariant.entered in
    let at = slice_get-get_or buckets c.loop.bucket (record { tag = 0; row = 0 }) c.loop.invariant.behind.below in
    let low = row_within (hashes_of here.width here.pages.rows) buckets c.loop.bucket _ index at (λ free. never (c.if-is_free.ensures.1 free)) in
    let hashes = length_hashes here.width here.pages.rows in
    let items = length_items here.width here.pages.rows in
    let same = ap (λ (l : RowList). length l.items) c.self.view_is in
    omega (arith, low, hashes, items, same)
  where
    never : IsTrue false → ⊥
    never e = cc

pub loop-preserved : goal.loop-preserved
loop-preserved c =
    let buckets = c.buckets-buckets.result.now in
    let tag = c.tag_of-tag.result in
    let s = slot_of (length buckets) tag in
    let at = slice_get-get_or buckets c.loop.bucket (record { tag = 0; row = 0 }) c.loop.invariant.behind.below in
    let start = c.slot_of-bucket.ensures in
    record {
      behind = c.next_of-bucket.ensures.behind s c.loop.counter (subst (λ n. n < length buckets) start.slot start.below) c.loop-test.true c.loop.invariant.behind;
      none = before_more (λ e. e.tag ≡ tag → slice_get c.args.self.now.items e.row ≡ Some (take c.args.self.now.width c.args.key.now) → ⊥) buckets s c.loop.counter c.loop.bucket _ c.loop.invariant.behind at
          (elim c.else-entry-tag.branch [
            | else-entry-tag-via-then-entry-tag+else-stands_at w ↦ λ tagged there. never (sym w.if-stands_at.false ∙ w.stands_at.ensures.1 there)
            | else-entry-tag-via-else-entry-tag w ↦ λ tagged there. w.if-entry-tag.false tagged
          ])
          c.loop.invariant.none;
    }
  where
    never : IsTrue false → ⊥
    never e = cc
