use Rattle.std.proofs.Common.{◌≡◌, [], sym, subst, ◌∙◌, arith}
use Rattle.std.specs.Prelude.{Contains, slice_index, slice_index_or}
use Rattle.std.proofs.lemmas.List.{length-map}
use Rattle.std.proofs.lemmas.Option.{get_or_from_slice_get}
use Rattle.ua_table.specs.Listings.{Row, vectors_of}
use Rattle.ua_table.proofs.Lists.{Contains-slice_get}
use Rattle.ua_type.specs.declared.known.SubtracePair.{SubtracePair}
use Rattle.ua_type.specs.Known.{IsPairOf}
use Rattle.ua_type.proofs.KnownLaws.{two, met_same, met_more, met_all}
use Rattle.ua_type.proofs.known.Known.meet_all.Goals.{then-low-high, else-low-high}
use Rattle.ua_type.proofs.known.Known.meet_all.Goals as goal

pub loop-i-preserved : goal.loop-i-preserved
loop-i-preserved c =
    let vs = vectors_of c.args.list.now in
    let row = c.row-row.result.now in
    let here = get_or_from_slice_get vs c.loop-i.i row [] c.row-row.ensures in
    let there = Contains-slice_get vs c.loop-i.i row c.row-row.ensures in
    let is = two row (c.requires.pairs row there) in
    elim c.if-low-high.branch [
      | then-low-high w ↦
          let pair : SubtracePair = record { low = slice_index row 0; high = slice_index row 1; swap = w.has-swap.result } in
          let among : IsPairOf vs pair = record { contained = subst (Contains vs) is there; differ = w.if-low-high.true; swaps = w.has-swap.ensures } in
          rw w.self-is (
            w.meet.ensures.settled ∙ c.loop-i.invariant.0,
            met_more c.args.self.now.least vs c.loop-i.i pair (here ∙ is) among c.loop-i.self.least w.meet.new.self.least w.meet.ensures.least c.loop-i.invariant.1,
          )
      | else-low-high w ↦
          let same : slice_index (slice_index_or vs c.loop-i.i []) 0 ≡ slice_index (slice_index_or vs c.loop-i.i []) 1 =
          subst (λ v. slice_index v 0 ≡ slice_index v 1) (sym here) w.if-low-high.false in
          rw w.self-is (c.loop-i.invariant.0, met_same c.args.self.now.least vs c.loop-i.i c.loop-i.self.least same c.loop-i.invariant.1)
    ]

pub returns-clause-least : goal.returns-clause-least
returns-clause-least c =
    let n = length-map c.args.list.now (λ (r : Row). r.vector) in
    met_all c.args.self.now.least c.loop-i.self.least (vectors_of c.args.list.now) c.loop-i.i (omega (arith, n, c.loop-i-test.false, c.len-i-end.ensures)) c.loop-i.invariant.1
