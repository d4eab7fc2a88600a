use Rattle.std.proofs.Common.{List, Contains, sym, subst}
use Rattle.ua_part.specs.Partitions.{Partition}
use Rattle.ua_cong.proofs.EntryLaws.{entered, entered_at, entered_kept}
use Rattle.ua_cong.proofs.known.learn.Goals as goal

pub note-requires-clause-known : goal.note-requires-clause-known
note-requires-clause-known c =
    entered c.args._algebra.now c.args.known.now
    (record { pairs = c.args.known.now.pairs; rows = c.enter.new.self; blocks = c.args.known.now.blocks }) c.args.first c.args.second c.args.row.now
    c.requires.known c.requires.elements c.requires.principal
    c.in_ok-place.ensures.entered c.in_ok-place.ensures.width (λ _. c.args.known.now.pairs.items)

pub note-requires-clause-place : goal.note-requires-clause-place
note-requires-clause-place c =
    entered_at c.args._algebra.now c.args.known.now
    (record { pairs = c.args.known.now.pairs; rows = c.enter.new.self; blocks = c.args.known.now.blocks }) c.args.first c.args.second c.args.row.now
    c.requires.known c.requires.elements c.requires.principal
    c.in_ok-place.ensures.entered c.in_ok-place.place c.in_ok-place.ensures.place

pub returns-clause-kept : goal.returns-clause-kept
returns-clause-kept c p k =
    subst (λ (rows : List Partition). Contains rows p) (sym c.note.ensures.rows) (entered_kept c.args._algebra.now c.args.known.now
    (record { pairs = c.args.known.now.pairs; rows = c.enter.new.self; blocks = c.args.known.now.blocks }) c.args.first c.args.second c.args.row.now
    c.requires.known c.requires.elements c.requires.principal
    c.in_ok-place.ensures.entered p k)
