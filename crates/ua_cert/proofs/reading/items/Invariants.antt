use Rattle.std.proofs.Common.{◌≡◌}
use Rattle.serde_json.specs.View.{items_view}
use Rattle.ua_cert.specs.Reading.{items_from}
use Rattle.ua_cert.proofs.ReadLaws.{resume, left}
use Rattle.ua_cert.proofs.reading.items.Given as goal

-- what was read so far, and what is left
abbrev pub invariant-loop-i : goal.invariant-loop-i
invariant-loop-i g l = items_from g.T.Readable.reads l.first (items_view l.values) ≡ resume l.list.items l.range (left g.T.Readable.reads l.first l.values l.i)
