use Rattle.std.proofs.Common.{◌≡◌, ◌++◌, Ok, map, take}
use Rattle.std.specs.List.{AllByRecursion}
use Rattle.serde_json.specs.View.{view}
use Rattle.ua_cert.proofs.writing.add_all.Given as goal

-- the items so far are written and read back
abbrev pub invariant-loop-item : goal.invariant-loop-item
invariant-loop-item g l = record {
  values : map view l.values.items ≡ map view l.initial.values.items ++ map g.T.Writable.writes (take l.item-index l.items);
  read_back : AllByRecursion (λ x. g.T.Readable.reads (g.T.Writable.writes x) ≡ Ok x) (take l.item-index l.items);
}
