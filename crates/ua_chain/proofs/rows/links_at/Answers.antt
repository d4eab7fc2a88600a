use Rattle.ua_table.specs.Listings.{vectors_of}
use Rattle.ua_chain.proofs.RowLaws.{links_from_ok, parts_in_all}
use Rattle.ua_chain.proofs.rows.links_at.Goals as goal

pub links_by-requires-clause-within : goal.links_by-requires-clause-within
links_by-requires-clause-within c =
    parts_in_all c.args.size c.args.kind.now.patterns c.args.pair c.part-first.result c.part-second.result (vectors_of c.args.list.now)
    c.requires.first c.requires.second c.part-first.ensures c.part-second.ensures c.requires.widths

pub returns : goal.returns
returns c =
    links_from_ok c.args.size c.args.kind.now.patterns c.args.pair (vectors_of c.args.list.now) c.part-first.result c.part-second.result _
    c.requires.first c.requires.second c.part-first.ensures c.part-second.ensures c.links_by.ensures
