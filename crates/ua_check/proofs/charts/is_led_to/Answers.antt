use Rattle.ua_identity.specs.KindTables.{link_of}
use Rattle.ua_check.proofs.SideLaws.{led}
use Rattle.ua_check.proofs.charts.is_led_to.Goals as goal

pub returns : goal.returns
returns c =
    led c.args.chart.now (link_of c.args.chart.now.kind.now.patterns c.args.link) c.args.from.now c.requires.from c.args.i c.part.result.now
    c.find.result c.is_some.result c.part.ensures.entries c.is_some.ensures c.find.ensures.found c.find.ensures.absent
