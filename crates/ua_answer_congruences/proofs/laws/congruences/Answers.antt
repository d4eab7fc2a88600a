use Rattle.ua_answer_congruences.proofs.RepliesExist.{cg_replied, con_replied, types_replied, central_replied, comm_replied, series_replied}
use Rattle.ua_answer_congruences.proofs.laws.congruences.Goals as goal

pub returns : goal.returns
returns c = record {
  generated = cg_replied c.generated.ensures;
  lattice = con_replied c.answers.ensures;
  covers = types_replied c.answers.ensures c.answers-2.ensures;
  centrality = central_replied c.clashes.ensures.one c.answers-3.ensures;
  commutator = comm_replied c.clashes.ensures.one c.answers-4.ensures.commutator;
  series = series_replied c.answers-4.ensures.series;
}
