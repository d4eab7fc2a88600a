use Rattle.ua_matrix.proofs.AllMatrices.{all_matrices}
use Rattle.ua_matrix.proofs.DeltaDecides.{delta_related, delta_least, condition_from_blocks, blocks_from_condition, few_matrices}
use Rattle.ua_matrix.proofs.laws.deltas.Goals as goal

pub returns-clause-holds : goal.returns-clause-holds
returns-clause-holds c = λ a alpha beta left right number b delta h. delta_related a alpha beta left right number b delta h.alpha_is h.beta_is h.delta_is

pub returns-clause-least : goal.returns-clause-least
returns-clause-least c = λ a alpha beta left right number b delta q h r.
    let all = all_matrices a alpha beta h.algebra h.alpha_is h.beta_is in
    delta_least a alpha beta left right number b delta h.alpha_is h.beta_is h.delta_is all.0 all.1 q r.size r.rows

pub returns-clause-decides : goal.returns-clause-decides
returns-clause-decides c = λ a alpha beta left right number b delta theta h ct.
    let all = all_matrices a alpha beta h.algebra h.alpha_is h.beta_is in (
      blocks_from_condition a alpha beta left right number b delta h.alpha_is h.beta_is h.delta_is all.0 all.1 theta ct,
      condition_from_blocks a alpha beta left right number b delta h.alpha_is h.beta_is h.delta_is theta,
    )

pub returns-clause-few : goal.returns-clause-few
returns-clause-few c = λ a alpha beta left right number b delta n h. few_matrices a alpha beta left right number b delta h.alpha_is h.beta_is h.delta_is n
