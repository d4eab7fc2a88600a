use Rattle.std.proofs.Common.{ℕ, List, length, sym, ◌∙◌, ap, subst, rules}
use Rattle.std.proofs.lemmas.Result.{IfOk-weaker}
use Rattle.std.proofs.lemmas.List.Sorted.{IsNonDecreasingBy-from_sort_by_key}
use Rattle.std.specs.List.Sorted.{IsPermutation}
use Rattle.ua_jobs.specs.Harvests.{numbered}
use Rattle.ua_jobs.proofs.OrderLaws.{sorted_answers, sorted_count}
use Rattle.ua_jobs.proofs.gathering.in_order.Goals as goal

pub returns-clause-order : goal.returns-clause-order
returns-clause-order g c = λ n once.
    let answers = c.args.answers.items in
    let sorted = c.sort_unstable_by_key.new.self.items in
    let p = c.sort_unstable_by_key.ensures.permutation in
    let up = IsNonDecreasingBy-from_sort_by_key (λ (a : ℕ × g.row.O.Denot). a.0) sorted c.sort_unstable_by_key.ensures.sorted (λ a r f q. search rules) in
    IfOk-weaker c.outs_of.result _ _ (λ outs e. subst (λ (l : List g.row.O.Denot). IsPermutation answers (numbered 0 l)) (sym e) (sorted_answers answers sorted p up n once)) c.outs_of.ensures

pub returns-clause-count : goal.returns-clause-count
returns-clause-count g c = λ n once.
    let answers = c.args.answers.items in
    let sorted = c.sort_unstable_by_key.new.self.items in
    let p = c.sort_unstable_by_key.ensures.permutation in
    let up = IsNonDecreasingBy-from_sort_by_key (λ (a : ℕ × g.row.O.Denot). a.0) sorted c.sort_unstable_by_key.ensures.sorted (λ a r f q. search rules) in
    IfOk-weaker c.outs_of.result _ _ (λ outs e. ap length e ∙ sorted_count answers sorted p up n once) c.outs_of.ensures
