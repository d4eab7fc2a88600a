use Rattle.std.proofs.Common.{rules, refl}
use Rattle.ua_text.specs.Tokens.{tokens_left}
use Rattle.ua_script.proofs.Operands.{fresh_name, read_at, missed_at}
use Rattle.ua_script.proofs.commands.operands.Goals as goal

pub returns-in_err-algebra-in-Close-clause-only : goal.returns-in_err-algebra-in-Close-clause-only
returns-in_err-algebra-in-Close-clause-only c = λ x ws s. let e = missed_at c.args.place _ _ (tokens_left c.read_all.new.tokens) c.in-Close.is c.in_err-algebra-in-Close.ensures.only x ws s in search rules

pub returns-in_ok-algebra-in-Close-clause-only : goal.returns-in_ok-algebra-in-Close-clause-only
returns-in_ok-algebra-in-Close-clause-only c = read_at c.args.place _ _ c.in-Close.is c.ask.ensures c.in_ok-algebra-in-Close.ensures.only

pub returns-in_err-algebra-in-Member-clause-only : goal.returns-in_err-algebra-in-Member-clause-only
returns-in_err-algebra-in-Member-clause-only c = λ x ws s. let e = missed_at c.args.place _ _ (tokens_left c.read_all-in-Member.new.tokens) c.in-Member.is c.in_err-algebra-in-Member.ensures.only x ws s in search rules

pub returns-in_ok-algebra-in-Member-clause-only : goal.returns-in_ok-algebra-in-Member-clause-only
returns-in_ok-algebra-in-Member-clause-only c = read_at c.args.place _ _ c.in-Member.is c.ask-in-Member.ensures c.in_ok-algebra-in-Member.ensures.only

pub returns-in_err-algebra-in-Cond-clause-only : goal.returns-in_err-algebra-in-Cond-clause-only
returns-in_err-algebra-in-Cond-clause-only c = λ x ws s. let e = missed_at c.args.place _ _ (tokens_left c.read_all-in-Cond.new.tokens) c.in-Cond.is c.in_err-algebra-in-Cond.ensures.only x ws s in search rules

pub returns-in_ok-algebra-in-Cond-clause-only : goal.returns-in_ok-algebra-in-Cond-clause-only
returns-in_ok-algebra-in-Cond-clause-only c = read_at c.args.place _ _ c.in-Cond.is c.ask-in-Cond.ensures c.in_ok-algebra-in-Cond.ensures.only

pub returns-in_err-algebra-in-Nu-clause-only : goal.returns-in_err-algebra-in-Nu-clause-only
returns-in_err-algebra-in-Nu-clause-only c = λ x ws s. let e = missed_at c.args.place _ _ (tokens_left c.read_all-in-Nu.new.tokens) c.in-Nu.is c.in_err-algebra-in-Nu.ensures.only x ws s in search rules

pub returns-in_ok-algebra-in-Nu-clause-only : goal.returns-in_ok-algebra-in-Nu-clause-only
returns-in_ok-algebra-in-Nu-clause-only c = read_at c.args.place _ _ c.in-Nu.is c.ask-in-Nu.ensures c.in_ok-algebra-in-Nu.ensures.only

pub returns-in_err-algebra-in-Jonsson-clause-only : goal.returns-in_err-algebra-in-Jonsson-clause-only
returns-in_err-algebra-in-Jonsson-clause-only c = λ x ws s. let e = missed_at c.args.place _ _ (tokens_left c.read_all-in-Jonsson.new.tokens) c.in-Jonsson.is c.in_err-algebra-in-Jonsson.ensures.only x ws s in search rules

pub returns-in_ok-algebra-in-Jonsson-clause-only : goal.returns-in_ok-algebra-in-Jonsson-clause-only
returns-in_ok-algebra-in-Jonsson-clause-only c = read_at c.args.place _ _ c.in-Jonsson.is c.ask-in-Jonsson.ensures c.in_ok-algebra-in-Jonsson.ensures.only

pub returns-in_err-algebra-in-Hm-clause-only : goal.returns-in_err-algebra-in-Hm-clause-only
returns-in_err-algebra-in-Hm-clause-only c = λ x ws s. let e = missed_at c.args.place _ _ (tokens_left c.read_all-in-Hm.new.tokens) c.in-Hm.is c.in_err-algebra-in-Hm.ensures.only x ws s in search rules

pub returns-in_ok-algebra-in-Hm-clause-only : goal.returns-in_ok-algebra-in-Hm-clause-only
returns-in_ok-algebra-in-Hm-clause-only c = read_at c.args.place _ _ c.in-Hm.is c.ask-in-Hm.ensures c.in_ok-algebra-in-Hm.ensures.only

pub returns-in_err-algebra-in-Free-clause-only : goal.returns-in_err-algebra-in-Free-clause-only
returns-in_err-algebra-in-Free-clause-only c = λ x ws s. let e = missed_at c.args.place _ _ (tokens_left c.read_all-in-Free.new.tokens) c.in-Free.is c.in_err-algebra-in-Free.ensures.only x ws s in search rules

pub returns-in_ok-algebra-in-Free-clause-only : goal.returns-in_ok-algebra-in-Free-clause-only
returns-in_ok-algebra-in-Free-clause-only c = read_at c.args.place _ _ c.in-Free.is refl c.in_ok-algebra-in-Free.ensures.only

pub returns-in_err-algebra-in-Sub-clause-only : goal.returns-in_err-algebra-in-Sub-clause-only
returns-in_err-algebra-in-Sub-clause-only c = λ x ws s. let e = missed_at c.args.place _ _ (tokens_left c.read_all-in-Sub.new.tokens) c.in-Sub.is c.in_err-algebra-in-Sub.ensures.only x ws s in search rules

pub returns-in_ok-algebra-in-Sub-clause-only : goal.returns-in_ok-algebra-in-Sub-clause-only
returns-in_ok-algebra-in-Sub-clause-only c = read_at c.args.place _ _ c.in-Sub.is refl c.in_ok-algebra-in-Sub.ensures.only

pub returns-in_err-algebra-in-Ones-clause-only : goal.returns-in_err-algebra-in-Ones-clause-only
returns-in_err-algebra-in-Ones-clause-only c = λ x ws s. let e = missed_at c.args.place _ _ (tokens_left c.read_all-in-Ones.new.tokens) c.in-Ones.is c.in_err-algebra-in-Ones.ensures.only x ws s in search rules

pub returns-in_ok-algebra-in-Ones-clause-only : goal.returns-in_ok-algebra-in-Ones-clause-only
returns-in_ok-algebra-in-Ones-clause-only c = read_at c.args.place _ _ c.in-Ones.is refl c.in_ok-algebra-in-Ones.ensures.only

pub returns-in_err-algebra-in-Eval-clause-only : goal.returns-in_err-algebra-in-Eval-clause-only
returns-in_err-algebra-in-Eval-clause-only c = λ x ws s. let e = missed_at c.args.place _ _ (tokens_left c.read_all-in-Eval.new.tokens) c.in-Eval.is c.in_err-algebra-in-Eval.ensures.only x ws s in search rules

pub returns-in_ok-algebra-in-Eval-clause-only : goal.returns-in_ok-algebra-in-Eval-clause-only
returns-in_ok-algebra-in-Eval-clause-only c = read_at c.args.place _ _ c.in-Eval.is refl c.in_ok-algebra-in-Eval.ensures.only

pub returns-in_err-algebra-in-Cg-clause-only : goal.returns-in_err-algebra-in-Cg-clause-only
returns-in_err-algebra-in-Cg-clause-only c = λ x ws s. let e = missed_at c.args.place _ _ (tokens_left c.read_all-in-Cg.new.tokens) c.in-Cg.is c.in_err-algebra-in-Cg.ensures.only x ws s in search rules

pub returns-in_ok-algebra-in-Cg-clause-only : goal.returns-in_ok-algebra-in-Cg-clause-only
returns-in_ok-algebra-in-Cg-clause-only c = read_at c.args.place _ _ c.in-Cg.is refl c.in_ok-algebra-in-Cg.ensures.only

pub returns-in_err-algebra-in-Con-clause-only : goal.returns-in_err-algebra-in-Con-clause-only
returns-in_err-algebra-in-Con-clause-only c = λ x ws s. let e = missed_at c.args.place _ _ (tokens_left c.read_all-in-Con.new.tokens) c.in-Con.is c.in_err-algebra-in-Con.ensures.only x ws s in search rules

pub returns-in_ok-algebra-in-Con-clause-only : goal.returns-in_ok-algebra-in-Con-clause-only
returns-in_ok-algebra-in-Con-clause-only c = read_at c.args.place _ _ c.in-Con.is refl c.in_ok-algebra-in-Con.ensures.only

pub returns-in_err-algebra-in-Types-clause-only : goal.returns-in_err-algebra-in-Types-clause-only
returns-in_err-algebra-in-Types-clause-only c = λ x ws s. let e = missed_at c.args.place _ _ (tokens_left c.read_all-in-Types.new.tokens) c.in-Types.is c.in_err-algebra-in-Types.ensures.only x ws s in search rules

pub returns-in_ok-algebra-in-Types-clause-only : goal.returns-in_ok-algebra-in-Types-clause-only
returns-in_ok-algebra-in-Types-clause-only c = read_at c.args.place _ _ c.in-Types.is refl c.in_ok-algebra-in-Types.ensures.only

pub returns-in_err-algebra-in-Day-clause-only : goal.returns-in_err-algebra-in-Day-clause-only
returns-in_err-algebra-in-Day-clause-only c = λ x ws s. let e = missed_at c.args.place _ _ (tokens_left c.read_all-in-Day.new.tokens) c.in-Day.is c.in_err-algebra-in-Day.ensures.only x ws s in search rules

pub returns-in_ok-algebra-in-Day-clause-only : goal.returns-in_ok-algebra-in-Day-clause-only
returns-in_ok-algebra-in-Day-clause-only c = read_at c.args.place _ _ c.in-Day.is refl c.in_ok-algebra-in-Day.ensures.only

pub returns-in_err-algebra-in-Condition-clause-only : goal.returns-in_err-algebra-in-Condition-clause-only
returns-in_err-algebra-in-Condition-clause-only c = λ x ws s. let e = missed_at c.args.place _ _ (tokens_left c.read_all-in-Condition.new.tokens) c.in-Condition.is c.in_err-algebra-in-Condition.ensures.only x ws s in search rules

pub returns-in_ok-algebra-in-Condition-clause-only : goal.returns-in_ok-algebra-in-Condition-clause-only
returns-in_ok-algebra-in-Condition-clause-only c = read_at c.args.place _ _ c.in-Condition.is refl c.in_ok-algebra-in-Condition.ensures.only

pub returns-in_err-algebra-in-Clone-clause-only : goal.returns-in_err-algebra-in-Clone-clause-only
returns-in_err-algebra-in-Clone-clause-only c = λ x ws s. let e = missed_at c.args.place _ _ (tokens_left c.read_all-in-Clone.new.tokens) c.in-Clone.is c.in_err-algebra-in-Clone.ensures.only x ws s in search rules

pub returns-in_ok-algebra-in-Clone-clause-only : goal.returns-in_ok-algebra-in-Clone-clause-only
returns-in_ok-algebra-in-Clone-clause-only c = read_at c.args.place _ _ c.in-Clone.is refl c.in_ok-algebra-in-Clone.ensures.only

pub returns-in_err-algebra-in-Central-clause-only : goal.returns-in_err-algebra-in-Central-clause-only
returns-in_err-algebra-in-Central-clause-only c = λ x ws s. let e = missed_at c.args.place _ _ (tokens_left c.read_all-in-Central.new.tokens) c.in-Central.is c.in_err-algebra-in-Central.ensures.only x ws s in search rules

pub returns-in_ok-algebra-in-Central-clause-only : goal.returns-in_ok-algebra-in-Central-clause-only
returns-in_ok-algebra-in-Central-clause-only c = read_at c.args.place _ _ c.in-Central.is refl c.in_ok-algebra-in-Central.ensures.only

pub returns-in_err-algebra-in-Comm-clause-only : goal.returns-in_err-algebra-in-Comm-clause-only
returns-in_err-algebra-in-Comm-clause-only c = λ x ws s. let e = missed_at c.args.place _ _ (tokens_left c.read_all-in-Comm.new.tokens) c.in-Comm.is c.in_err-algebra-in-Comm.ensures.only x ws s in search rules

pub returns-in_ok-algebra-in-Comm-clause-only : goal.returns-in_ok-algebra-in-Comm-clause-only
returns-in_ok-algebra-in-Comm-clause-only c = read_at c.args.place _ _ c.in-Comm.is refl c.in_ok-algebra-in-Comm.ensures.only

pub returns-in_err-algebra-in-Series-clause-only : goal.returns-in_err-algebra-in-Series-clause-only
returns-in_err-algebra-in-Series-clause-only c = λ x ws s. let e = missed_at c.args.place _ _ (tokens_left c.read_all-in-Series.new.tokens) c.in-Series.is c.in_err-algebra-in-Series.ensures.only x ws s in search rules

pub returns-in_ok-algebra-in-Series-clause-only : goal.returns-in_ok-algebra-in-Series-clause-only
returns-in_ok-algebra-in-Series-clause-only c = read_at c.args.place _ _ c.in-Series.is refl c.in_ok-algebra-in-Series.ensures.only

pub returns-in_err-algebra-in-Holds-clause-only : goal.returns-in_err-algebra-in-Holds-clause-only
returns-in_err-algebra-in-Holds-clause-only c = λ x ws s. let e = missed_at c.args.place _ _ (tokens_left c.read_all-in-Holds.new.tokens) c.in-Holds.is c.in_err-algebra-in-Holds.ensures.only x ws s in search rules

pub returns-in_ok-algebra-in-Holds-clause-only : goal.returns-in_ok-algebra-in-Holds-clause-only
returns-in_ok-algebra-in-Holds-clause-only c = read_at c.args.place _ _ c.in-Holds.is refl c.in_ok-algebra-in-Holds.ensures.only

pub returns-in_err-first-in-Hom-clause-only : goal.returns-in_err-first-in-Hom-clause-only
returns-in_err-first-in-Hom-clause-only c = λ x ws s. let e = missed_at c.args.place _ _ (tokens_left c.read_all-in-Hom.new.tokens) c.in-Hom.is c.in_err-first-in-Hom.ensures.only x ws s in search rules

pub returns-in_ok-first-in-Hom-clause-only : goal.returns-in_ok-first-in-Hom-clause-only
returns-in_ok-first-in-Hom-clause-only c = read_at c.args.place _ _ c.in-Hom.is refl c.in_ok-first-in-Hom.ensures.only

pub returns-in_err-name-in-Make-clause-only : goal.returns-in_err-name-in-Make-clause-only
returns-in_err-name-in-Make-clause-only c = λ x ws s. let e = missed_at c.args.place _ _ (tokens_left c.read_all-in-Make.new.tokens) c.in-Make.is (λ x ws s. c.in_err-name-in-Make.ensures.only x ws (fresh_name s)) x ws s in search rules

pub returns-in_ok-name-in-Make-clause-only : goal.returns-in_ok-name-in-Make-clause-only
returns-in_ok-name-in-Make-clause-only c = read_at c.args.place _ _ c.in-Make.is refl (λ x ws s. c.in_ok-name-in-Make.ensures.only x ws (fresh_name s))

pub returns-in_err-algebra-in-Check-clause-only : goal.returns-in_err-algebra-in-Check-clause-only
returns-in_err-algebra-in-Check-clause-only c = λ x ws s. let e = missed_at c.args.place _ _ (tokens_left c.read_all-in-Check.new.tokens) c.in-Check.is c.in_err-algebra-in-Check.ensures.only x ws s in search rules

pub returns-in_ok-algebra-in-Check-clause-only : goal.returns-in_ok-algebra-in-Check-clause-only
returns-in_ok-algebra-in-Check-clause-only c = read_at c.args.place _ _ c.in-Check.is refl c.in_ok-algebra-in-Check.ensures.only
