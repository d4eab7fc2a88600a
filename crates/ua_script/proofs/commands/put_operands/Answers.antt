use Rattle.ua_script.proofs.commands.put_operands.Goals as goal

pub returns-in-Ask : goal.returns-in-Ask
returns-in-Ask c = rw c.in-Ask.is c.put_question.ensures

pub returns-in-Free : goal.returns-in-Free
returns-in-Free c = rw c.in-Free.is c.put_all.ensures

pub returns-in-Sub : goal.returns-in-Sub
returns-in-Sub c = rw c.in-Sub.is c.put_all-in-Sub.ensures

pub returns-in-Eval : goal.returns-in-Eval
returns-in-Eval c = rw c.in-Eval.is c.put_all-in-Eval.ensures

pub returns-in-Cg : goal.returns-in-Cg
returns-in-Cg c = rw c.in-Cg.is c.put_all-in-Cg.ensures

pub returns-in-Ones : goal.returns-in-Ones
returns-in-Ones c = rw c.in-Ones.is c.put_all-in-Ones.ensures

pub returns-in-Con : goal.returns-in-Con
returns-in-Con c = rw c.in-Con.is c.put_all-in-Con.ensures

pub returns-in-Types : goal.returns-in-Types
returns-in-Types c = rw c.in-Types.is c.put_all-in-Types.ensures

pub returns-in-Day : goal.returns-in-Day
returns-in-Day c = rw c.in-Day.is c.put_all-in-Day.ensures

pub returns-in-Condition : goal.returns-in-Condition
returns-in-Condition c = rw c.in-Condition.is c.put_all-in-Condition.ensures

pub returns-in-Clone : goal.returns-in-Clone
returns-in-Clone c = rw c.in-Clone.is c.put_all-in-Clone.ensures

pub returns-in-Central : goal.returns-in-Central
returns-in-Central c = rw c.in-Central.is c.put_all-in-Central.ensures

pub returns-in-Comm : goal.returns-in-Comm
returns-in-Comm c = rw c.in-Comm.is c.put_all-in-Comm.ensures

pub returns-in-Series : goal.returns-in-Series
returns-in-Series c = rw c.in-Series.is c.put_all-in-Series.ensures

pub returns-in-Holds : goal.returns-in-Holds
returns-in-Holds c = rw c.in-Holds.is c.put_all-in-Holds.ensures

pub returns-in-Hom : goal.returns-in-Hom
returns-in-Hom c = rw c.in-Hom.is c.put_all-in-Hom.ensures

pub returns-in-Make : goal.returns-in-Make
returns-in-Make c = rw c.in-Make.is c.put_all-in-Make.ensures

pub returns-in-Check : goal.returns-in-Check
returns-in-Check c = rw c.in-Check.is c.put_all-in-Check.ensures
