use Rattle.ua_script.proofs.commands.put_question.Goals as goal

pub returns-in-Close : goal.returns-in-Close
returns-in-Close c = rw c.in-Close.is c.put_all.ensures

pub returns-in-Member : goal.returns-in-Member
returns-in-Member c = rw c.in-Member.is c.put_all-in-Member.ensures

pub returns-in-Cond : goal.returns-in-Cond
returns-in-Cond c = rw c.in-Cond.is c.put_all-in-Cond.ensures

pub returns-in-Nu : goal.returns-in-Nu
returns-in-Nu c = rw c.in-Nu.is c.put_all-in-Nu.ensures

pub returns-in-Jonsson : goal.returns-in-Jonsson
returns-in-Jonsson c = rw c.in-Jonsson.is c.put_all-in-Jonsson.ensures

pub returns-in-Hm : goal.returns-in-Hm
returns-in-Hm c = rw c.in-Hm.is c.put_all-in-Hm.ensures
