use Rattle.ua_answer.proofs.RepliesExist.{Replied, reply_exists, session_left}
use Rattle.ua_answer.proofs.laws.replies.Goals as goal

pub returns : goal.returns
returns c =
    let all : Replied = record {
      congruences = c.congruences.ensures;
      conditions = c.conditions.ensures;
      algebras = c.algebras.ensures;
      certified = c.certificates.ensures;
    } in
    record { one = reply_exists all; left = session_left c.algebras.ensures }
