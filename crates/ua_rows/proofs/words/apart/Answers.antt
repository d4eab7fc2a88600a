use Rattle.ua_rows.proofs.WordLaws.{words_apart}
use Rattle.ua_rows.proofs.words.apart.Goals as goal

pub returns : goal.returns
returns c = words_apart c.args.a c.args.b c.number_of.result c.number_of-2.result c.number_of.ensures.word c.number_of-2.ensures.word c.number_of.ensures.number c.number_of-2.ensures.number
