use Rattle.std.proofs.Common.{◌+◌, ◌*◌, ◌++◌, sym, ap, ◌∙◌}
use Rattle.ua_rows.specs.Words.{lanes_of, scattered}
use Rattle.ua_rows.proofs.WordLaws.{hash_of_slim, slim_words}
use Rattle.ua_rows.proofs.words.telling_hash.Goals as goal

pub returns : goal.returns
returns c mix =
    let cells = lanes_of c.args.first ++ lanes_of c.args.second in
    ap (λ n. n * 4294967296 + 1) (c.from.ensures ∙ c.scattered.ensures ∙ (λ j. scattered (c.half_bytes.ensures.number j + c.half_bytes-2.ensures.number j * 65536)))
    ∙ sym (hash_of_slim cells mix (slim_words c.args.first c.args.second c.requires.first c.requires.second))
