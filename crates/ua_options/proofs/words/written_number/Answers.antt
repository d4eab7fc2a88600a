use Rattle.std.proofs.Common.{◌≡◌, true, false, sym, ◌∙◌, arith}
use Rattle.ua_options.specs.inner.Options.{has_plain_front}
use Rattle.ua_options.proofs.Numbers.{not_parsed, odd_front, parsed_above, parsed_written, whatever}
use Rattle.ua_options.proofs.words.written_number.Goals as goal

pub returns-then-not-has_plain_front-clause-none : goal.returns-then-not-has_plain_front-clause-none
returns-then-not-has_plain_front-clause-none c =
    let odd : has_plain_front c.args.text.now ≡ false = rw c.as_bytes.ensures.value at (sym c.has_plain_front.ensures ∙ c.if-not-has_plain_front.true) in
    odd_front c.args.greatest c.args.text.now (omega (arith, c.ranges.greatest.fits)) odd

pub returns-in_err-n-clause-none : goal.returns-in_err-n-clause-none
returns-in_err-n-clause-none c =
    whatever c.from_residual.result _
    (not_parsed c.args.greatest c.args.text.now c.parse.result (omega (arith, c.ranges.greatest.fits)) c.parse.ensures.value.0 c.in_err-n.ensures.value)

pub returns-then-n-greatest-clause-none : goal.returns-then-n-greatest-clause-none
returns-then-n-greatest-clause-none c =
    parsed_above c.args.greatest c.args.text.now c.parse.result c.in_ok-n.n (omega (arith, c.ranges.greatest.fits)) c.parse.ensures.value.0 c.in_ok-n.ensures.value c.if-n-greatest.true

pub returns-clause-is : goal.returns-clause-is
returns-clause-is c =
    let plain : has_plain_front c.args.text.now ≡ true = rw c.as_bytes.ensures.value at (sym c.has_plain_front.ensures ∙ c.if-not-has_plain_front.false) in
    (parsed_written c.args.text.now c.in_ok-n.n c.parse.result plain c.in_ok-n.ensures.value c.parse.ensures.value.0, c.if-n-greatest.false)
