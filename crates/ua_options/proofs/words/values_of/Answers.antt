use Rattle.std.proofs.Common.{◌≡◌, ◌∙◌, map, string_bytes, true, sym}
use Rattle.clap.specs.Simple.{app_of}
use Rattle.clap.specs.Matches.{found_of}
use Rattle.clap.specs.declared.error.kind.ErrorKind.TheVariants as kind
use Rattle.ua_options.proofs.OptionValues.{dashes_refused, failed_refused, matched_given, matched_kept, no_dashes}
use Rattle.ua_options.proofs.words.values_of.Goals as goal

pub returns-then-has_dashes-clause-kept : goal.returns-then-has_dashes-clause-kept
returns-then-has_dashes-clause-kept c = dashes_refused c.args.words.now (sym c.if-has_dashes.true ∙ c.has_dashes.ensures)

pub returns-in-Ok-clause-given : goal.returns-in-Ok-clause-given
returns-in-Ok-clause-given c =
    matched_given (map string_bytes c.args.words.now) (record { workers = c.get_str.result; budget = c.get_str-in-Ok.result; jobs = c.get_str-in-Ok-2.result; generate = c.get_str-in-Ok-3.result })
    (no_dashes c.args.words.now (sym c.if-has_dashes.false ∙ c.has_dashes.ensures))
    (record {
      app = app_of c.in_ok-command.field-0;
      app_is = c.in_ok-command.ensures;
      found = found_of c.in-Ok.matches;
      clean = c.in-Ok.ensures.kinds;
      rows = λ simple. (c.in-Ok.ensures.matches simple).0;
      workers = c.get_str.ensures;
      budget = c.get_str-in-Ok.ensures;
      jobs = c.get_str-in-Ok-2.ensures;
      generate = c.get_str-in-Ok-3.ensures;
    })

pub returns-in-Ok-clause-kept : goal.returns-in-Ok-clause-kept
returns-in-Ok-clause-kept c =
    matched_kept (map string_bytes c.args.words.now) (record { workers = c.get_str.result; budget = c.get_str-in-Ok.result; jobs = c.get_str-in-Ok-2.result; generate = c.get_str-in-Ok-3.result })
    (record {
      app = app_of c.in_ok-command.field-0;
      app_is = c.in_ok-command.ensures;
      found = found_of c.in-Ok.matches;
      clean = c.in-Ok.ensures.kinds;
      rows = λ simple. (c.in-Ok.ensures.matches simple).0;
      workers = c.get_str.ensures;
      budget = c.get_str-in-Ok.ensures;
      jobs = c.get_str-in-Ok-2.ensures;
      generate = c.get_str-in-Ok-3.ensures;
    })

pub returns-clause-kept : goal.returns-clause-kept
returns-clause-kept c =
    failed_refused (app_of c.in_ok-command.field-0) (map string_bytes c.args.words.now) c.in-Err.error.kind c.in_ok-command.ensures c.in-Err.ensures.kinds
    (λ memory. let same : c.kind.result ≡ kind.OutOfMemory = c.kind.ensures ∙ memory in
    let bad : c.eq.result ≡ true = rw same at c.eq.ensures in let no = c.if-eq.false in cc)
