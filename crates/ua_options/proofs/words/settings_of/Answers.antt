use Rattle.std.proofs.Common.{◌≤◌, ◌<◌, ◌*◌, map, string_bytes}
use Rattle.ua_table.specs.declared.limits.TheConstants.{WORKERS}
use Rattle.ua_options.proofs.OptionValues.{given_asked, no_budget, no_jobs, no_seed, no_workers, nothing_kept, too_many}
use Rattle.ua_options.proofs.words.settings_of.Goals as goal

pub returns-in_default-clause-refused : goal.returns-in_default-clause-refused
returns-in_default-clause-refused c = nothing_kept (map string_bytes c.args.words.now) c.in_ok-values.field-0 c.in_ok-values.ensures.kept c.in_default.is

pub returns-in_default-number-clause-refused : goal.returns-in_default-number-clause-refused
returns-in_default-number-clause-refused c =
    no_workers (map string_bytes c.args.words.now) c.in_ok-values.field-0 c.in-Some.values c.in_ok-values.ensures.kept c.in-Some.is c.in_default-number.ensures.none

pub returns-in_default-number-2-clause-refused : goal.returns-in_default-number-2-clause-refused
returns-in_default-number-2-clause-refused c =
    no_budget (map string_bytes c.args.words.now) c.in_ok-values.field-0 c.in-Some.values c.in_ok-values.ensures.kept c.in-Some.is c.in_default-number-2.ensures.none

pub returns-in_default-number-3-clause-refused : goal.returns-in_default-number-3-clause-refused
returns-in_default-number-3-clause-refused c =
    no_jobs (map string_bytes c.args.words.now) c.in_ok-values.field-0 c.in-Some.values c.in_ok-values.ensures.kept c.in-Some.is c.in_default-number-3.ensures.none

pub returns-then-together-from-clause-refused : goal.returns-then-together-from-clause-refused
returns-then-together-from-clause-refused c =
    let many : WORKERS < c.in-Some-number-3.jobs * c.in-Some-number.workers = rw (c.from.ensures, c.from-2.ensures, c.from-3.ensures) at c.if-together-from.true in
    too_many (map string_bytes c.args.words.now) c.in_ok-values.field-0 c.in-Some.values c.in-Some-number.workers c.in-Some-number-3.jobs c.in_ok-values.ensures.kept c.in-Some.is c.in-Some-number.ensures.is
    c.in-Some-number-3.ensures.is many

pub returns-in_default-seed-clause-refused : goal.returns-in_default-seed-clause-refused
returns-in_default-seed-clause-refused c =
    no_seed (map string_bytes c.args.words.now) c.in_ok-values.field-0 c.in-Some.values c.in_ok-values.ensures.kept c.in-Some.is c.in_default-seed.ensures.none

pub returns-clause-asks : goal.returns-clause-asks
returns-clause-asks c =
    let few : c.in-Some-number-3.jobs * c.in-Some-number.workers ≤ WORKERS = rw (c.from.ensures, c.from-2.ensures, c.from-3.ensures) at c.if-together-from.false in
    given_asked (map string_bytes c.args.words.now) c.in_ok-values.field-0 c.in-Some.values c.in-Some-number.workers c.in-Some-number-2.budget c.in-Some-number-3.jobs c.in-Some-seed.generate
    c.in_ok-values.ensures.given c.in-Some.is c.in-Some-number.ensures.is c.in-Some-number-2.ensures.is c.in-Some-number-3.ensures.is few c.in-Some-seed.ensures.is
