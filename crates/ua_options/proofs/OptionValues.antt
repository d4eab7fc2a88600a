-- What the matches of a parse say of the words, and what the settings need of the options.
use Rattle.std.proofs.Common.{◌≡◌, ◌∙◌, ◌⊎◌, inl, inr, ℕ, ◌*◌, ◌<◌, ◌≤◌, true, false, List, [], ◌∷◌, map, option_map, string_bytes, String, Global, codes, Option, Some, None, refl, sym, ap, subst, lit<, arith}
use Rattle.std.specs.List.{AllByRecursion, list_any}
use Rattle.std.specs.Option.{IfSome}
use Rattle.std.specs.Str.{bytes_eq}
use Rattle.clap.specs.Kinds.{IsAmong}
use Rattle.clap.specs.Walk.{Text, first_of, rows_of}
use Rattle.clap.specs.Simple.{App, is_simple, matches_of}
use Rattle.clap.specs.Faults.{fault_of, is_simple_and_free}
use Rattle.clap.specs.Matches.{first_value}
use Rattle.clap.specs.declared.error.kind.ErrorKind.{ErrorKind}
use Rattle.clap.specs.declared.error.kind.ErrorKind.TheVariants as kind
use Rattle.clap.specs.declared.parser.matches.Found.{Found}
use Rattle.clap.proofs.WalkLemmas.{first_value-rows, list_any-map}
use Rattle.ua_table.specs.declared.limits.TheConstants.{BUDGET, POOL, WORKERS}
use Rattle.ua_options.specs.declared.words.TheConstants.{USUAL_WORKERS, USUAL_BUDGET, USUAL_JOBS}
use Rattle.ua_options.specs.declared.words.Settings.{Settings}
use Rattle.ua_options.specs.declared.words.Values.{Values}
use Rattle.ua_options.specs.Words.{OptionName, Workers, Budget, Jobs, Generate, name_text, Choice, EachOnce, IsNumber, IsSeed, value_of, Asks, AreAccepted}
use Rattle.ua_options.specs.inner.Options.{AreValues, GiveValues, HasValues, IsPlain, KeepsValues, options_app}
use Rattle.ua_options.proofs.Choices.{given_passes, is_simple_app, is_simple_options, passing_gives, plain_dashless_words}
use Rattle.ua_options.proofs.Numbers.{number_plain, same_number, same_seed, seed_plain}
use Rattle.ua_options.proofs.Walking.{HaveNoDashes}

pub no_dashes : (words : List (String Global)) → false ≡ list_any (λ word. bytes_eq (string_bytes word) (codes "--")) words → HaveNoDashes (map string_bytes words)
no_dashes words e = sym (list_any-map (λ text. bytes_eq text (codes "--")) string_bytes words) ∙ sym e

-- with a word `--` there are no plain options
pub dashes_refused : (words : List (String Global)) → true ≡ list_any (λ word. bytes_eq (string_bytes word) (codes "--")) words → KeepsValues (map string_bytes words) None
dashes_refused words e choices give plain =
    let none = plain_dashless_words (map string_bytes words) choices give plain in
    let some = sym (list_any-map (λ text. bytes_eq text (codes "--")) string_bytes words) ∙ sym e in
    let bad : true ≡ false = sym some ∙ none in
    cc

-- the values that the getters read of the matches of a parse
pub record Matched (words : List Text) (values : Values) : Type 0 where
  pub app : App
  pub app_is : app ≡ options_app
  pub found : Found
  pub clean : is_simple_and_free app ≡ true → fault_of app words ≡ []
  pub rows : is_simple app ≡ true → rows_of found ≡ matches_of app words
  pub workers : option_map (λ text. text.now) values.workers ≡ first_value found (codes "workers")
  pub budget : option_map (λ text. text.now) values.budget ≡ first_value found (codes "budget")
  pub jobs : option_map (λ text. text.now) values.jobs ≡ first_value found (codes "jobs")
  pub generate : option_map (λ text. text.now) values.generate ≡ first_value found (codes "generate")

row_values : (words : List Text) (values : Values) (choices : List Choice) → Matched words values
    → ((n : OptionName) → first_of (name_text n) (matches_of options_app words) ≡ value_of n choices) → AreValues choices values
row_values words values choices m are =
    let rows : rows_of m.found ≡ matches_of options_app words = m.rows (ap is_simple m.app_is ∙ is_simple_options) ∙ ap (λ (a : App). matches_of a words) m.app_is in
    record {
      workers = m.workers ∙ (first_value-rows m.found (codes "workers") ∙ (ap (first_of (codes "workers")) rows ∙ are Workers));
      budget = m.budget ∙ (first_value-rows m.found (codes "budget") ∙ (ap (first_of (codes "budget")) rows ∙ are Budget));
      jobs = m.jobs ∙ (first_value-rows m.found (codes "jobs") ∙ (ap (first_of (codes "jobs")) rows ∙ are Jobs));
      generate = m.generate ∙ (first_value-rows m.found (codes "generate") ∙ (ap (first_of (codes "generate")) rows ∙ are Generate));
    }

pub matched_given : (words : List Text) (values : Values) → HaveNoDashes words → Matched words values → GiveValues words values
matched_given words values none m =
    let clean : fault_of options_app words ≡ [] = sym (ap (λ (a : App). fault_of a words) m.app_is) ∙ m.clean (ap is_simple_and_free m.app_is ∙ is_simple_app) in
    let g = passing_gives words none clean in
    record { choices = g.choices; given = g.given; values_are = row_values words values g.choices m g.values }

pub matched_kept : (words : List Text) (values : Values) → Matched words values → KeepsValues words (Some values)
matched_kept words values m choices give plain = row_values words values choices m (given_passes words choices give plain).1

-- a parse that fails, and not for want of memory, has no plain options
pub failed_refused : (app : App) (words : List Text) (k : ErrorKind) → app ≡ options_app → (is_simple_and_free app ≡ true → (k ≡ kind.OutOfMemory) ⊎ IsAmong k (fault_of app words))
    → (k ≡ kind.OutOfMemory → ⊥) → KeepsValues words None
failed_refused app words k app_is kinds memory choices give plain =
    elim (kinds (ap is_simple_and_free app_is ∙ is_simple_app)) [
      | inl none ↦ memory none
      | inr among ↦ subst (IsAmong k) (ap (λ (a : App). fault_of a words) app_is ∙ (given_passes words choices give plain).0) among
    ]

-- ---- settings

-- the numbers that options with these values ask for
record AskFor (choices : List Choice) : Type 0 where
  workers : ℕ
  is_workers : IsNumber USUAL_WORKERS WORKERS (value_of Workers choices) workers
  budget : ℕ
  is_budget : IsNumber USUAL_BUDGET BUDGET (value_of Budget choices) budget
  jobs : ℕ
  is_jobs : IsNumber USUAL_JOBS POOL (value_of Jobs choices) jobs
  seed : Option ℕ
  is_seed : IsSeed (value_of Generate choices) seed

plain_choices : (choices : List Choice) → EachOnce choices → AskFor choices → AllByRecursion IsPlain choices
plain_choices [] once asked = tt
plain_choices (c ∷ choices) once asked = by_name c.name refl (plain_choices choices once.1)
  where
    by_name : (n : OptionName) → c.name ≡ n → (AskFor choices → AllByRecursion IsPlain choices) → AllByRecursion IsPlain (c ∷ choices)
    by_name Workers e rest =
        let own : IsNumber USUAL_WORKERS WORKERS (Some c.value) asked.workers = rw e at asked.is_workers in
        let none : value_of Workers choices ≡ None = rw e at once.0 in (
          number_plain USUAL_WORKERS WORKERS c.value asked.workers (lit< tt) own,
          rest (record {
            workers = USUAL_WORKERS;
            is_workers = rw none refl;
            budget = asked.budget;
            is_budget = rw e at asked.is_budget;
            jobs = asked.jobs;
            is_jobs = rw e at asked.is_jobs;
            seed = asked.seed;
            is_seed = rw e at asked.is_seed;
          }),
        )
    by_name Budget e rest =
        let own : IsNumber USUAL_BUDGET BUDGET (Some c.value) asked.budget = rw e at asked.is_budget in
        let none : value_of Budget choices ≡ None = rw e at once.0 in (
          number_plain USUAL_BUDGET BUDGET c.value asked.budget (lit< tt) own,
          rest (record {
            workers = asked.workers;
            is_workers = rw e at asked.is_workers;
            budget = USUAL_BUDGET;
            is_budget = rw none refl;
            jobs = asked.jobs;
            is_jobs = rw e at asked.is_jobs;
            seed = asked.seed;
            is_seed = rw e at asked.is_seed;
          }),
        )
    by_name Jobs e rest =
        let own : IsNumber USUAL_JOBS POOL (Some c.value) asked.jobs = rw e at asked.is_jobs in
        let none : value_of Jobs choices ≡ None = rw e at once.0 in (
          number_plain USUAL_JOBS POOL c.value asked.jobs (lit< tt) own,
          rest (record {
            workers = asked.workers;
            is_workers = rw e at asked.is_workers;
            budget = asked.budget;
            is_budget = rw e at asked.is_budget;
            jobs = USUAL_JOBS;
            is_jobs = rw none refl;
            seed = asked.seed;
            is_seed = rw e at asked.is_seed;
          }),
        )
    by_name Generate e rest =
        let own : IsSeed (Some c.value) asked.seed = rw e at asked.is_seed in
        let none : value_of Generate choices ≡ None = rw e at once.0 in (
          seed_plain c.value asked.seed own,
          rest (record {
            workers = asked.workers;
            is_workers = rw e at asked.is_workers;
            budget = asked.budget;
            is_budget = rw e at asked.is_budget;
            jobs = asked.jobs;
            is_jobs = rw e at asked.is_jobs;
            seed = None;
            is_seed = rw none refl;
          }),
        )

asked_plain : (words : List Text) (s : Settings) (a : Asks words s) → AllByRecursion IsPlain a.choices
asked_plain words s a =
    let asked : AskFor a.choices = record {
      workers = s.workers;
      is_workers = a.workers;
      budget = s.budget;
      is_budget = a.budget;
      jobs = s.jobs;
      is_jobs = a.jobs;
      seed = s.generate;
      is_seed = a.generate;
    } in
    plain_choices a.choices a.given.once asked

pub accepted_values : (words : List Text) (found : Option Values) → KeepsValues words found → (a : AreAccepted words) → HasValues a.asked.choices found
accepted_values words found kept a = kept a.asked.choices a.asked.given (asked_plain words a.settings a.asked)

pub nothing_kept : (words : List Text) (found : Option Values) → KeepsValues words found → found ≡ None → AreAccepted words → ⊥
nothing_kept words found kept none a = subst (HasValues a.asked.choices) none (accepted_values words found kept a)

pub kept_values : (words : List Text) (found : Option Values) (values : Values) → KeepsValues words found → found ≡ Some values → (a : AreAccepted words) → AreValues a.asked.choices values
kept_values words found values kept some a = subst (HasValues a.asked.choices) some (accepted_values words found kept a)

pub no_workers : (words : List Text) (found : Option Values) (values : Values) → KeepsValues words found → found ≡ Some values
    → ((n : ℕ) → IsNumber USUAL_WORKERS WORKERS (option_map (λ text. text.now) values.workers) n → ⊥) → AreAccepted words → ⊥
no_workers words found values kept some none a =
    let v = kept_values words found values kept some a in
    none a.settings.workers (rw v.workers a.asked.workers)

pub no_budget : (words : List Text) (found : Option Values) (values : Values) → KeepsValues words found → found ≡ Some values
    → ((n : ℕ) → IsNumber USUAL_BUDGET BUDGET (option_map (λ text. text.now) values.budget) n → ⊥) → AreAccepted words → ⊥
no_budget words found values kept some none a =
    let v = kept_values words found values kept some a in
    none a.settings.budget (rw v.budget a.asked.budget)

pub no_jobs : (words : List Text) (found : Option Values) (values : Values) → KeepsValues words found → found ≡ Some values
    → ((n : ℕ) → IsNumber USUAL_JOBS POOL (option_map (λ text. text.now) values.jobs) n → ⊥) → AreAccepted words → ⊥
no_jobs words found values kept some none a =
    let v = kept_values words found values kept some a in
    none a.settings.jobs (rw v.jobs a.asked.jobs)

-- the numbers that the values write are those of every reading
pub too_many : (words : List Text) (found : Option Values) (values : Values) (workers jobs : ℕ) → KeepsValues words found → found ≡ Some values
    → IsNumber USUAL_WORKERS WORKERS (option_map (λ text. text.now) values.workers) workers → IsNumber USUAL_JOBS POOL (option_map (λ text. text.now) values.jobs) jobs
    → WORKERS < jobs * workers → AreAccepted words → ⊥
too_many words found values workers jobs kept some w j many a =
    let v = kept_values words found values kept some a in
    let choices = a.asked.choices in
    let own = same_number USUAL_WORKERS WORKERS (value_of Workers choices) workers a.settings.workers (lit< tt) (subst (λ value. IsNumber USUAL_WORKERS WORKERS value workers) v.workers w) a.asked.workers in
    let side = same_number USUAL_JOBS POOL (value_of Jobs choices) jobs a.settings.jobs (lit< tt) (subst (λ value. IsNumber USUAL_JOBS POOL value jobs) v.jobs j) a.asked.jobs in
    let more : WORKERS < a.settings.jobs * a.settings.workers = subst (λ n. WORKERS < n) (λ i. side i * own i) many in
    omega (arith, more, a.asked.together)

pub no_seed : (words : List Text) (found : Option Values) (values : Values) → KeepsValues words found → found ≡ Some values
    → ((n : Option ℕ) → IsSeed (option_map (λ text. text.now) values.generate) n → ⊥) → AreAccepted words → ⊥
no_seed words found values kept some none a =
    let v = kept_values words found values kept some a in
    none a.settings.generate (rw v.generate a.asked.generate)

pub given_asked : (words : List Text) (found : Option Values) (values : Values) (workers budget jobs : ℕ) (seed : Option ℕ) → IfSome found (GiveValues words) → found ≡ Some values
    → IsNumber USUAL_WORKERS WORKERS (option_map (λ text. text.now) values.workers) workers → IsNumber USUAL_BUDGET BUDGET (option_map (λ text. text.now) values.budget) budget
    → IsNumber USUAL_JOBS POOL (option_map (λ text. text.now) values.jobs) jobs → jobs * workers ≤ WORKERS → IsSeed (option_map (λ text. text.now) values.generate) seed
    → Asks words (record { workers = workers; budget = budget; jobs = jobs; generate = seed })
given_asked words found values workers budget jobs seed given some w b j few s =
    let g : GiveValues words values = subst (λ (o : Option Values). IfSome o (GiveValues words)) some given in
    record {
      choices = g.choices;
      given = g.given;
      workers = subst (λ (value : Option (List ℕ)). IsNumber USUAL_WORKERS WORKERS value workers) g.values_are.workers w;
      budget = subst (λ (value : Option (List ℕ)). IsNumber USUAL_BUDGET BUDGET value budget) g.values_are.budget b;
      jobs = subst (λ (value : Option (List ℕ)). IsNumber USUAL_JOBS POOL value jobs) g.values_are.jobs j;
      together = few;
      generate = subst (λ (value : Option (List ℕ)). IsSeed value seed) g.values_are.generate s;
    }

-- the same words ask for the same
pub asked_once : (words : List Text) (s t : Settings) → Asks words s → Asks words t → s ≡ t
asked_once words s t a b =
    let left = (given_passes words a.choices a.given (asked_plain words s a)).1 in
    let right = (given_passes words b.choices b.given (asked_plain words t b)).1 in
    let same : (n : OptionName) → value_of n b.choices ≡ value_of n a.choices = λ n. sym (right n) ∙ left n in
    let w = same_number USUAL_WORKERS WORKERS (value_of Workers a.choices) s.workers t.workers (lit< tt) a.workers (subst (λ value. IsNumber USUAL_WORKERS WORKERS value t.workers) (same Workers) b.workers) in
    let g = same_number USUAL_BUDGET BUDGET (value_of Budget a.choices) s.budget t.budget (lit< tt) a.budget (subst (λ value. IsNumber USUAL_BUDGET BUDGET value t.budget) (same Budget) b.budget) in
    let j = same_number USUAL_JOBS POOL (value_of Jobs a.choices) s.jobs t.jobs (lit< tt) a.jobs (subst (λ value. IsNumber USUAL_JOBS POOL value t.jobs) (same Jobs) b.jobs) in
    let n = same_seed (value_of Generate a.choices) s.generate t.generate a.generate (subst (λ value. IsSeed value t.generate) (same Generate) b.generate) in
    λ i. record { workers = w i; budget = g i; jobs = j i; generate = n i }
