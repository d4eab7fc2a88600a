-- The words behind the program's name.
use Rattle.std.specs.Prelude.{◌≡◌, ℕ, ◌*◌, ◌≤◌, if◌then◌else◌, Bool, true, false, List, [], ◌∷◌, ◌++◌, Option, None, Some, codes}
use Rattle.std.specs.List.{flat_map}
use Rattle.std.specs.Fmt.{decimal}
use Rattle.ua_table.specs.declared.limits.TheConstants.{BUDGET, POOL, WORKERS}
use Rattle.ua_options.specs.declared.words.Settings.{Settings}
use Rattle.ua_options.specs.declared.words.TheConstants.{USUAL_WORKERS, USUAL_BUDGET, USUAL_JOBS, SEED}

-- the options
pub data OptionName : Type 0 where
  Workers : OptionName
  Budget : OptionName
  Jobs : OptionName
  Generate : OptionName

abbrev pub name_text : OptionName → List ℕ
name_text Workers = codes "workers"
name_text Budget = codes "budget"
name_text Jobs = codes "jobs"
name_text Generate = codes "generate"

abbrev pub same_name : OptionName → OptionName → Bool
same_name Workers Workers = true
same_name Budget Budget = true
same_name Jobs Jobs = true
same_name Generate Generate = true
same_name _ _ = false

-- an option as it is given: its value is a text, and stands in the word of the name or in the next one
pub record Choice : Type 0 where
  pub name : OptionName
  pub value : List ℕ
  pub in_one_word : Bool

-- `--name=value`, or `--name` and `value`
abbrev pub choice_words : Choice → List (List ℕ)
choice_words c =
    let flag = codes "--" ++ name_text c.name in
    if c.in_one_word then (flag ++ (codes "=" ++ c.value)) ∷ [] else flag ∷ c.value ∷ []

-- the value that the option is given, if it is given one
abbrev pub value_of : OptionName → List Choice → Option (List ℕ)
value_of name [] = None
value_of name (c ∷ choices) = if same_name name c.name then Some c.value else value_of name choices

-- no option is given twice
abbrev pub EachOnce : List Choice → Type 0
EachOnce [] = Unit
EachOnce (c ∷ choices) = (value_of c.name choices ≡ None) × EachOnce choices

-- the words give these options, in this order
pub record Give (words : List (List ℕ)) (choices : List Choice) : Type 0 where
  pub words_are : words ≡ flat_map choice_words choices
  pub once : EachOnce choices

-- the value writes n, in decimal digits without a sign or a leading zero, and n is at most the greatest
abbrev pub Writes : ℕ → List ℕ → ℕ → Type 0
Writes greatest value n = (value ≡ decimal n) × (n ≤ greatest)

-- n is the number that the value writes, from 1 to the greatest; with no value it is the usual one
abbrev pub IsNumber : (usual greatest : ℕ) → Option (List ℕ) → ℕ → Type 0
IsNumber usual greatest None n = n ≡ usual
IsNumber usual greatest (Some value) n = Writes greatest value n × (1 ≤ n)

-- the number that the value writes; with no value there is none
abbrev pub IsSeed : Option (List ℕ) → Option ℕ → Type 0
IsSeed None seed = seed ≡ None
IsSeed (Some value) None = ⊥
IsSeed (Some value) (Some n) = Writes SEED value n

-- the words are options with numbers, and the settings are these numbers; all workers of all jobs are not too many
pub record Asks (words : List (List ℕ)) (settings : Settings) : Type 0 where
  pub choices : List Choice
  pub given : Give words choices
  pub workers : IsNumber USUAL_WORKERS WORKERS (value_of Workers choices) settings.workers
  pub budget : IsNumber USUAL_BUDGET BUDGET (value_of Budget choices) settings.budget
  pub jobs : IsNumber USUAL_JOBS POOL (value_of Jobs choices) settings.jobs
  pub together : settings.jobs * settings.workers ≤ WORKERS
  pub generate : IsSeed (value_of Generate choices) settings.generate

-- the words are in the stated form
pub record AreAccepted (words : List (List ℕ)) : Type 0 where
  pub settings : Settings
  pub asked : Asks words settings
