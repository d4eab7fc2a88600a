-- How the options are read: the command that they make, and their values.
use Rattle.std.specs.Prelude.{◌≡◌, ◌==◌, ◌&&◌, ◌||◌, not, Bool, true, false, List, [], ◌∷◌, length, ℕ, Option, Some, None, codes, option_map}
use Rattle.std.specs.List.{AllByRecursion}
use Rattle.clap.specs.Lexer.{strip_byte}
use Rattle.clap.specs.Walk.{Rule}
use Rattle.clap.specs.Simple.{App, new_app, new_rule, with_rule}
use Rattle.ua_options.specs.declared.words.Values.{Values}
use Rattle.ua_options.specs.Words.{Workers, Budget, Jobs, Generate, name_text, Choice, Give, value_of}

-- an option with a value
abbrev pub option_rule : List ℕ → Rule
option_rule name = record (new_rule name) { long = Some name }

-- a command without the name of the program and without help
abbrev pub bare_app : App
bare_app = record (new_app (codes "uacalc")) { top = record (new_app (codes "uacalc")).top { no_binary_name = true; disable_help_flag = true } }

abbrev pub options_app : App
options_app = with_rule (with_rule (with_rule (with_rule bare_app (option_rule (name_text Workers))) (option_rule (name_text Budget))) (option_rule (name_text Jobs))) (option_rule (name_text Generate))

-- the values are those that the options are given
pub record AreValues (choices : List Choice) (values : Values) : Type 0 where
  pub workers : option_map (λ text. text.now) values.workers ≡ value_of Workers choices
  pub budget : option_map (λ text. text.now) values.budget ≡ value_of Budget choices
  pub jobs : option_map (λ text. text.now) values.jobs ≡ value_of Jobs choices
  pub generate : option_map (λ text. text.now) values.generate ≡ value_of Generate choices

-- the words give options, with these values
pub record GiveValues (words : List (List ℕ)) (values : Values) : Type 0 where
  pub choices : List Choice
  pub given : Give words choices
  pub values_are : AreValues choices values

-- the value does not begin with a hyphen
abbrev pub IsPlain : Choice → Type 0
IsPlain c = strip_byte 45 c.value ≡ None

-- there are values, and they are those of the options
abbrev pub HasValues : List Choice → Option Values → Type 0
HasValues choices None = ⊥
HasValues choices (Some values) = AreValues choices values

-- where the words give options whose values do not begin with a hyphen, these are the values
abbrev pub KeepsValues : List (List ℕ) → Option Values → Type 0
KeepsValues words found = (choices : List Choice) → Give words choices → AllByRecursion IsPlain choices → HasValues choices found

-- neither a plus nor a zero before other digits stands first
abbrev pub has_plain_front : List ℕ → Bool
has_plain_front [] = false
has_plain_front (b ∷ bs) = not (b == 43) && (not (b == 48) || (length bs == 0))
