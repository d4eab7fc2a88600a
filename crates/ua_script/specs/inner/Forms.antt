-- The form that has a word, and what is finished of it.
use Rattle.std.specs.Prelude.{ℕ, Bool, true, false, List, [], ◌∷◌, Option, Some, None, if◌then◌else◌}
use Rattle.ua_text.specs.Words.{same}
use Rattle.ua_script.specs.declared.script.Command.{Command}
use Rattle.ua_script.specs.declared.forms.CommandForm.{CommandForm}
use Rattle.ua_script.specs.Forms.{word_of, certified}

-- the first of these forms that has the word
abbrev pub found_form : List ℕ → List CommandForm → Option CommandForm
found_form t [] = None
found_form t (f ∷ fs) = if same t (word_of f) then Some f else found_form t fs

abbrev pub finished : Bool → Command → Command
finished true c = certified c
finished false c = c
