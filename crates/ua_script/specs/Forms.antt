-- The forms of commands: a row for each, with its word and the parts behind it, and what a command is made of.
use Rattle.std.specs.Prelude.{ℕ, Bool, true, false, List, [], ◌∷◌, Option, Some, None, codes}
use Rattle.ua_text.specs.declared.symbols.Part.{Part}
use Rattle.ua_text.specs.declared.symbols.Part.TheVariants as parts
use Rattle.ua_text.specs.declared.symbols.Table.TheVariants.{Constructions, Points}
use Rattle.ua_text.specs.declared.tokens.Place.{Place}
use Rattle.ua_text.specs.Machine.{Row}
use Rattle.ua_operands.specs.declared.written.Mode.{Mode}
use Rattle.ua_operands.specs.declared.written.Mode.TheVariants.{Plain}
use Rattle.ua_script.specs.declared.script.Provable.{Provable}
use Rattle.ua_script.specs.declared.script.Provable.TheVariants as provables
use Rattle.ua_script.specs.declared.script.Command.{Command}
use Rattle.ua_script.specs.declared.script.Command.TheVariants as commands
use Rattle.ua_script.specs.declared.forms.CommandForm.{CommandForm}
use Rattle.ua_script.specs.declared.forms.CommandForm.TheVariants as forms
use Rattle.ua_script.specs.Operands.{Values}

abbrev pub row : List ℕ → List Part → Row
row word parts = record { word = word; parts = parts }

-- The table.
abbrev pub form_row : CommandForm → Row
form_row forms.Close = row (codes "close") (parts.Name ∷ parts.Count ∷ parts.Vectors ∷ parts.Modes ∷ [])
form_row forms.Member = row (codes "member") (parts.Name ∷ parts.Count ∷ parts.Vectors ∷ parts.Mark 61 ∷ parts.Vector ∷ [])
form_row forms.Cond = row (codes "cond") (parts.Name ∷ parts.OneOf 0 ∷ [])
form_row forms.Nu = row (codes "nu") (parts.Name ∷ parts.Count ∷ [])
form_row forms.Jonsson = row (codes "jonsson") (parts.Name ∷ [])
form_row forms.Hm = row (codes "hm") (parts.Name ∷ [])
form_row forms.Free = row (codes "free") (parts.Name ∷ parts.Count ∷ parts.Modes ∷ [])
form_row forms.Sub = row (codes "sub") (parts.Name ∷ parts.Vector ∷ [])
form_row forms.Ones = row (codes "ones") (parts.Name ∷ [])
form_row forms.Eval = row (codes "eval") (parts.Name ∷ parts.Term ∷ parts.Vector ∷ [])
form_row forms.Cg = row (codes "cg") (parts.Name ∷ parts.Vectors ∷ [])
form_row forms.Con = row (codes "con") (parts.Name ∷ [])
form_row forms.Types = row (codes "types") (parts.Name ∷ [])
form_row forms.Day = row (codes "day") (parts.Name ∷ [])
form_row forms.Condition = row (codes "condition") (parts.Name ∷ parts.Count ∷ parts.Identities 2 ∷ [])
form_row forms.Clone = row (codes "clone") (parts.Name ∷ parts.Count ∷ parts.OneOf 3 ∷ parts.Pick Points ∷ [])
form_row forms.Central = row (codes "central") (parts.Name ∷ parts.Partition ∷ parts.Partition ∷ parts.Partition ∷ [])
form_row forms.Comm = row (codes "comm") (parts.Name ∷ parts.Partition ∷ parts.Partition ∷ [])
form_row forms.Series = row (codes "series") (parts.Name ∷ parts.OneOf 1 ∷ [])
form_row forms.Holds = row (codes "holds") (parts.Name ∷ parts.Term ∷ parts.Mark 61 ∷ parts.Term ∷ [])
form_row forms.Hom = row (codes "hom") (parts.Name ∷ parts.Name ∷ parts.Vector ∷ parts.Vector ∷ [])
form_row forms.Make = row (codes "make") (parts.Fresh ∷ parts.Pick Constructions ∷ [])
form_row forms.Check = row (codes "check") (parts.Name ∷ parts.Json ∷ [])

abbrev pub word_of : CommandForm → List ℕ
word_of f = (form_row f).word

abbrev pub parts_of : CommandForm → List Part
parts_of f = (form_row f).parts

-- the forms
abbrev pub all_forms : List CommandForm
all_forms =
    forms.Close ∷ forms.Member ∷ forms.Cond ∷ forms.Nu ∷ forms.Jonsson ∷ forms.Hm ∷ forms.Free ∷ forms.Sub ∷ forms.Ones ∷ forms.Eval ∷ forms.Cg
    ∷ forms.Con ∷ forms.Types ∷ forms.Day ∷ forms.Condition ∷ forms.Clone ∷ forms.Central ∷ forms.Comm ∷ forms.Series ∷ forms.Holds ∷ forms.Hom
    ∷ forms.Make ∷ forms.Check ∷ []

-- those of questions, before which `cert` may stand
abbrev pub question_forms : List CommandForm
question_forms = forms.Close ∷ forms.Member ∷ forms.Cond ∷ forms.Nu ∷ forms.Jonsson ∷ forms.Hm ∷ []

-- What a command is made of: its form, whether a certificate is asked, the place of its first word where that is kept,
-- and what stands for its parts.
pub record Asked : Type 0 where
  pub form : CommandForm
  pub cert : Bool
  pub place : Option Place
  pub values : Values (parts_of form)

-- a question, without a certificate
abbrev pub question : Provable → Mode → (f : CommandForm) × Values (parts_of f)
question (provables.Close a w gens) m = (forms.Close, (a, (w, (gens, (m, tt)))))
question (provables.Member a w gens target) m = (forms.Member, (a, (w, (gens, (tt, (target, tt))))))
question (provables.Cond a name) m = (forms.Cond, (a, (name, tt)))
question (provables.Nu a k) m = (forms.Nu, (a, (k, tt)))
question (provables.Jonsson a) m = (forms.Jonsson, (a, tt))
question (provables.Hm a) m = (forms.Hm, (a, tt))

abbrev pub plain : (f : CommandForm) → Values (parts_of f) → Asked
plain f x = record { form = f; cert = false; place = None; values = x }

abbrev pub asked : Command → Asked
asked (commands.Ask what m cert) = record { form = (question what m).0; cert = cert; place = None; values = (question what m).1 }
asked (commands.Free a k m) = plain forms.Free (a, (k, (m, tt)))
asked (commands.Sub a set) = plain forms.Sub (a, (set, tt))
asked (commands.Ones a) = plain forms.Ones (a, tt)
asked (commands.Eval a t args) = plain forms.Eval (a, (t, (args, tt)))
asked (commands.Cg a pairs) = plain forms.Cg (a, (pairs, tt))
asked (commands.Con a) = plain forms.Con (a, tt)
asked (commands.Types a) = plain forms.Types (a, tt)
asked (commands.Day a) = plain forms.Day (a, tt)
asked (commands.Condition a k is) = plain forms.Condition (a, (k, (is, tt)))
asked (commands.Clone a k kind ps) = plain forms.Clone (a, (k, (kind, (ps, tt))))
asked (commands.Central a alpha beta delta) = plain forms.Central (a, (alpha, (beta, (delta, tt))))
asked (commands.Comm a alpha beta) = plain forms.Comm (a, (alpha, (beta, tt)))
asked (commands.Series a kind) = plain forms.Series (a, (kind, tt))
asked (commands.Holds a left right) = plain forms.Holds (a, (left, (tt, (right, tt))))
asked (commands.Hom a b gens images) = plain forms.Hom (a, (b, (gens, (images, tt))))
asked (commands.Make place name what) = record { form = forms.Make; cert = false; place = Some place; values = (name, (what, tt)) }
asked (commands.Check a json) = plain forms.Check (a, (json, tt))

-- the command of a form whose first word stands at this place
abbrev pub made : (f : CommandForm) → Place → Values (parts_of f) → Command
made forms.Close p x = commands.Ask (provables.Close x.0 x.1.0 x.1.1.0) x.1.1.1.0 false
made forms.Member p x = commands.Ask (provables.Member x.0 x.1.0 x.1.1.0 x.1.1.1.1.0) Plain false
made forms.Cond p x = commands.Ask (provables.Cond x.0 x.1.0) Plain false
made forms.Nu p x = commands.Ask (provables.Nu x.0 x.1.0) Plain false
made forms.Jonsson p x = commands.Ask (provables.Jonsson x.0) Plain false
made forms.Hm p x = commands.Ask (provables.Hm x.0) Plain false
made forms.Free p x = commands.Free x.0 x.1.0 x.1.1.0
made forms.Sub p x = commands.Sub x.0 x.1.0
made forms.Ones p x = commands.Ones x.0
made forms.Eval p x = commands.Eval x.0 x.1.0 x.1.1.0
made forms.Cg p x = commands.Cg x.0 x.1.0
made forms.Con p x = commands.Con x.0
made forms.Types p x = commands.Types x.0
made forms.Day p x = commands.Day x.0
made forms.Condition p x = commands.Condition x.0 x.1.0 x.1.1.0
made forms.Clone p x = commands.Clone x.0 x.1.0 x.1.1.0 x.1.1.1.0
made forms.Central p x = commands.Central x.0 x.1.0 x.1.1.0 x.1.1.1.0
made forms.Comm p x = commands.Comm x.0 x.1.0 x.1.1.0
made forms.Series p x = commands.Series x.0 x.1.0
made forms.Holds p x = commands.Holds x.0 x.1.0 x.1.1.1.0
made forms.Hom p x = commands.Hom x.0 x.1.0 x.1.1.0 x.1.1.1.0
made forms.Make p x = commands.Make p x.0 x.1.0
made forms.Check p x = commands.Check x.0 x.1.0

-- the same question, with a certificate
abbrev pub certified : Command → Command
certified (commands.Ask what m cert) = commands.Ask what m true
certified c = c
