-- A script that can be served has an output, and each beginning of an output is the front of one.
use Rattle.std.proofs.Common.{◌≡◌, ℕ, ◌≤◌, List, [], ◌∷◌, ◌++◌, Option, Some, None, refl, sym, subst, inl, inr, append_assoc, ◌∙◌, append-nil, lit≤}
use Rattle.std.specs.List.{AllByRecursion}
use Rattle.ua_table.specs.declared.limits.TheConstants.{BUDGET}
use Rattle.ua_table.specs.Tables.{IsAlgebraTable}
use Rattle.ua_table.proofs.Lists.{all_append}
use Rattle.ua_text.specs.declared.named.Block.{Block}
use Rattle.ua_script.specs.declared.script.Command.{Command}
use Rattle.ua_script.specs.declared.script.Item.{Item}
use Rattle.ua_script.specs.declared.script.Item.TheVariants as items
use Rattle.ua_script.specs.declared.script.Script.{Script}
use Rattle.ua_options.specs.declared.words.Settings.{Settings}
use Rattle.ua_options.specs.declared.words.TheConstants.{USUAL_BUDGET}
use Rattle.ua_options.specs.Words.{Budget, value_of, IsNumber, Asks}
use Rattle.ua_reply.specs.Sessions.{Bounds, AreAlgebras, AreBounds}
use Rattle.ua_reply.specs.Replies.{HasBytes}
use Rattle.ua_answer_algebras.specs.MakeCommand.{HasReply}
use Rattle.ua_answer.specs.Replies.{IsBuilt, Reply}
use Rattle.ua_shell.specs.Runs.{bounds_in}
use Rattle.ua_shell.specs.Outputs.{OutputFrom, BegunFrom, HasOutput}
use Rattle.ua_shell.specs.inner.Outputs.{IsServed}
use Rattle.ua_shell.proofs.Serving.{begun_none}

abbrev pub EachReplied : Type 0
EachReplied = (s : List Block) (b : Bounds) (c : Command) → AreAlgebras s → AreBounds b → IsBuilt c → HasReply (Reply s b c)

abbrev pub EachLeaves : Type 0
EachLeaves = (s : List Block) (b : Bounds) (c : Command) (bytes : List ℕ) (t : List Block) → AreAlgebras s → Reply s b c bytes t → AreAlgebras t

within : (budget : Option (List ℕ)) (n : ℕ) → IsNumber USUAL_BUDGET BUDGET budget n → (1 ≤ n) × (n ≤ BUDGET)
within None n h = rw h (lit≤ tt, lit≤ tt)
within (Some text) n h = (h.1, h.0.1)

pub bounds_asked : (words : List (List ℕ)) (settings : Settings) → Asks words settings → AreBounds (bounds_in settings)
bounds_asked words settings h = let w = within (value_of Budget h.choices) settings.budget h.budget in record { some = w.0; few = w.1 }

module _ (one : EachReplied) (left : EachLeaves) (b : Bounds) (bounds : AreBounds b) where
  introduced : (s : List Block) (k : Block) → AreAlgebras s → IsAlgebraTable k.algebra → AreAlgebras (s ++ k ∷ [])
  introduced s k algebras h = all_append (λ (k : Block). IsAlgebraTable k.algebra) s (k ∷ []) algebras (h, tt)

  replied : (s : List Block) (c : Command) (is : List Item) (reply : List ℕ) (t : List Block) → Reply s b c reply t → HasBytes (OutputFrom t b is) → HasBytes (λ rest. OutputFrom s b (items.Command c ∷ is) (reply ++ rest))
  replied s c is reply t here rest = record { bytes = rest.bytes; are = record { reply = reply; rest = rest.bytes; next = t; joined = refl; here = here; follows = rest.are } }

  goes_on : (s : List Block) (is : List Item) → AreAlgebras s → AllByRecursion IsServed is → (bytes : List ℕ) → BegunFrom s b is bytes → HasBytes (λ rest. OutputFrom s b is (bytes ++ rest))
  goes_on s [] algebras served bytes h = record { bytes = []; are = append-nil bytes ∙ h }
  goes_on s (items.Block k ∷ is) algebras served bytes h = goes_on (s ++ k ∷ []) is (introduced s k algebras served.0) served.1 bytes h
  goes_on s (items.Command c ∷ is) algebras served bytes (inl none) =
      let first = one s b c algebras bounds served.0 in
      let rest = goes_on first.left is (left s b c first.bytes first.left algebras first.are) served.1 [] (begun_none b first.left is) in
      let all = replied s c is first.bytes first.left first.are rest in
      record { bytes = first.bytes ++ all.bytes; are = subst (λ z. OutputFrom s b (items.Command c ∷ is) (z ++ (first.bytes ++ all.bytes))) (sym none) all.are }
  goes_on s (items.Command c ∷ is) algebras served bytes (inr (inl front)) =
      let rest = goes_on front.next is (left s b c (bytes ++ front.rest) front.next algebras front.here) served.1 [] (begun_none b front.next is) in
      let all = replied s c is (bytes ++ front.rest) front.next front.here rest in
      record { bytes = front.rest ++ all.bytes; are = subst (OutputFrom s b (items.Command c ∷ is)) (append_assoc bytes front.rest all.bytes) all.are }
  goes_on s (items.Command c ∷ is) algebras served bytes (inr (inr then)) =
      let more = goes_on then.next is (left s b c then.reply then.next algebras then.here) served.1 then.rest then.follows in
      let joined : bytes ++ more.bytes ≡ then.reply ++ (then.rest ++ more.bytes) = rw then.joined (append_assoc then.reply then.rest more.bytes) in
      record { bytes = more.bytes; are = record { reply = then.reply; rest = then.rest ++ more.bytes; next = then.next; joined = joined; here = then.here; follows = more.are } }

  pub served_output : (script : Script) → AllByRecursion IsServed script.items → HasOutput b script
  served_output script served = record {
    whole = goes_on [] script.items tt served [] (begun_none b [] script.items);
    begun = goes_on [] script.items tt served;
  }
