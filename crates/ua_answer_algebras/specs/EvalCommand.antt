-- The command `eval`: where its operands fail, and what it is answered.
use Rattle.std.specs.Prelude.{◌≡◌, ℕ, List, ◌++◌, length, codes}
use Rattle.ua_table.specs.Terms.{eval}
use Rattle.ua_term.specs.Phrases.{Phrase}
use Rattle.ua_term.specs.Meanings.{tree_in}
use Rattle.ua_operands.specs.declared.written.Word.{Word}
use Rattle.ua_operands.specs.declared.written.Items.{Items}
use Rattle.ua_text.specs.declared.named.Block.{Block}
use Rattle.ua_reply.specs.Checks.{Checks, ◌and◌}
use Rattle.ua_reply.specs.Operands.{values_of, term_in, elements_in}
use Rattle.ua_reply.specs.Replies.{AnsweredOn}
use Rattle.ua_reply.specs.Texts.{line, element_text}

-- eval NAME TERM [..]
abbrev pub eval_checks : Block → Phrase → Items → Checks
eval_checks k term args = term_in k (length args.values) term and elements_in k args.values

-- the value of the term at the elements
abbrev pub EvalAnswer : Block → Phrase → Items → List ℕ → Type 0
EvalAnswer k term args bytes = bytes ≡ line (codes "value " ++ element_text k (eval k.algebra (values_of k args) (tree_in k.algebra term)))

abbrev pub EvalReply : List Block → Word → Phrase → Items → List ℕ → Type 0
EvalReply s w term args bytes = AnsweredOn s w (λ k. eval_checks k term args) (λ k. EvalAnswer k term args) bytes
