-- The commands `jonsson`, `hm` and `day`: what they are answered.
use Rattle.std.specs.Prelude.{ℕ, suc, ◌-◌, if◌then◌else◌, List, [], ◌∷◌, ◌++◌, length, codes}
use Rattle.std.specs.Fmt.{decimal}
use Rattle.ua_term.specs.Steps.{StepList}
use Rattle.ua_identity.specs.Chains.{ChainKind}
use Rattle.ua_chain.specs.declared.chains.Chain.{Chain}
use Rattle.ua_chain.specs.declared.chains.Chain.TheVariants.{Yes, No, Exceeds}
use Rattle.ua_chain.specs.declared.least_chains.NamedKind.{NamedKind}
use Rattle.ua_chain.specs.Names.{kind_named}
use Rattle.ua_chain.specs.Permitted.{MayChain}
use Rattle.ua_text.specs.declared.named.Block.{Block}
use Rattle.ua_operands.specs.declared.written.Word.{Word}
use Rattle.ua_reply.specs.Sessions.{Bounds}
use Rattle.ua_reply.specs.Checks.{passed}
use Rattle.ua_reply.specs.Closures.{told}
use Rattle.ua_reply.specs.Replies.{Says, AnsweredOn}
use Rattle.ua_reply.specs.Texts.{line, lines, counted, row_text, listed_text, steps_text}

-- term 1 steps 3, and the steps
abbrev pub term_text : Block → ℕ → StepList → List ℕ
term_text k i steps = codes "term " ++ decimal i ++ 32 ∷ steps_text k steps

-- the terms one after another; the first has number i
abbrev pub terms_text : Block → ℕ → List StepList → List ℕ
terms_text k i [] = []
terms_text k i (s ∷ ss) = term_text k i s ++ terms_text k (suc i) ss

-- the positions of the rows that are reached, at even and at odd indices where these are told apart
abbrev pub reached_text : ChainKind → List ℕ → List ℕ → List ℕ
reached_text kind even odd = listed_text (codes "reached even") even ++ (if kind.by_parity then listed_text (codes "reached odd") odd else [])

-- the terms of a least chain; or all rows, and those that are reached; or one row more than the budget
abbrev pub chain_text : Block → ℕ → ChainKind → Chain → List ℕ
chain_text k budget kind (Yes terms) = line (counted (codes "chain") (length terms.items - 1)) ++ terms_text k 0 terms.items
chain_text k budget kind (No rows even odd) = line (counted (codes "no") (length rows)) ++ lines (row_text k) rows ++ reached_text kind even.items odd.items
chain_text k budget kind (Exceeds rows) = line (counted (codes "exceeds") budget) ++ lines (row_text k) rows

abbrev pub ChainAnswer : Block → Bounds → ChainKind → List ℕ → Type 0
ChainAnswer k b kind bytes = Says (MayChain k.algebra kind b.budget b.workers) (told (chain_text k b.budget kind)) bytes

-- jonsson NAME, hm NAME, day NAME
abbrev pub ChainReply : List Block → Bounds → Word → NamedKind → List ℕ → Type 0
ChainReply s b w asked bytes = AnsweredOn s w (λ k. passed) (λ k. ChainAnswer k b (kind_named asked)) bytes
