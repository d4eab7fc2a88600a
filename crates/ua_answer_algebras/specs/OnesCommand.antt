-- The command `ones`: what it is answered.
use Rattle.std.specs.Prelude.{ℕ, suc, List, [], ◌∷◌, ◌++◌, length, Some, codes}
use Rattle.ua_sub.specs.Members.{AreOnes}
use Rattle.ua_operands.specs.declared.written.Word.{Word}
use Rattle.ua_text.specs.declared.named.Block.{Block}
use Rattle.ua_reply.specs.Checks.{passed}
use Rattle.ua_reply.specs.Replies.{Says, AnsweredOn}
use Rattle.ua_reply.specs.Texts.{line, counted, element_text, set_text}

-- each set behind its element, on a line of its own; the first is that of x
abbrev pub sets_text : Block → ℕ → List (List ℕ) → List ℕ
sets_text k x [] = []
sets_text k x (set ∷ sets) = line (element_text k x ++ 32 ∷ set_text k set) ++ sets_text k (suc x) sets

-- how many elements there are, and what each generates
abbrev pub ones_text : Block → List (List ℕ) → List ℕ
ones_text k sets = line (counted (codes "ones") (length sets)) ++ sets_text k 0 sets

abbrev pub OnesAnswer : Block → List ℕ → Type 0
OnesAnswer k bytes = Says (AreOnes k.algebra) (λ sets. Some (ones_text k sets)) bytes

-- ones NAME
abbrev pub OnesReply : List Block → Word → List ℕ → Type 0
OnesReply s w bytes = AnsweredOn s w (λ k. passed) OnesAnswer bytes
