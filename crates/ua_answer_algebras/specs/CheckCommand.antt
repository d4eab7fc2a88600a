-- The command `check`: what is told of a certificate.
use Rattle.std.specs.Prelude.{ℕ, List, [], ◌∷◌, ◌++◌, Option, None, Some, Result, Ok, Err, codes}
use Rattle.std.specs.Fmt.{decimal}
use Rattle.ua_table.specs.Algebras.{FiniteAlgebra}
use Rattle.ua_part.specs.Blocks.{more_numbers}
use Rattle.ua_cert.specs.declared.certs.Cert.{Cert}
use Rattle.ua_cert.specs.declared.faults.CertError.{CertError}
use Rattle.ua_cert.specs.declared.faults.CertError.TheVariants as errors
use Rattle.ua_cert.specs.Certificates.{TellsCert}
use Rattle.ua_flaws.specs.declared.flaws.ListName.{ListName}
use Rattle.ua_flaws.specs.declared.flaws.ListName.TheVariants.{Gens, Rows, Target}
use Rattle.ua_flaws.specs.declared.flaws.Flaw.{Flaw}
use Rattle.ua_flaws.specs.declared.flaws.Flaw.TheVariants as flaws
use Rattle.ua_check.specs.Checking.{flaw_of}
use Rattle.ua_operands.specs.declared.written.Word.{Word}
use Rattle.ua_text.specs.declared.named.Block.{Block}
use Rattle.ua_reply.specs.Checks.{passed}
use Rattle.ua_reply.specs.Replies.{Says, AnsweredOn}
use Rattle.ua_reply.specs.Texts.{line, counted, tuple_text, pair_text}

abbrev pub list_word : ListName → List ℕ
list_word Gens = codes "gens"
list_word Rows = codes "rows"
list_word Target = codes "target"

-- the number of a step, behind that of its term in a chain
abbrev pub step_text : Option ℕ → ℕ → List ℕ
step_text None i = decimal i
step_text (Some t) i = pair_text (t, i)

-- a flaw by its numbers
abbrev pub flaw_text : Flaw → List ℕ
flaw_text flaws.Width = codes "width"
flaw_text (flaws.Vector list i) = codes "vector " ++ counted (list_word list) i
flaw_text (flaws.Step term i) = codes "step " ++ step_text term i
flaw_text (flaws.Order i) = counted (codes "order") i
flaw_text (flaws.Rank i) = counted (codes "rank") i
flaw_text (flaws.Origin i) = counted (codes "origin") i
flaw_text (flaws.Generator i) = counted (codes "generator") i
flaw_text (flaws.Missing op rows) = codes "result " ++ op ++ more_numbers rows
flaw_text flaws.Target = codes "target"
flaw_text (flaws.Identity i x y) = counted (codes "identity") i ++ 32 ∷ tuple_text (x ∷ y ∷ [])
flaw_text (flaws.Link i) = counted (codes "link") i
flaw_text (flaws.Reached i) = counted (codes "reached") i

-- that there is no flaw, or the first
abbrev pub verdict_text : Option Flaw → List ℕ
verdict_text None = line (codes "valid")
verdict_text (Some f) = line (codes "flaw " ++ flaw_text f)

-- why there is no certificate at this path; no blank stands before an empty one
abbrev pub path_text : List ℕ → List ℕ → List ℕ
path_text word [] = line word
path_text word (b ∷ path) = line (word ++ 32 ∷ b ∷ path)

-- what is told of the certificate that was read, or why none was; want of memory has no text
abbrev pub check_text : FiniteAlgebra → Result Cert CertError → Option (List ℕ)
check_text a (Ok c) = Some (verdict_text (flaw_of a c))
check_text a (Err errors.Json) = Some (line (codes "cert json"))
check_text a (Err (errors.Shape path)) = Some (path_text (codes "cert shape") path)
check_text a (Err (errors.Range path)) = Some (path_text (codes "cert range") path)
check_text a (Err errors.OutOfMemory) = None

abbrev pub CheckAnswer : Block → List ℕ → List ℕ → Type 0
CheckAnswer k json bytes = Says (TellsCert json) (check_text k.algebra) bytes

-- check NAME {..}
abbrev pub CheckReply : List Block → Word → List ℕ → List ℕ → Type 0
CheckReply s w json bytes = AnsweredOn s w (λ k. passed) (λ k. CheckAnswer k json) bytes
