-- The words of the kinds of faults.
use Rattle.std.specs.Prelude.{ℕ, List, codes}
use Rattle.ua_text.specs.declared.faults.FaultKind.{FaultKind}
use Rattle.ua_text.specs.declared.faults.FaultKind.TheVariants as kinds

abbrev pub word_of : FaultKind → List ℕ
word_of kinds.End = codes "end"
word_of kinds.Byte = codes "byte"
word_of kinds.Unbuilt = codes "unbuilt"
word_of kinds.Value = codes "value"
word_of kinds.Number = codes "number"
word_of kinds.Name = codes "name"
word_of kinds.Item = codes "item"
word_of kinds.Term = codes "term"
word_of kinds.Word = codes "word"
