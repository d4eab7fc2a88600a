-- The words in which the lemmas on operands speak: of tokens, of what is wanted there, and of operands.
pub use Rattle.std.specs.List.{AllByRecursion, IsDistinct, flat_map, list_all}
pub use Rattle.std.specs.Fmt.{decimal}
pub use Rattle.ua_table.specs.Names.{is_name}
pub use Rattle.ua_text.specs.Bytes.{is_mark, is_number}
pub use Rattle.ua_text.specs.Words.{among, same}
pub use Rattle.ua_text.specs.Numbers.{number_value}
pub use Rattle.ua_text.specs.Pieces.{Placed, tokens_of}
pub use Rattle.ua_text.specs.Signs.{AreSpelled, Element, Front, IsAt, IsSign, IsSpelled, Numeral, Sign, Spelled, Wanted, element, is_bad, is_mark_text, may_spell, numeral, printed, sign, sign_at}
pub use Rattle.ua_text.specs.Signs.{text_of, texts, token_texts}
pub use Rattle.ua_text.specs.Tokens.{end_of, seen, source_of, tokens_left}
pub use Rattle.ua_text.specs.Reading.{Gives, IsBlockAt, IsReadableBlock, begins_with}
pub use Rattle.ua_text.specs.Printing.{Shows}
pub use Rattle.ua_text.specs.declared.tokens.Place.{Place}
pub use Rattle.ua_text.specs.declared.symbols.Role.{Role}
pub use Rattle.ua_text.specs.declared.readers.Miss.{Miss}
pub use Rattle.ua_operands.specs.Written.{arguments, clone_word, cond_word, entry, further, identity, identity_behind, mode, names, number, part, part_block, part_blocks, points, series_word}
pub use Rattle.ua_operands.specs.Written.{variable, variable_word, vector, word}
pub use Rattle.ua_operands.specs.Reading.{ArePointsShort, IsNamed, IsShort, IsShortBlock, IsShortEntry, IsShortVector, begins_item, begins_number, may_be_number}
pub use Rattle.ua_operands.specs.inner.Reading.{is_number_front}
pub use Rattle.ua_operands.specs.declared.written.Word.{Word}
pub use Rattle.ua_operands.specs.declared.written.Number.{Number}
pub use Rattle.ua_operands.specs.declared.written.Entry.{Entry}
pub use Rattle.ua_operands.specs.declared.written.Items.{Items}
pub use Rattle.ua_operands.specs.declared.written.PartText.{PartText}
pub use Rattle.ua_operands.specs.declared.written.Mode.{Mode}
pub use Rattle.ua_operands.specs.declared.written.CondWord.{CondWord}
pub use Rattle.ua_operands.specs.declared.written.SeriesWord.{SeriesWord}
pub use Rattle.ua_operands.specs.declared.written.Variable.{Variable}
pub use Rattle.ua_operands.specs.declared.written.CloneWord.{CloneWord}
pub use Rattle.ua_operands.specs.declared.written.IdentityText.{IdentityText}
pub use Rattle.ua_operands.specs.declared.written.PointsText.{PointsText}
pub use Rattle.ua_operands.specs.declared.written.Mode.TheVariants.{Count, Least, Plain}
pub use Rattle.ua_operands.specs.declared.written.PointsText.TheVariants.{Partial, Total}
