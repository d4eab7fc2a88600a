-- The words in which the lemmas on scripts speak: of operands, of the machine and its symbols, of forms, commands and scripts.
pub use Rattle.ua_operands.specs.declared.written.Entry.{Entry}
pub use Rattle.ua_operands.specs.declared.written.IdentityText.{IdentityText}
pub use Rattle.ua_operands.specs.declared.written.Items.{Items}
pub use Rattle.ua_operands.specs.declared.written.Mode.{Mode}
pub use Rattle.ua_operands.specs.declared.written.Mode.TheVariants.{Count, Least, Plain}
pub use Rattle.ua_operands.specs.declared.written.Number.{Number}
pub use Rattle.ua_operands.specs.declared.written.PartText.{PartText}
pub use Rattle.ua_operands.specs.declared.written.PointsText.{PointsText}
pub use Rattle.ua_operands.specs.declared.written.PointsText.TheVariants.{Partial, Total}
pub use Rattle.ua_operands.specs.declared.written.Variable.{Variable}
pub use Rattle.ua_operands.specs.declared.written.Word.{Word}
pub use Rattle.ua_text.specs.Machine.{Forms, Move, Row, State, Taken, all_symbols, either, identity_symbols, lookup, no_operations, nothing_taken, part_symbols, passes, table_role, with_name}
pub use Rattle.ua_text.specs.Versions.{IsVersion, item_ok, version_ok}
pub use Rattle.ua_text.specs.Blocks.{IsBlock, IsBlockOperation, MayName, block, body, naming, operation}
pub use Rattle.ua_text.specs.Languages.{IsFault, mode_words, no_parenthesis_follows, nothing_follows}
pub use Rattle.ua_text.specs.Steps.{may_end, run, step}
pub use Rattle.ua_text.specs.declared.named.Block.{Block}
pub use Rattle.ua_text.specs.declared.symbols.Part.{Part}
pub use Rattle.ua_text.specs.declared.symbols.Symbol.{Symbol}
pub use Rattle.ua_text.specs.declared.symbols.Table.{Table}
pub use Rattle.ua_text.specs.declared.symbols.Test.{Test}
pub use Rattle.ua_text.specs.declared.symbols.Table.TheVariants.{Commands, Constructions, Points, Provables}
pub use Rattle.ua_term.specs.Phrases.{Phrase, Phrases, bare_phrase, bare_phrases, more, none, nowhere, phrase}
pub use Rattle.ua_script.specs.declared.script.Provable.{Provable}
pub use Rattle.ua_script.specs.declared.script.MakeForm.{MakeForm}
pub use Rattle.ua_script.specs.declared.script.MakeForm.TheVariants.{Product, Quotient, Reduct, Sub}
pub use Rattle.ua_script.specs.declared.script.Command.{Command}
pub use Rattle.ua_script.specs.declared.script.Item.{Item}
pub use Rattle.ua_script.specs.declared.script.Script.{Script}
pub use Rattle.ua_script.specs.declared.forms.CommandForm.{CommandForm}
pub use Rattle.ua_script.specs.Operands.{AreIdentities, ArePoints, AreValues, AreVectors, Choice, IsConstruction, IsEntry, IsIdentity, IsPart, IsValue, IsVector, Value, Values, choice_text}
pub use Rattle.ua_script.specs.Operands.{construction, new_name, new_names, value_text, values_text}
pub use Rattle.ua_script.specs.Forms.{Asked, all_forms, asked, certified, form_row, made, parts_of, question, question_forms, word_of}
pub use Rattle.ua_script.specs.Grammar.{HasMode, IsItem, IsOpening, IsScript, IsScriptText, IsWellFormed, MayAsk, asked_text, command, first_word, heading, introduced, item, migrated, opening}
pub use Rattle.ua_script.specs.Grammar.{scripts, version_line, written}
pub use Rattle.ua_script.specs.Tables.{commands, provables, question_row, rows, script_forms, without_modes}
pub use Rattle.ua_script.specs.inner.Tables.{choice_words, script_start}
pub use Rattle.ua_script.specs.inner.Forms.{finished, found_form}
pub use Rattle.ua_script.specs.Reading.{IsReadableItem, IsReadableScript, ends}
pub use Rattle.ua_script.specs.inner.Reading.{AreShort, Beginning, IsCommandRead, IsKept, IsMade, IsShortConstruction, IsShortValue, Standing, all_end}
pub use Rattle.ua_script.specs.inner.Parts.{Ends, ForPart, IsRead}
pub use Rattle.ua_script.specs.Places.{BareBlock, BareCommand, BareItem, ReadsBack, bare, bare_construction, bare_entry, bare_identity, bare_item, bare_number, bare_part, bare_points, bare_value}
pub use Rattle.ua_script.specs.Places.{bare_values, bare_vector, bare_word}
