-- A command may be shared by threads, since its fields may. Enums of fewer variants are seen to be so without a proof.
use Rattle.std.proofs.Crossing.{crosses}
use denote.Builtin.{u8}
use denote.Hole.{as_row}
use denote.Param.Send.{IsSync, sendable}
use denote.Param.SendFields.{variants_sync, as_row_sync}
use denote.Struct.Field.{bool-field}
use Rattle.ua_table.proofs.names.Name.TheSendSync as name_shared
use Rattle.ua_table.specs.contracts.listed.Listed as lists
use Rattle.ua_table.proofs.listed.Listed.TheSendSync as list_shared
use Rattle.ua_text.specs.contracts.tokens.Place as place
use Rattle.ua_text.proofs.tokens.Place.TheSendSync as place_shared
use Rattle.ua_term.specs.contracts.written.Written as written
use Rattle.ua_term.proofs.written.Written.TheLaws.TheKnot.{sync-Written}
use Rattle.ua_operands.specs.contracts.written.Word as word
use Rattle.ua_operands.proofs.written.Word.TheSendSync as word_shared
use Rattle.ua_operands.specs.contracts.written.Number as number
use Rattle.ua_operands.proofs.written.Number.TheSendSync as number_shared
use Rattle.ua_operands.specs.contracts.written.Items as items
use Rattle.ua_operands.proofs.written.Items.TheSendSync as items_shared
use Rattle.ua_operands.specs.contracts.written.Mode as mode
use Rattle.ua_operands.proofs.written.Mode.TheSendSync as mode_shared
use Rattle.ua_script.specs.contracts.script.Provable as provable
use Rattle.ua_script.proofs.script.Provable.TheSendSync as provable_shared
use Rattle.ua_operands.specs.contracts.written.PartText as part
use Rattle.ua_operands.proofs.written.PartText.TheSendSync as part_shared
use Rattle.ua_operands.specs.contracts.written.SeriesWord as series
use Rattle.ua_operands.proofs.written.SeriesWord.TheSendSync as series_shared
use Rattle.ua_operands.specs.contracts.written.CloneWord as clone
use Rattle.ua_operands.proofs.written.CloneWord.TheSendSync as clone_shared
use Rattle.ua_operands.specs.contracts.written.PointsText as points
use Rattle.ua_operands.proofs.written.PointsText.TheSendSync as points_shared
use Rattle.ua_script.specs.contracts.script.MakeForm as making
use Rattle.ua_script.proofs.script.MakeForm.TheSendSync as making_shared
use Rattle.ua_operands.specs.contracts.written.IdentityText as identity
use Rattle.ua_operands.proofs.written.IdentityText.TheSendSync as identity_shared
use Rattle.ua_script.specs.contracts.script.Command as command

word_sync : IsSync (as_row word.the_field)
word_sync = as_row_sync word.the_field word_shared.the_field_sync

number_sync : IsSync (as_row number.the_field)
number_sync = as_row_sync number.the_field number_shared.the_field_sync

items_sync : IsSync (as_row items.the_field)
items_sync = as_row_sync items.the_field items_shared.the_field_sync

mode_sync : IsSync (as_row mode.the_field)
mode_sync = as_row_sync mode.the_field mode_shared.the_field_sync

provable_sync : IsSync (as_row provable.the_field)
provable_sync = as_row_sync provable.the_field provable_shared.the_field_sync

part_sync : IsSync (as_row part.the_field)
part_sync = as_row_sync part.the_field part_shared.the_field_sync

series_sync : IsSync (as_row series.the_field)
series_sync = as_row_sync series.the_field series_shared.the_field_sync

clone_sync : IsSync (as_row clone.the_field)
clone_sync = as_row_sync clone.the_field clone_shared.the_field_sync

points_sync : IsSync (as_row points.the_field)
points_sync = as_row_sync points.the_field points_shared.the_field_sync

making_sync : IsSync (as_row making.the_field)
making_sync = as_row_sync making.the_field making_shared.the_field_sync

place_sync : IsSync (as_row place.the_field)
place_sync = as_row_sync place.the_field place_shared.the_field_sync

written_sync : IsSync (as_row written.the_field)
written_sync = search (sync-Written, name_shared.the_sync, as_row_sync, crosses, sendable)

-- variant by variant, and each field by field
pub command_sync : IsSync command.the_row
command_sync =
    let flag_sync : IsSync (as_row bool-field) = search (sendable, as_row_sync) in
    let vectors_sync : IsSync (as_row (lists.the_field items.the_row)) = search (list_shared.the_sync, sendable, as_row_sync, crosses, items_shared.the_sync) in
    let identities_sync : IsSync (as_row (lists.the_field identity.the_row)) = search (list_shared.the_sync, sendable, as_row_sync, crosses, identity_shared.the_sync) in
    let bytes_sync : IsSync (as_row (lists.the_field u8)) = search (list_shared.the_sync, sendable, as_row_sync, crosses) in
    variants_sync command.enum
    (assumption (word_sync, number_sync, items_sync, mode_sync, provable_sync, part_sync, series_sync, clone_sync, points_sync, making_sync, place_sync, written_sync, flag_sync, vectors_sync, identities_sync, bytes_sync))
