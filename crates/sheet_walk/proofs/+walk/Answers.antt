use mathlib.Core.Path.{sym, ◌∙◌, ap}
use mathlib.Core.Bool.{not}
use native.Mathlib.Omega.{arith}
use borrow.Author.Rules.{rules}
use borrow.Fn.PlainCycle.{is}
use Rattle.bitio.specs.PutsLaws.{room_next}
use Rattle.schema.specs.Records.{record_whole}
use Rattle.message_step.proofs.Inside.{union-counted}
use Rattle.message_step.proofs.MemberCases.{sits}
use Rattle.sheet_values.proofs.Remaining.{remaining_over}
use Rattle.sheet_walk.proofs.Objects.{placed_low, content-blob, content_list, content-table, content-direct, table_counted, table-inside, table_readable, list_counted, list_inside, list_readable, direct-inside, direct_readable, member_sound-of, object_none, header_there, content_readable, object-content}
use Rattle.sheet_walk.proofs.Values.{present_puts, choice_none, choice-unknown, choice-known, case_readable}
use Rattle.sheet_walk.proofs.Parts.{members_turn, members-rest, member_readable, members_done, coded_next, coded_puts, elements-rest, elements_done, element_sound, list_few, list_start, elements-inside, elements-given}
use Rattle.sheet_walk.proofs.Blobs.{blob-header, blob-inside, blob-puts}
use Rattle.sheet_walk.proofs.Runs.{list_bytes, element-flat, list_flats}
use Rattle.sheet_walk.proofs.References.{run_of_unions, offset_readable, absent_turn, offset_turn, offsets-inside, offsets-given, list_offsets, chosen_readable, choices_turn, choices-inside, choices-given, list-choices}
use Rattle.sheet_walk.proofs.CodedMembers.{coded_laid, coded-member}
use Rattle.sheet_walk.proofs.Directs.{directs_over, directs_done, direct-first, direct-rest, direct_turn}
use Rattle.sheet_walk.proofs.Leads.{lead_above, flat-member, lead_next, lead_past, chosen-given, lead-chosen, lead-absent, lead-given, lead-present, lead-counted, union-inside, object-inside, lead_laid}
use Rattle.sheet_walk.proofs.Placed.{placed_readable, placed_puts}
use Rattle.sheet_walk.proofs.+walk.Goals as goal

pub put_choices-returns-then-p-gt-MOST : goal.put_choices-returns-then-p-gt-MOST
put_choices-returns-then-p-gt-MOST t c = search remaining_over

pub put_choices-u16_in-c-requires : goal.put_choices-u16_in-c-requires
put_choices-u16_in-c-requires t c = omega (arith, run_of_unions _ _ c.union_size-w.ensures _ _ _ c.loop-j-test.true _ c.requires.in_bounds.1)

pub put_choices-offset_in-x-requires : goal.put_choices-offset_in-x-requires
put_choices-offset_in-x-requires t c = (c.args.reading.now.schema.coded, omega (arith, run_of_unions _ _ c.union_size-w.ensures _ _ _ c.loop-j-test.true _ c.requires.in_bounds.1))

pub put_choices-put_union-p-requires : goal.put_choices-put_union-p-requires
put_choices-put_union-p-requires t c = let inv = c.loop-j.invariant in
    (omega arith, (inv.0, (c.requires.in_bounds.0, search (chosen_readable, c.loop-j-test.true, inv.1, c.union_size-w.ensures, c.u16_in-c.ensures, c.offset_in-x.ensures.0))))

pub put_choices-loop-j-preserved : goal.put_choices-loop-j-preserved
put_choices-loop-j-preserved t c = let inv = c.loop-j.invariant in
    let less = c.loop-j-test.true in
    let put = c.put_union-p.ensures in (
      search (room_next, inv.0, put),
      search (elements-rest, less, inv.1),
      search (choices_turn, less, inv.1, c.union_size-w.ensures, c.u16_in-c.ensures, c.offset_in-x.ensures.0, inv.2, inv.0, put),
    )

pub put_choices-returns : goal.put_choices-returns
put_choices-returns t c = search elements_done

pub put_content-put_list-requires : goal.put_content-put_list-requires
put_content-put_list-requires t c = (omega arith, (c.requires.room, (search (list_counted, c.requires.content_readable, c.in-List.is, c.from.ensures), (search (list_inside, c.requires.content_readable, c.in-List.is, c.from.ensures), search (list_readable, c.requires.content_readable, c.in-List.is, c.from.ensures)))))

pub put_content-put_table-requires : goal.put_content-put_table-requires
put_content-put_table-requires t c = (omega arith, (c.requires.room, ((search (table_counted, c.requires.content_readable, c.in-Table.is, c.from-in-Table.ensures), search (table-inside, c.requires.content_readable, c.in-Table.is, c.from-in-Table.ensures)), search (table_readable, c.requires.content_readable, c.in-Table.is, c.from-in-Table.ensures))))

pub put_content-put_directs-requires : goal.put_content-put_directs-requires
put_content-put_directs-requires t c = (search rules, (search rules, (search direct-inside, search direct_readable)))

pub put_content-returns-in-Text : goal.put_content-returns-in-Text
put_content-returns-in-Text t c = search content-blob

pub put_content-returns-in-List : goal.put_content-returns-in-List
put_content-returns-in-List t c = search content_list

pub put_content-returns-in-Table : goal.put_content-returns-in-Table
put_content-returns-in-Table t c = search content-table

pub put_content-returns-in-DirectList : goal.put_content-returns-in-DirectList
put_content-returns-in-DirectList t c = search content-direct

pub put_directs-returns-then-p-gt-MOST : goal.put_directs-returns-then-p-gt-MOST
put_directs-returns-then-p-gt-MOST t c = search directs_over

pub put_directs-put_object-p-requires : goal.put_directs-put_object-p-requires
put_directs-put_object-p-requires t c = let inv = c.loop-j.invariant in
    (omega arith, (inv.0, direct-first _ _ _ _ _ _ _ _ _ c.loop-j-test.true inv.1))

pub put_directs-loop-j-preserved : goal.put_directs-loop-j-preserved
put_directs-loop-j-preserved t c = let inv = c.loop-j.invariant in
    let less = c.loop-j-test.true in
    let put = c.put_object-p.ensures in (
      search (room_next, inv.0, put),
      search (direct-rest, less, inv.1),
      search (direct_turn, less, inv.1, inv.2, inv.0, put),
    )

pub put_directs-returns : goal.put_directs-returns
put_directs-returns t c = search directs_done

pub put_lead-returns-then-part-c : goal.put_lead-returns-then-part-c
put_lead-returns-then-part-c t c = search lead_past

pub put_lead-u16_in-i-requires : goal.put_lead-u16_in-i-requires
put_lead-u16_in-i-requires t c = omega (arith, union-inside _ c.kind_at-k.result _ c.is_union_kind.ensures _ c.lead_width.ensures.0 _ _ _ _ c.args.fixed.now.inside c.if-part-c.false c.if-is_union_kind.true)

pub put_lead-offset_in-x-requires : goal.put_lead-offset_in-x-requires
put_lead-offset_in-x-requires t c = (c.args.fixed.now.reading.now.schema.coded, omega (arith, union-inside _ c.kind_at-k.result _ c.is_union_kind.ensures _ c.lead_width.ensures.0 _ _ _ _ c.args.fixed.now.inside c.if-part-c.false c.if-is_union_kind.true))

pub put_lead-put_union-requires : goal.put_lead-put_union-requires
put_lead-put_union-requires t c = let kind = c.kind_at-k.ensures.0 in
    let told = c.is_union_kind.ensures in
    let chosen = c.if-is_union_kind.true in
    let argument = c.argument_at.ensures in
    let index = c.from-u.ensures in (omega arith, (c.requires.room, (search (lead-counted, kind, told, chosen, c.requires.sound.1, argument, index), search (chosen-given, kind, c.requires.length_in_bounds.0, c.lead_width.ensures.0, c.if-part-c.false, c.lead_width.ensures.1, c.inplace_at-inplace.ensures, told, chosen, argument, index, c.u16_in-i.ensures, c.offset_in-x.ensures.0, c.place_of.ensures, c.requires.lead_readable))))

pub put_lead-returns-then-is_union_kind : goal.put_lead-returns-then-is_union_kind
put_lead-returns-then-is_union_kind t c = search (lead-chosen, c.kind_at-k.ensures.0, c.requires.length_in_bounds.0, c.lead_width.ensures.0, c.if-part-c.false, c.lead_width.ensures.1, c.inplace_at-inplace.ensures, c.is_union_kind.ensures, c.if-is_union_kind.true, c.argument_at.ensures, c.from-u.ensures, c.u16_in-i.ensures, c.offset_in-x.ensures.0, c.place_of.ensures, c.put_union.ensures)

pub put_lead-offset_in-x-requires-2 : goal.put_lead-offset_in-x-requires-2
put_lead-offset_in-x-requires-2 t c = (c.args.fixed.now.reading.now.schema.coded, object-inside _ c.kind_at-k.result _ c.is_union_kind.ensures _ c.lead_width.ensures.0 _ _ _ _ c.args.fixed.now.inside c.if-part-c.false c.if-is_union_kind.false)

pub put_lead-returns-then-x-eq0 : goal.put_lead-returns-then-x-eq0
put_lead-returns-then-x-eq0 t c = lead-absent _ _ _ _ c.kind_at-k.ensures.0 c.requires.length_in_bounds.0 _ c.lead_width.ensures.0 _ _ _ _ _ c.if-part-c.false c.lead_width.ensures.1 _ c.inplace_at-inplace.ensures _ c.is_union_kind.ensures c.if-is_union_kind.false _ c.offset_in-x-2.ensures.0 c.if-x-eq0.true _ _ _ _ c.write-then-x-eq0.ensures

pub put_lead-content_of-blob-requires : goal.put_lead-content_of-blob-requires
put_lead-content_of-blob-requires t c = blob-header _ _ _ _ _ _ (lead-given _ _ _ _ c.kind_at-k.ensures.0 c.requires.length_in_bounds.0 _ c.lead_width.ensures.0 _ _ _ _ _ c.if-part-c.false c.lead_width.ensures.1 _ c.inplace_at-inplace.ensures _ c.is_union_kind.ensures c.if-is_union_kind.false _ c.offset_in-x-2.ensures.0 c.if-x-eq0.false _ c.object_at-ob.ensures _ c.place_of-place.ensures c.requires.lead_readable) (sym c.is_blob.ensures ∙ c.if-is_blob.true)

pub put_lead-put_blob-requires-clause-n_in_bounds : goal.put_lead-put_blob-requires-clause-n_in_bounds
put_lead-put_blob-requires-clause-n_in_bounds t c = (blob-inside _ _ _ _ _ _ (lead-given _ _ _ _ c.kind_at-k.ensures.0 c.requires.length_in_bounds.0 _ c.lead_width.ensures.0 _ _ _ _ _ c.if-part-c.false c.lead_width.ensures.1 _ c.inplace_at-inplace.ensures _ c.is_union_kind.ensures c.if-is_union_kind.false _ c.offset_in-x-2.ensures.0 c.if-x-eq0.false _ c.object_at-ob.ensures _ c.place_of-place.ensures c.requires.lead_readable) (sym c.is_blob.ensures ∙ c.if-is_blob.true) _ _ c.content_of-blob.ensures.0 c.content_of-blob.ensures.1, c.args.fixed.now.reading.now.within)

pub put_lead-returns-then-is_blob : goal.put_lead-returns-then-is_blob
put_lead-returns-then-is_blob t c = lead-present _ _ _ _ c.kind_at-k.ensures.0 c.requires.length_in_bounds.0 _ c.lead_width.ensures.0 _ _ _ _ _ c.if-part-c.false c.lead_width.ensures.1 _ c.inplace_at-inplace.ensures _ c.is_union_kind.ensures c.if-is_union_kind.false _ c.offset_in-x-2.ensures.0 c.if-x-eq0.false _ c.object_at-ob.ensures _ c.place_of-place.ensures _ _ _ _ (blob-puts _ _ _ _ _ _ (lead-given _ _ _ _ c.kind_at-k.ensures.0 c.requires.length_in_bounds.0 _ c.lead_width.ensures.0 _ _ _ _ _ c.if-part-c.false c.lead_width.ensures.1 _ c.inplace_at-inplace.ensures _ c.is_union_kind.ensures c.if-is_union_kind.false _ c.offset_in-x-2.ensures.0 c.if-x-eq0.false _ c.object_at-ob.ensures _ c.place_of-place.ensures c.requires.lead_readable) (sym c.is_blob.ensures ∙ c.if-is_blob.true) _ _ c.content_of-blob.ensures.0 c.content_of-blob.ensures.1 _ _ _ _ c.put_blob.ensures)

pub put_lead-put_present-requires : goal.put_lead-put_present-requires
put_lead-put_present-requires t c = (omega arith, (c.requires.room, lead-given _ _ _ _ c.kind_at-k.ensures.0 c.requires.length_in_bounds.0 _ c.lead_width.ensures.0 _ _ _ _ _ c.if-part-c.false c.lead_width.ensures.1 _ c.inplace_at-inplace.ensures _ c.is_union_kind.ensures c.if-is_union_kind.false _ c.offset_in-x-2.ensures.0 c.if-x-eq0.false _ c.object_at-ob.ensures _ c.place_of-place.ensures c.requires.lead_readable))

pub put_lead-returns : goal.put_lead-returns
put_lead-returns t c = lead-present _ _ _ _ c.kind_at-k.ensures.0 c.requires.length_in_bounds.0 _ c.lead_width.ensures.0 _ _ _ _ _ c.if-part-c.false c.lead_width.ensures.1 _ c.inplace_at-inplace.ensures _ c.is_union_kind.ensures c.if-is_union_kind.false _ c.offset_in-x-2.ensures.0 c.if-x-eq0.false _ c.object_at-ob.ensures _ c.place_of-place.ensures _ _ _ _ c.put_present.ensures

pub put_list-returns-in-OfFlat-Integer-default-eq1 : goal.put_list-returns-in-OfFlat-Integer-default-eq1
put_list-returns-in-OfFlat-Integer-default-eq1 t c = let arm = c.in-OfFlat-Integer-default-eq1 in
    list_bytes _ _ _ _ _ _ _ c.requires.list_inside _ c.element-k.ensures _ arm.is _ _ (rw arm.is at arm.field-0-is) (sym arm.field-0-1-is ∙ arm.field-0-1-test) _ _ _ _ c.write_blob.ensures

pub put_list-put_flats-requires-clause-flat_sound : goal.put_list-put_flats-requires-clause-flat_sound
put_list-put_flats-requires-clause-flat_sound t c = (element-flat _ _ c.args.reading.now.schema.accepted _ _ c.element-k.ensures _ c.in-OfFlat.is, list_start _ _ _ c.requires.list_inside c.args.reading.now.within, search (list_few, c.args.reading.now.schema.coded, c.args.reading.now.schema.accepted, c.requires.list_inside, c.args.reading.now.within))

pub put_list-put_references-requires : goal.put_list-put_references-requires
put_list-put_references-requires t c = let element = c.element-k.ensures in
    let is = c.in-OfObject.is in (omega arith, (search (room_next, c.requires.room, c.write-p.ensures), (offsets-inside _ _ _ _ is _ _ _ (elements-inside _ _ _ _ element _ _ _ c.requires.list_inside), offsets-given _ _ _ _ is _ _ _ _ (elements-given _ _ _ _ element _ _ _ _ c.requires.list_readable))))

pub put_list-put_choices-requires : goal.put_list-put_choices-requires
put_list-put_choices-requires t c = let element = c.element-k.ensures in
    let is = c.in-OfUnion.is in
    let index = c.from.ensures in (omega arith, (search (room_next, c.requires.room, c.write-p.ensures), ((union-counted _ _ _ _ (element_sound _ _ c.args.reading.now.schema.accepted _ _ element) is index, choices-inside _ _ _ _ _ is index _ _ _ (elements-inside _ _ _ _ element _ _ _ c.requires.list_inside)), choices-given _ _ _ _ _ is index _ _ _ _ (elements-given _ _ _ _ element _ _ _ _ c.requires.list_readable))))

pub put_list-returns-in-OfFlat : goal.put_list-returns-in-OfFlat
put_list-returns-in-OfFlat t c = search list_flats

pub put_list-returns-in-OfObject : goal.put_list-returns-in-OfObject
put_list-returns-in-OfObject t c = search list_offsets

pub put_list-returns-in-OfUnion : goal.put_list-returns-in-OfUnion
put_list-returns-in-OfUnion t c = search list-choices

pub put_object-returns-then-d-eq0 : goal.put_object-returns-then-d-eq0
put_object-returns-then-d-eq0 t c = search object_none

pub put_object-content_of-part-requires : goal.put_object-content_of-part-requires
put_object-content_of-part-requires t c = search header_there

pub put_object-put_content-requires : goal.put_object-put_content-requires
put_object-put_content-requires t c = let some = c.if-d-eq0.false in
    let place = c.placed-at.ensures in (omega (arith, some), (c.requires.room, (search (placed_low, c.requires.object_readable, some, c.args.reading.now.within, place), search (content_readable, c.requires.object_readable, some, place, c.content_of-part.ensures.0, c.content_of-part.ensures.1))))

pub put_object-returns : goal.put_object-returns
put_object-returns t c = search object-content

pub put_present-returns : goal.put_present-returns
put_present-returns t c = search present_puts

pub put_references-returns-then-p-gt-MOST : goal.put_references-returns-then-p-gt-MOST
put_references-returns-then-p-gt-MOST t c = search remaining_over

pub put_references-loop-j-preserved-then-x-eq0 : goal.put_references-loop-j-preserved-then-x-eq0
put_references-loop-j-preserved-then-x-eq0 t c = let inv = c.loop-j.invariant in
    let less = c.loop-j-test.true in
    let put = c.write-p.ensures in (
      search (room_next, inv.0, put),
      search (elements-rest, less, inv.1),
      search (absent_turn, less, inv.1, c.offset_in-x.ensures.0, c.if-x-eq0.true, inv.2, inv.0, put),
    )

pub put_references-put_present-p-requires : goal.put_references-put_present-p-requires
put_references-put_present-p-requires t c = let inv = c.loop-j.invariant in
    (omega arith, (inv.0, search (offset_readable, c.loop-j-test.true, inv.1, c.offset_in-x.ensures.0, c.if-x-eq0.false)))

pub put_references-loop-j-preserved : goal.put_references-loop-j-preserved
put_references-loop-j-preserved t c = let inv = c.loop-j.invariant in
    let less = c.loop-j-test.true in
    let put = c.put_present-p.ensures in (
      search (room_next, inv.0, put),
      search (elements-rest, less, inv.1),
      search (offset_turn, less, inv.1, c.offset_in-x.ensures.0, c.if-x-eq0.false, inv.2, inv.0, put),
    )

pub put_references-returns : goal.put_references-returns
put_references-returns t c = search elements_done

pub put_table-returns-then-p-gt-MOST : goal.put_table-returns-then-p-gt-MOST
put_table-returns-then-p-gt-MOST t c = search remaining_over

pub put_table-code_at-requires : goal.put_table-code_at-requires
put_table-code_at-requires t c = record_whole _ _ _ c.requires.in_bounds.0 _ c.member_count-j-end.ensures.0 c.loop-j-test.true _ c.table_place-first.ensures _ c.record_place-at.ensures.1

pub put_table-loop-j-preserved-in-Some : goal.put_table-loop-j-preserved-in-Some
put_table-loop-j-preserved-in-Some t c = let inv = c.loop-j.invariant in
    let less = c.loop-j-test.true in
    let count = c.member_count-j-end.ensures.0 in
    let code = c.in-Some.ensures in
    let next = c.behind_coded-c.ensures in
    let is = coded-member _ _ _ c.requires.in_bounds.0 _ count less _ c.table_place-first.ensures _ c.record_place-at.ensures.0 in (
      search (room_next, inv.0, c.put_coded-p.ensures),
      coded_laid _ _ _ _ code.1 inv.1 next,
      members-rest _ _ _ _ _ _ _ _ _ _ count less inv.2 _ is _ (coded_next _ _ code.0 _ _ _ _ next),
      members_turn _ _ _ _ _ _ _ _ _ _ count less inv.2 _ is _ (coded_next _ _ code.0 _ _ _ _ next) _ _ _ _ _ _ _ inv.3 inv.0 (coded_puts _ _ code.0 _ _ _ _ _ _ _ _ _ _ _ c.put_coded-p.ensures),
    )

pub put_table-kind_at-k-requires : goal.put_table-kind_at-k-requires
put_table-kind_at-k-requires t c = record_whole _ _ _ c.requires.in_bounds.0 _ c.member_count-j-end.ensures.0 c.loop-j-test.true _ c.table_place-first.ensures _ c.record_place-at.ensures.1

pub put_table-put_lead-p-requires : goal.put_table-put_lead-p-requires
put_table-put_lead-p-requires t c = let inv = c.loop-j.invariant in
    let less = c.loop-j-test.true in
    let count = c.member_count-j-end.ensures in
    let block = c.table_place-first.ensures in
    let place = c.record_place-at.ensures in
    let is = coded-member _ _ _ c.requires.in_bounds.0 _ count.0 less _ block _ place.0 in
    let above = lead_above _ _ _ c.kind_at-k.ensures.0 _ c.is_flat_kind.ensures (ap not c.if-not-is_flat_kind.true) in (omega arith, (inv.0, ((record_whole _ _ _ c.requires.in_bounds.0 _ count.0 less _ block _ place.1, (member_sound-of _ _ c.args.reading.now.schema.accepted _ _ _ is (omega (arith, count.0, less))).kind), ((above, omega (arith, inv.1.end, count.1, less)), search (member_readable, count.0, less, inv.2, is)))))

pub put_table-loop-j-preserved-then-not-is_flat_kind : goal.put_table-loop-j-preserved-then-not-is_flat_kind
put_table-loop-j-preserved-then-not-is_flat_kind t c = let inv = c.loop-j.invariant in
    let less = c.loop-j-test.true in
    let count = c.member_count-j-end.ensures.0 in
    let block = c.table_place-first.ensures in
    let place = c.record_place-at.ensures.0 in
    let kind = c.kind_at-k.ensures.0 in
    let width = c.lead_width.ensures in
    let put = c.put_lead-p.ensures in
    let is = coded-member _ _ _ c.requires.in_bounds.0 _ count less _ block _ place in
    let above = lead_above _ _ _ kind _ c.is_flat_kind.ensures (ap not c.if-not-is_flat_kind.true) in
    let next = lead_next _ _ _ _ kind above _ width.0 _ _ c.after_bytes-c.ensures.0 in (
      search (room_next, inv.0, put),
      lead_laid _ _ _ _ inv.1 width.2 c.after_bytes-c.ensures.0,
      search (members-rest, count, less, inv.2, is, next),
      search (members_turn, count, less, inv.2, is, next, inv.3, inv.0, put),
    )

pub put_table-member_at-r-requires : goal.put_table-member_at-r-requires
put_table-member_at-r-requires t c = record_whole _ _ _ c.requires.in_bounds.0 _ c.member_count-j-end.ensures.0 c.loop-j-test.true _ c.table_place-first.ensures _ c.record_place-at.ensures.1

pub put_table-place_member-placed-requires-clause-sound : goal.put_table-place_member-placed-requires-clause-sound
put_table-place_member-placed-requires-clause-sound t c = member_sound-of _ _ c.args.reading.now.schema.accepted _ _ _ (c.member_at-r.ensures ∙ coded-member _ _ _ c.requires.in_bounds.0 _ c.member_count-j-end.ensures.0 c.loop-j-test.true _ c.table_place-first.ensures _ c.record_place-at.ensures.0) (omega (arith, c.member_count-j-end.ensures.0, c.loop-j-test.true))

pub put_table-put_placed-p-requires-clause-sound : goal.put_table-put_placed-p-requires-clause-sound
put_table-put_placed-p-requires-clause-sound t c = (member_sound-of _ _ c.args.reading.now.schema.accepted _ _ _ (c.member_at-r.ensures ∙ coded-member _ _ _ c.requires.in_bounds.0 _ c.member_count-j-end.ensures.0 c.loop-j-test.true _ c.table_place-first.ensures _ c.record_place-at.ensures.0) (omega (arith, c.member_count-j-end.ensures.0, c.loop-j-test.true))).kind

pub put_table-put_placed-p-requires-clause-sits : goal.put_table-put_placed-p-requires-clause-sits
put_table-put_placed-p-requires-clause-sits t c = let placed = c.place_member-placed.ensures in
    sits _ _ c.args.reading.now.message.now c.args.part.start c.args.part.length _ _ _ _ placed.1 (omega (arith, c.loop-j.invariant.1.end, c.member_count-j-end.ensures.1, c.loop-j-test.true)) placed.3

pub put_table-put_placed-p-requires-clause-value_readable : goal.put_table-put_placed-p-requires-clause-value_readable
put_table-put_placed-p-requires-clause-value_readable t c = placed_readable _ _ _ _ _ _ _ _ _ c.place_member-placed.ensures.0 (member_readable _ _ _ _ _ _ _ _ _ _ c.member_count-j-end.ensures.0 c.loop-j-test.true c.loop-j.invariant.2 _ (c.member_at-r.ensures ∙ coded-member _ _ _ c.requires.in_bounds.0 _ c.member_count-j-end.ensures.0 c.loop-j-test.true _ c.table_place-first.ensures _ c.record_place-at.ensures.0))

pub put_table-loop-j-preserved : goal.put_table-loop-j-preserved
put_table-loop-j-preserved t c = let inv = c.loop-j.invariant in
    let less = c.loop-j-test.true in
    let count = c.member_count-j-end.ensures.0 in
    let placed = c.place_member-placed.ensures in
    let stands = placed.1 in
    let laid = stands.laid in
    let before = inv.1.end in
    let behind = laid.end in
    let put = c.put_placed-p.ensures in
    let flat = flat-member _ _ _ c.kind_at-k.ensures.0 _ c.is_flat_kind.ensures (ap not c.if-not-is_flat_kind.false) _ c.member_at-r.ensures in
    let is = c.member_at-r.ensures ∙ coded-member _ _ _ c.requires.in_bounds.0 _ count less _ c.table_place-first.ensures _ c.record_place-at.ensures.0 in (
      search (room_next, inv.0, put),
      record { end = omega arith; byte = laid.byte; bit = laid.bit },
      members-rest _ _ _ _ _ _ _ _ _ _ count less inv.2 _ is _ stands.next_is,
      members_turn _ _ _ _ _ _ _ _ _ _ count less inv.2 _ is _ stands.next_is _ _ _ _ _ _ _ inv.3 inv.0 (placed_puts _ _ _ _ _ _ _ _ _ placed.0 flat _ _ _ _ put),
    )

pub put_table-returns : goal.put_table-returns
put_table-returns t c = search members_done

pub put_union-returns-then-c-eq0 : goal.put_union-returns-then-c-eq0
put_union-returns-then-c-eq0 t c = search choice_none

pub put_union-returns-then-case_count-c : goal.put_union-returns-then-case_count-c
put_union-returns-then-case_count-c t c = search choice-unknown

pub put_union-put_object-requires : goal.put_union-put_object-requires
put_union-put_object-requires t c = (omega arith, (search (room_next, c.requires.room, c.put_marked-p.ensures), search (case_readable, c.requires.step_readable, c.if-c-eq0.false, c.case_count.ensures.0, c.if-case_count-c.false, c.union_case-ob.ensures)))

pub put_union-returns : goal.put_union-returns
put_union-returns t c = search choice-known
