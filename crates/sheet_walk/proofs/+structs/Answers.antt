use native.Mathlib.Omega.{arith}
use borrow.Author.Rules.{rules}
use Rattle.message_layout.proofs.Booleans.{flat_weaker, field_sound, field-inside, next-inside}
use Rattle.sheet_walk.proofs.StructInside.{all-inside}
use Rattle.bitio.specs.PutsLaws.{room_next}
use Rattle.sheet_walk.proofs.FlatMembers.{fields_start, fields_turn, fields_done}
use Rattle.sheet_walk.proofs.+structs.Goals as goal

pub put_struct-loop-j-init : goal.put_struct-loop-j-init
put_struct-loop-j-init t c = (search rules, search all-inside, search fields_start)

pub put_struct-put_field-p-requires : goal.put_struct-put_field-p-requires
put_struct-put_field-p-requires t c = let less = c.loop-j-test.true in
    let count = c.field_count-j-end.ensures.0 in
    let is = c.field-k.ensures in
    (omega arith, (c.loop-j.invariant.0, ((search (field_sound, c.args.reading.now.schema.accepted, count, less, is), c.requires.in_bounds), search (field-inside, c.loop-j.invariant.1, count, less, is))))

pub put_struct-flat_width-from-requires : goal.put_struct-flat_width-from-requires
put_struct-flat_width-from-requires t c = search (flat_weaker, field_sound, rules)

pub put_struct-loop-j-preserved : goal.put_struct-loop-j-preserved
put_struct-loop-j-preserved t c = let inv = c.loop-j.invariant in
    let less = c.loop-j-test.true in
    let count = c.field_count-j-end.ensures.0 in
    let is = c.field-k.ensures in
    let width = c.flat_width-from.ensures.0 in (
      search room_next,
      search (next-inside, inv.1, count, less, is, width),
      search (fields_turn, inv.2, inv.0, count, less, is, c.put_field-p.ensures, width),
    )

pub put_struct-returns : goal.put_struct-returns
put_struct-returns t c = search fields_done
