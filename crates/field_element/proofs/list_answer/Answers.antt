use native.Mathlib.Omega.{arith}
use Rattle.laws.specs.Parsed.{lists_length}
use Rattle.schema.specs.Parsed.{bytes_of}
use Rattle.field_element.proofs.OffsetCases.{offset_listed, past_listed, offset_there, offset_steps, offset_start, offset_sound}
use Rattle.field_element.proofs.list_answer.Goals as goal

pub element-requires : goal.element-requires
element-requires c = let list = c.args.list.now in
    omega (arith, list.listed c.args.i c.requires, lists_length (bytes_of list.reading.schema))

pub overflow_mul-reading : goal.overflow_mul-reading
overflow_mul-reading c = let list = c.args.list.now in
    record { fits = offset_steps _ _ _ _ list.arrival list.inside list.reading.within _ _ c.requires (omega (arith, c.if-a-j.false)) _ c.element.ensures _ c.in-OfObject.is }

pub overflow_add-a : goal.overflow_add-a
overflow_add-a c = let list = c.args.list.now in
    record { fits = offset_start _ _ _ _ list.arrival list.inside list.reading.within _ _ c.requires (omega (arith, c.if-a-j.false)) _ c.element.ensures _ c.in-OfObject.is }

pub offset_answer-requires : goal.offset_answer-requires
offset_answer-requires c = let list = c.args.list.now in
    (offset_sound _ _ list.reading.schema.accepted _ _ c.element.ensures _ c.in-OfObject.is, offset_there _ _ _ _ list.arrival list.inside list.reading.within _ _ c.requires (omega (arith, c.if-a-j.false)) _ c.element.ensures _ c.in-OfObject.is)

pub returns-then-a-j : goal.returns-then-a-j
returns-then-a-j c = let list = c.args.list.now in
    past_listed list.reading list.arrival _ _ _ c.requires c.if-a-j.true _ c.refusal.ensures

pub returns-in-OfObject : goal.returns-in-OfObject
returns-in-OfObject c = search offset_listed
