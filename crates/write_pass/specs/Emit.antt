-- The writer as a program does it: one pass over the slots of a message that stores into a buffer. `o` is the width of an offset
-- in bytes.
use Rattle.std.specs.Prelude.{ℕ}
use Rattle.coding.specs.Bytes.{le_bytes}
use Rattle.coding.specs.Cells.{width, chain, Slots, pack_bits}
use Rattle.coding.specs.Cells.Slots.{end, bytes, bit, reference, in_place, part}
use Rattle.write_measure.specs.Survey.{capped}
use Rattle.write_store.specs.State.{State, put_bytes, put_bit, enter_object, leave_object, enter_content, leave_content, enter_part, leave_part}

unfoldable pub emit_slots : ℕ → State → Slots → State
emit_slots o st end = st
emit_slots o st (bytes bs t) = emit_slots o (put_bytes bs st) t
emit_slots o st (bit x t) = emit_slots o (put_bit x st) t
emit_slots o st (reference k t) =
    emit_slots o
    (leave_object (put_bytes (le_bytes o st.next) st)
    (emit_slots o (enter_object (width o (pack_bits 0 k)) (capped (chain o (pack_bits 0 k))) (put_bytes (le_bytes o st.next) st)) k))
    t
emit_slots o st (in_place k t) = emit_slots o (leave_content st (emit_slots o (enter_content (width o (pack_bits 0 k)) st) k)) t
emit_slots o st (part k t) = emit_slots o (leave_part st (emit_slots o (enter_part st) k)) t
