-- Where a message goes on and what its buffer holds, and what a store of bytes or of a bit makes of it. Each bit is added to the
-- last bool byte as it comes.
use Rattle.std.specs.Prelude.{ℕ, zero, suc, ◌+◌, ◌*◌, ◌-◌, ◌^◌, List, [], ◌∷◌, length, set}
use Rattle.std.proofs.lemmas.List.Edits.{sets}
use Rattle.coding.specs.Bytes.{le_bytes}
use Rattle.write_measure.specs.Survey.{capped}

-- where the message goes on: the next byte of the present sequence; its last bool byte, how many bits are free there, and
-- what the byte holds so far; where the next content in place starts, where the next object starts; and the buffer
pub record State : Type 0 where
  pub at : ℕ
  pub last : ℕ
  pub free : ℕ
  pub held : ℕ
  pub tail : ℕ
  pub next : ℕ
  pub out : List ℕ

unfoldable pub put_bytes : List ℕ → State → State
put_bytes bs st =
    record {
      at = st.at + length bs;
      last = st.last;
      free = st.free;
      held = st.held;
      tail = st.tail;
      next = st.next;
      out = sets st.out st.at bs;
    }

-- a byte, and a number of w bytes
unfoldable pub put_byte : ℕ → State → State
put_byte x st = put_bytes (x ∷ []) st

unfoldable pub put_number : ℕ → ℕ → State → State
put_number w x st = put_bytes (le_bytes w x) st

-- a bit into a new byte, or into the last bool byte
unfoldable pub put_bit_at : ℕ → ℕ → State → State
put_bit_at x zero st =
    record { at = st.at + 1; last = st.at; free = 7; held = x; tail = st.tail; next = st.next; out = set st.out st.at x }
put_bit_at x (suc f) st =
    record {
      at = st.at;
      last = st.last;
      free = f;
      held = st.held + x * 2 ^ (7 - f);
      tail = st.tail;
      next = st.next;
      out = set st.out st.last (st.held + x * 2 ^ (7 - f));
    }

unfoldable pub put_bit : ℕ → State → State
put_bit x st = put_bit_at x st.free st

-- eight bits that fill a new byte
unfoldable pub put_octet : ℕ → State → State
put_octet y st = record { at = st.at + 1; last = st.at; free = 0; held = y; tail = st.tail; next = st.next; out = set st.out st.at y }

-- an object of w bytes with c bytes in place behind it; and back where it is referred to. Places count to one past the size.
unfoldable pub enter_object : ℕ → ℕ → State → State
enter_object w c st =
    record {
      at = st.next;
      last = 0;
      free = 0;
      held = 0;
      tail = capped (st.next + w);
      next = capped (st.next + w + c);
      out = st.out;
    }

unfoldable pub leave_object : State → State → State
leave_object st inner =
    record {
      at = st.at;
      last = st.last;
      free = st.free;
      held = st.held;
      tail = st.tail;
      next = inner.next;
      out = inner.out;
    }

-- a content of w bytes in place; and back where its length stands
unfoldable pub enter_content : ℕ → State → State
enter_content w st =
    record { at = st.tail; last = 0; free = 0; held = 0; tail = capped (st.tail + w); next = st.next; out = st.out }

unfoldable pub leave_content : State → State → State
leave_content st inner =
    record {
      at = st.at;
      last = st.last;
      free = st.free;
      held = st.held;
      tail = inner.tail;
      next = inner.next;
      out = inner.out;
    }

-- a part that stands here, with bool bytes of its own; and behind it
unfoldable pub enter_part : State → State
enter_part st = record { at = st.at; last = 0; free = 0; held = 0; tail = st.tail; next = st.next; out = st.out }

unfoldable pub leave_part : State → State → State
leave_part st inner =
    record {
      at = inner.at;
      last = st.last;
      free = st.free;
      held = st.held;
      tail = inner.tail;
      next = inner.next;
      out = inner.out;
    }
