-- What the code that stores answers, against the definitions: the places behind what was stored.
use Rattle.std.specs.Prelude.{ℕ, ◌+◌, ◌-◌, ◌^◌, ◌≤◌, ◌<◌, ◌≡◌, List}
use Rattle.write_measure.specs.Survey.{capped}
use Rattle.write_store.specs.State.{State}
use Rattle.write_store.specs.declared.Places.{Places}

-- the places and the buffer
abbrev pub state_of : Places → List ℕ → State
state_of c out = record { at = c.at; last = c.last; free = c.free; held = c.held; tail = c.tail; next = c.next; out = out }

-- ---- moves of the places
unfoldable pub forward : ℕ → Places → Places
forward n c = record { at = c.at + n; last = c.last; free = c.free; held = c.held; tail = c.tail; next = c.next }

unfoldable pub entered_object : ℕ → ℕ → Places → Places
entered_object w chain c =
    record { at = c.next; last = 0; free = 0; held = 0; tail = capped (c.next + w); next = capped (c.next + w + chain) }

unfoldable pub entered_content : ℕ → Places → Places
entered_content w c = record { at = c.tail; last = 0; free = 0; held = 0; tail = capped (c.tail + w); next = c.next }

unfoldable pub left_object : Places → Places → Places
left_object c inner =
    record { at = c.at; last = c.last; free = c.free; held = c.held; tail = c.tail; next = inner.next }

unfoldable pub left_content : Places → Places → Places
left_content c inner =
    record { at = c.at; last = c.last; free = c.free; held = c.held; tail = inner.tail; next = inner.next }

unfoldable pub entered_part : Places → Places
entered_part c = record { at = c.at; last = 0; free = 0; held = 0; tail = c.tail; next = c.next }

unfoldable pub left_part : Places → Places → Places
left_part c inner =
    record { at = inner.at; last = c.last; free = c.free; held = c.held; tail = inner.tail; next = inner.next }

-- ---- numbers that fit
-- what the last bool byte holds has the bits that are not free
pub record HeldOk (c : Places) : Type 0 where
  pub free : c.free ≤ 7
  pub held : c.held < 2 ^ (8 - c.free)

-- ---- answers
-- n bytes were put behind the places c: the state is that of the definition
pub record Stood (n : ℕ) (put now : State) (c r : Places) : Type 0 where
  pub is : now ≡ put
  pub at : r.at ≡ c.at + n
  pub free : r.free ≡ c.free
  pub held : r.held ≡ c.held
  pub tail : r.tail ≡ c.tail
  pub next : r.next ≡ c.next

-- a bit was put behind the places c
pub record BitPut (put now : State) (c r : Places) : Type 0 where
  pub is : now ≡ put
  pub bool : HeldOk r
  pub at : r.at ≤ c.at + 1
  pub tail : r.tail ≡ c.tail
  pub next : r.next ≡ c.next
