-- Moving a stored message over to new clients. 02, K12: "A stored message is moved over by reading its sheet and writing that with a
-- schema in which only the in-place flag of those unions is cleared". It is of the coding of 000: "The 32-bit coding keeps them."
use Rattle.std.specs.Prelude.{ℕ, ◌-◌, List, Bool, ◌&&◌, not, get_or, length, eqb}
use Rattle.coding.specs.Lists.{pick, every, run}
use Rattle.coding.specs.Bytes.{u48}
use Rattle.coding.specs.Packed.{table_count, kind_at, inplace_at, records, record_place, table_place}
use Rattle.coding.specs.Lawful.{lawful}
use Rattle.coding.specs.Message.{Written, refused, message, written, message_sheet}

-- ---- the schema
-- whether no record of table i begins at place p
unfoldable pub no_member : List ℕ → ℕ → ℕ → Bool
no_member b p i = every (λ j. not (eqb p (record_place 4 (table_place b i) j))) (records b 4 (table_place b i))

-- whether the record of a table's member begins at place p
unfoldable pub member_starts : List ℕ → ℕ → Bool
member_starts b p = not (every (no_member b p) (table_count b))

-- whether the record at place p is one of "those unions"
unfoldable pub inplace_union : List ℕ → ℕ → Bool
inplace_union b p = eqb (kind_at b p) 17 && inplace_at b p

-- the first byte of a record whose in-place flag is set, with that flag "cleared": it is the bit that counts 2 (Packed.inplace_at)
unfoldable pub flag_cleared : ℕ → ℕ
flag_cleared x = x - 2

-- the byte at place p, where "only the in-place flag of those unions is cleared"
unfoldable pub cleared_byte : List ℕ → ℕ → ℕ
cleared_byte b p = pick (member_starts b p && inplace_union b p) (flag_cleared (get_or b p 0)) (get_or b p 0)

-- "a schema in which only the in-place flag of those unions is cleared"
unfoldable pub without_inplace_unions : List ℕ → List ℕ
without_inplace_unions b = run (cleared_byte b) 0 (length b)

-- that schema, or refusal 1, "schema not lawful"
unfoldable pub clearing : List ℕ → Written
clearing b = pick (lawful u48 b) (message (without_inplace_unions b)) (refused 1)

-- ---- the message
-- "A stored message is moved over by reading its sheet and writing that with" this schema: what is written
unfoldable pub moved : List ℕ → List ℕ → Written
moved b m = written u48 (without_inplace_unions b) (message_sheet u48 b m)
