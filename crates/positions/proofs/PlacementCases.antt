-- A member by its row: the slots that its numbers give are those of the layout rule.
use mathlib.Core.Path.{◌≡◌, refl, sym, ap, ap₂, ◌∙◌, subst}
use mathlib.Core.Bool.{Bool, true, false}
use mathlib.Core.List.{List, ◌++◌}
use Prim.Native.Nat.{ℕ, ◌+◌, ◌*◌, ◌/◌, ◌%◌, ◌<◌, ◌≤◌}
use native.Mathlib.Omega.{arith}
use lib.ListN.{length, take, length-append}
use Rattle.coding.specs.Bytes.{le}
use Rattle.coding.specs.Schema as Sc
use Rattle.coding.specs.Packed as P
use Rattle.coding.specs.Layout as L
use Rattle.coding.specs.Positions as Po
use Rattle.coding.specs.declared.Member.{Member}
use Rattle.coding.specs.declared.Cursor.{Cursor}
use Rattle.coding.specs.declared.Slot.{Slot}
use Rattle.coding.specs.declared.Placement.{Placement}
use Rattle.coding.specs.declared.Row.{Row}
use Rattle.laws.specs.Parsed.{tables-length}
use Rattle.laws.specs.PositionRows.{member_total, RowIn, row_bytes-length, member-rows-at, row_in}
use Rattle.laws.specs.RowBounds.{RowSmall, SlotSmall, PlacedSmall, row_small, placed_small-at}
use Rattle.laws.specs.RowReads.{value_read, flag-read, size-read}
use Rattle.schema.specs.Directory.{Accepted, accepted_sound}
use Rattle.wire.specs.Numbers.{Number}
use Rattle.wire.specs.Sizes.{Width}
use Rattle.positions.specs.Placements.{slot_at, placement_in, cursor_at, ByTable}

-- ---- slots
slot_same : (a b z a' b' z' : ℕ) → a ≡ a' → b ≡ b' → z ≡ z'
    → ◌≡◌ {A = Slot} (record { at = a; bit = b; size = z }) (record { at = a'; bit = b'; size = z' })
slot_same a b z a' b' z' ea eb ez =
    ap₂ (λ (x y : ℕ). record { at = x; bit = y; size = z }) ea eb ∙ ap (λ (w : ℕ). record { at = a'; bit = b'; size = w }) ez

pub slot_is : (bit size a l : ℕ) → a ≡ bit / 8 → l ≡ bit % 8 → record { at = a; bit = l; size = size } ≡ slot_at bit size
unfolding slot_at
slot_is bit size a l ea el = slot_same a l size (bit / 8) (bit % 8) size ea el refl

-- the slot of a slot's first bit
slot_back : (s : Slot) (size : ℕ) → s.bit < 8 → size ≡ s.size → slot_at (Po.first_bit s) size ≡ s
unfolding slot_at Po.first_bit
slot_back s size l e =
    slot_same ((8 * s.at + s.bit) / 8) ((8 * s.at + s.bit) % 8) size s.at s.bit s.size (omega arith) (omega arith) e

-- the bytes of a slot's bits
size_back : (o : ℕ) (S : Sc.Schema) (r : Member) (c : Cursor)
    → (Po.bit_size r.kind (L.member_slot o S r c) + 7) / 8 ≡ (L.member_slot o S r c).size
unfolding Po.bit_size L.member_slot L.slot_of L.bit_slot
size_back o S r c = by (L.is_bool r.kind) refl
  where
    by : (t : Bool) → L.is_bool r.kind ≡ t → (Po.bit_size r.kind (L.member_slot o S r c) + 7) / 8 ≡ (L.member_slot o S r c).size
    by true e = rw e (omega arith)
    by false e = rw e (omega arith)

-- ---- a placement
pub placement_is : (rows : List ℕ) (at v f bits : ℕ) → Number rows at 4 v → Number rows (at + 4) 4 f → Number rows (at + 8) 4 bits
    → (size : ℕ) → size ≡ (bits + 7) / 8 → (value flag : Slot) → value ≡ slot_at v size → flag ≡ slot_at f 1
    → record { value = value; flag = flag } ≡ placement_in rows at
unfolding placement_in
placement_is rows at v f bits nv nf nb size es value flag ev ef =
    let z : size ≡ (le rows (at + 8) 4 + 7) / 8 = es ∙ ap (λ (k : ℕ). (k + 7) / 8) nb.is in
    ap₂ (λ (x y : Slot). record { value = x; flag = y })
    (ev ∙ ap₂ slot_at nv.is z)
    (ef ∙ ap (λ (k : ℕ). slot_at k 1) nf.is)

-- the row of the member r, which the layout rule places by the cursor c
module _ (o : ℕ) (S : Sc.Schema) (r : Member) (c : Cursor) (rows : List ℕ) (at : ℕ) (small : PlacedSmall (L.placement_of o S r c))
    (there : RowIn rows at (Po.row_of r (L.placement_of o S r c))) where
  reads : RowSmall (Po.row_of r (L.placement_of o S r c))
  reads = row_small r (L.placement_of o S r c) small

  value_back : (placement_in rows at).value ≡ L.member_slot o S r c
  unfolding placement_in Po.row_of L.placement_of
  value_back =
      ap₂ (λ (x y : ℕ). slot_at x ((y + 7) / 8)) (value_read rows at _ there reads) (size-read rows at _ there reads)
      ∙ slot_back (L.member_slot o S r c) _ small.value.bit (size_back o S r c)

  flag_back : L.has_flag r ≡ true → (placement_in rows at).flag ≡ L.bit_slot c
  unfolding placement_in Po.row_of Po.flag_bit L.placement_of L.bit_slot
  flag_back e =
      ap (λ (x : ℕ). slot_at x 1) (flag-read rows at _ there reads ∙ rw e refl)
      ∙ slot_back (L.bit_slot c) 1 small.flag.bit refl

  flag_bit_lem : (placement_in rows at).flag.bit < 8
  unfolding placement_in slot_at
  flag_bit_lem = omega arith

  by_row : ByTable o S r c (placement_in rows at)
  unfolding L.placement_of
  by_row =
      let v : SlotSmall (placement_in rows at).value = subst SlotSmall (sym value_back) small.value in
      record { value_is = value_back; flag_is = flag_back; at = v.at; bit = v.bit; size = v.size; flag = flag_bit_lem }

-- a row lies within its table
row-end : (rows : List ℕ) (at : ℕ) (x : Row) → RowIn rows at x → at + 12 ≤ length rows
row-end rows at x h =
    omega (
      arith,
      ap length h.is,
      length-append h.before (Po.row_bytes x ++ h.behind),
      length-append (Po.row_bytes x) h.behind,
      row_bytes-length x,
      h.place,
    )

-- ---- member j of table t
module _ (o : ℕ) (b dir rows : List ℕ) (a : Accepted b dir) (w : Width o) (right : rows ≡ Po.positions_of o b) (t j : ℕ) (l : t < P.table_count b)
    (k : j < length (Sc.table_of (P.parse b) t).members) (first : ℕ) (ef : first ≡ 12 * member_total (take t (P.parse b).tables)) where
  placed : PlacedSmall (L.placement_of o (P.parse b) (Sc.member_of (P.parse b) t j) (cursor_at o b t j))
  placed = placed_small-at o (omega (arith, w.1)) (P.parse b) (accepted_sound b dir a) t j k

  at_is : 12 * (member_total (take t (P.parse b).tables) + j) ≡ first + 12 * j
  at_is = omega arith

  abbrev row : Row
  row = Po.row_of (Sc.member_of (P.parse b) t j) (L.placement_of o (P.parse b) (Sc.member_of (P.parse b) t j) (cursor_at o b t j))

  in_table : RowIn (Po.positions_of o b) (12 * (member_total (take t (P.parse b).tables) + j)) row
  unfolding Po.positions_of Po.schema_rows Po.table_rows Sc.table_of Sc.member_of
  in_table =
      subst (RowIn (Po.positions_of o b) (12 * (member_total (take t (P.parse b).tables) + j)))
      (member-rows-at o (P.parse b) _ L.begin (Sc.table_of (P.parse b) t).members j k)
      (row_in o (P.parse b) _ (record { value = 0; flag = 0; size = 0 }) (P.parse b).tables t j (omega (arith, tables-length b)) k)

  there : RowIn rows (first + 12 * j) row
  there =
      subst (λ (m : List ℕ). RowIn m (first + 12 * j) row) (sym right)
      (subst (λ (x : ℕ). RowIn (Po.positions_of o b) x row) at_is in_table)

  pub row_inside : first + 12 * j + 12 ≤ length rows
  row_inside = row-end rows (first + 12 * j) row there

  pub placed_by : (p : Placement) → p ≡ placement_in rows (first + 12 * j)
      → ByTable o (P.parse b) (Sc.member_of (P.parse b) t j) (cursor_at o b t j) p
  placed_by p e =
      subst (ByTable o (P.parse b) (Sc.member_of (P.parse b) t j) (cursor_at o b t j)) (sym e)
      (by_row o (P.parse b) (Sc.member_of (P.parse b) t j) (cursor_at o b t j) rows (first + 12 * j) placed there)
