-- The writer's slots of a direct list: what its header says, and its elements, each a table's full fixed part, one behind the other.
use Rattle.std.specs.Prelude.{◌≡◌, List, ℕ, suc, ◌+◌, ◌*◌, ◌^◌, ◌<◌, ◌≤◌}
use Rattle.std.proofs.Math.Path.{refl}
use Rattle.std.proofs.Common.{subst, le-mul_of_pos_right}
use Rattle.std.proofs.Math.Nat.{mul_comm, mul-suc}
use native.Mathlib.Omega.{arith}
use Rattle.std.proofs.Math.ListN.{length}
use Rattle.coding.specs.Bytes.{le_bytes}
use Rattle.coding.specs.Schema.{Schema, table_of}
use Rattle.coding.specs.Layout.{begin, after_bytes, fixed_size}
use Rattle.coding.specs.Walk.{header_size, element_id, element_size, most_elements}
use Rattle.coding.specs.Value.{Values, row, count}
use Rattle.coding.specs.Cells.{width, chain, pack_bits}
use Rattle.coding.specs.Cells.Slots.{bytes}
use Rattle.coding.specs.Message.{Planner, directs_slots, direct_slots}
use Rattle.coding.specs.declared.Object.TheVariants as O
use Rattle.coding.specs.declared.Cursor.{Cursor}
use Rattle.laws.specs.Sound.{DirectSound, Sound, inplace_count}
use Rattle.laws.specs.FixedSizes.{direct-wide}
use Rattle.demands.specs.Holds.{length-le_bytes, holds-le}
use Rattle.demands.specs.AtCursor.{At, at_fits, at_bytes, at_part, at-end}
use Rattle.demands.specs.Writes.{Objects, DirectsWrite, no-direct, directs}
use Rattle.demands.specs.TreeHold.{Below, DirectsHold, ContentHolds}
use Rattle.demands.specs.TreeHold as T
use Rattle.demands.specs.WrittenParts.{Inner}

module _ (o : ℕ) (S : Schema) (m : List ℕ) (P : Planner) (G : Objects) (below : Below) (inner : Inner o S m P G below) (t : ℕ)
    (outside : inplace_count (table_of S t).members ≡ 0) where
  abbrev element_width : ℕ
  element_width = fixed_size o S (table_of S t).members

  -- the elements are held, and end where the slots do
  directs_hold : {vs : Values} (start z e : ℕ) (c : Cursor) → DirectsWrite G t vs → At o m start c z e (directs_slots P t vs)
      → DirectsHold below t element_width (start + c.end) vs × (start + c.end + count vs * element_width ≡ z)
  unfolding directs_slots count after_bytes
  directs_hold start z e c no-direct a = let h = (at-end o m start c z e a).0 in (T.no-direct, omega arith)
  directs_hold start z e c (directs {v = v} {vs = vs} g gs) a =
      let k = P (O.Table t) v in
      let n = width o (pack_bits 0 k) in
      let b = at_part o m start c z e k (directs_slots P t vs) a in
      let d = inner.direct t v (start + c.end) (start + c.end + n) e outside g b.0 in
      let d1 = d.1 in
      let r = directs_hold start z (e + chain o (pack_bits 0 k)) (after_bytes n c) gs b.1 in
      let r1 = r.1 in
      let q : start + (c.end + n) ≡ start + c.end + element_width = omega arith in (
        T.directs d.0 (subst (λ (x : ℕ). DirectsHold below t element_width x vs) q r.0),
        omega (arith, mul_comm (suc (count vs)) element_width, mul-suc element_width (count vs), mul_comm (count vs) element_width),
      )

-- behind the magic and the count: the table's id, the full size, and the elements
module _ (o : ℕ) (S : Schema) (sound : Sound S) (wide : 0 < o) (m : List ℕ) (P : Planner) (G : Objects) (below : Below)
    (inner : Inner o S m P G below) where
  header_holds : (t x z : ℕ) (vs : Values) → fixed_size o S (table_of S t).members < 2 ^ 32 → At o m (x + (4 + o)) begin z z (direct_slots P o S t vs)
      → (element_id o m x ≡ (table_of S t).id) × (element_size o m x ≡ fixed_size o S (table_of S t).members)
      × At o m (x + (4 + o)) (after_bytes 4 (after_bytes 4 begin)) z z (directs_slots P t vs)
  unfolding direct_slots begin after_bytes element_id element_size
  header_holds t x z vs f a =
      let s = x + (4 + o) in
      let id = (table_of S t).id in
      let n = fixed_size o S (table_of S t).members in
      let s0 : s + 0 ≡ s = omega arith in
      let s4 : s + (0 + 4) ≡ x + (8 + o) = omega arith in
      let known = (sound.tables t).id in
      let b = at_bytes o m s begin z z (le_bytes 4 id) (bytes (le_bytes 4 n) (directs_slots P t vs)) a in
      let b1 = rw (length-le_bytes 4 id) at b.1 in
      let c = at_bytes o m s (after_bytes 4 begin) z z (le_bytes 4 n) (directs_slots P t vs) b1 in
      let c1 = rw (length-le_bytes 4 n) at c.1 in (
        holds-le m 4 s id (omega arith) (rw s0 at b.0),
        holds-le m 4 (x + (8 + o)) n (omega arith) (rw s4 at c.0),
        c1,
      )

  -- a count of elements of at least a byte is within the message
  few : (n w l : ℕ) → 0 < w → n * w ≤ l → n ≤ l
  few n w l h k = omega (arith, le-mul_of_pos_right n h)

  pub direct_holds : {vs : Values} (t x z : ℕ) → DirectSound S t → fixed_size o S (table_of S t).members < 2 ^ 32 → count vs < 2 ^ 32
      → DirectsWrite G t vs
      → At o m (x + (4 + o)) begin z z (direct_slots P o S t vs)
      → ContentHolds below o S m (O.DirectList t) (row vs) x (x + header_size o (O.DirectList t)) (count vs) × (count vs ≤ length m)
      × (x + header_size o (O.DirectList t) ≤ length m)
  unfolding header_size begin after_bytes most_elements
  direct_holds {vs} t x z d f l h a =
      let s = x + (4 + o) in
      let w = fixed_size o S (table_of S t).members in
      let p = header_holds t x z vs f a in
      let c = after_bytes 4 (after_bytes 4 begin) in
      let e = directs_hold o S m P G below inner t d.outside s z z c h p.2 in
      let e1 = e.1 in
      let fit = (at_fits o m s begin z z (direct_slots P o S t vs) a).1 in
      let q : s + (0 + 4 + 4) ≡ x + (4 + o + 8) = omega arith in
      let fits : x + (4 + o + 8) + count vs * w ≤ length m = omega arith in (
        T.direct_list {at = x} {start = x + (4 + o + 8)} {vs = vs} refl p.0 (omega arith) (rw p.1 fits)
            (rw p.1 (subst (λ (y : ℕ). DirectsHold below t w y vs) q e.0)),
        few (count vs) w (length m) (direct-wide o S sound wide t d) (omega arith),
        omega arith,
      )
