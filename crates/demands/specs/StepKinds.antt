-- What stands at a place of a kind is of that kind: a value where the kind is flat and no struct, a struct where it is that
-- struct, an object where it is that object, a choice where it is a union, and then the choice's own object.
use Rattle.std.specs.Prelude.{◌≡◌, refl, List, Bool, ◌&&◌, ℕ, ◌+◌, ◌%◌, length, get_or, ltb, leb, eqb}
use Rattle.std.proofs.Math.Bool.{true, false}
use Rattle.coding.specs.Lists.{pick}
use Rattle.coding.specs.Bytes.{le, bit_at, is_nan}
use Rattle.coding.specs.Schema.{Schema, cases_of, case_of}
use Rattle.coding.specs.Structs.{struct_ok}
use Rattle.coding.specs.Layout.{has_flag, placement_of}
use Rattle.coding.specs.Step.{enum_step, float_step, place_of, object_step, union_step, flat_step, field_step, value_step, struct_tested, inside, flagged, placed_step, member_step, element_place, element_step}
use Rattle.laws.specs.Sound.{FlatScalar}
use Rattle.coding.specs.declared.Flat.{Flat}
use Rattle.coding.specs.declared.Flat.TheVariants as F
use Rattle.coding.specs.declared.Object.{Object}
use Rattle.coding.specs.declared.Kind.{Kind}
use Rattle.coding.specs.declared.Kind.TheVariants.{OfFlat, OfObject, OfUnion}
use Rattle.coding.specs.declared.Member.{Member}
use Rattle.coding.specs.declared.Cursor.{Cursor}
use Rattle.coding.specs.declared.Slot.{Slot}
use Rattle.coding.specs.declared.Place.{Place}
use Rattle.coding.specs.declared.Step.{Step}
use Rattle.coding.specs.declared.Step.TheVariants as St

pub data OfKind (S : Schema) : Kind → Step → Type 0 where
  refused : {k : Kind} (n : ℕ) → OfKind S k (St.Refused n)
  absent : {k : Kind} → OfKind S k St.Absent
  unknown : {k : Kind} (x : ℕ) → OfKind S k (St.Unknown x)
  value : (k : Flat) (x : ℕ) → FlatScalar k → OfKind S (OfFlat k) (St.Value x)
  struct : (i at : ℕ) → OfKind S (OfFlat (F.Struct i)) (St.Struct i at)
  object : (ob : Object) (p : Place) → OfKind S (OfObject ob) (St.Object ob p)
  choice : (i c : ℕ) (ob : Object) (p : Place) → ob ≡ case_of (cases_of S i) c → OfKind S (OfUnion i) (St.Choice c ob p)

-- what holds of both holds of the one picked
either : {S : Schema} {k : Kind} (t : Bool) (a b : Step) → OfKind S k a → OfKind S k b → OfKind S k (pick t a b)
either true a b f g = f
either false a b f g = g

module _ (S : Schema) where
  enum_kind : (n x : ℕ) → OfKind S (OfFlat (F.Enumerated n)) (enum_step n x)
  unfolding enum_step
  enum_kind n x = either (eqb x 255) _ _ absent (either (ltb x n) _ _ (value (F.Enumerated n) x tt) (unknown x))

  float_kind : (none : Bool) (w x : ℕ) → OfKind S (OfFlat (F.Float w)) (float_step none w x)
  unfolding float_step
  float_kind none w x = either (none && is_nan w x) _ _ absent (value (F.Float w) x tt)

  flat_kind : (m : List ℕ) (k : Flat) (none : Bool) (at bit : ℕ) → OfKind S (OfFlat k) (flat_step m k none at bit)
  unfolding flat_step
  flat_kind m F.Boolean none at bit = value F.Boolean (bit_at m at bit) tt
  flat_kind m (F.Integer s w) none at bit = value (F.Integer s w) (le m at w) tt
  flat_kind m (F.Float w) none at bit = float_kind none w (le m at w)
  flat_kind m (F.Enumerated n) none at bit = enum_kind n (get_or m at 0)
  flat_kind m (F.Struct i) none at bit = struct i at

  pub field_kind : (m : List ℕ) (k : Flat) (at : ℕ) → OfKind S (OfFlat k) (field_step m k at)
  unfolding field_step
  field_kind m F.Boolean at = value F.Boolean (get_or m at 0) tt
  field_kind m (F.Integer s w) at = value (F.Integer s w) (le m at w) tt
  field_kind m (F.Float w) at = value (F.Float w) (le m at w) tt
  field_kind m (F.Enumerated n) at = enum_kind n (get_or m at 0)
  field_kind m (F.Struct i) at = struct i at

  value_kind : (o : ℕ) (m : List ℕ) (k : Kind) (none inplace : Bool) (tail at bit : ℕ)
      → OfKind S k (value_step o S m k none inplace tail at bit)
  unfolding value_step object_step union_step
  value_kind o m (OfFlat k) none inplace tail at bit = flat_kind m k none at bit
  value_kind o m (OfObject ob) none inplace tail at bit =
      either (eqb (le m at o) 0) _ _ absent (object ob (place_of inplace tail (le m at o)))
  value_kind o m (OfUnion i) none inplace tail at bit =
      either (eqb (le m at 2) 0) _ _ absent
      (either (leb (le m at 2) (length (cases_of S i))) _ _
      (choice i (le m at 2) (case_of (cases_of S i) (le m at 2)) (place_of inplace tail (le m (at + 2) o)) refl)
      (unknown (le m at 2)))

  inside_kind : (k : Kind) (n : ℕ) (slot : Slot) (past here : Step) → OfKind S k past → OfKind S k here
      → OfKind S k (inside n slot past here)
  unfolding inside
  inside_kind k n slot past here p h = either (leb n slot.at) _ _ p (either (leb (slot.at + slot.size) n) _ _ h (refused 8))

  flagged_kind : (k : Kind) (m : List ℕ) (start n : ℕ) (flag slot : Slot) (here : Step) → OfKind S k here
      → OfKind S k (flagged m start n flag slot here)
  unfolding flagged
  flagged_kind k m start n flag slot here h =
      either (leb n flag.at) _ _ absent
      (either (eqb (bit_at m (start + flag.at) flag.bit) 1) _ _
      (inside_kind k n slot (St.Refused 8) here (refused 8) h)
      (inside_kind k n slot St.Absent St.Absent absent absent))

  -- a struct that was found is tested
  tested_kind : (m : List ℕ) {k : Kind} {s : Step} → OfKind S k s → OfKind S k (struct_tested S m s)
  unfolding struct_tested
  tested_kind m (refused n) = refused n
  tested_kind m absent = absent
  tested_kind m (unknown x) = unknown x
  tested_kind m (value k x f) = value k x f
  tested_kind m (struct i at) = either (struct_ok S m i at) _ _ (struct i at) (refused 10)
  tested_kind m (object ob p) = object ob p
  tested_kind m (choice i c ob p e) = choice i c ob p e

  pub member_kind : (o : ℕ) (m : List ℕ) (start n : ℕ) (c : Cursor) (r : Member)
      → OfKind S r.kind (member_step o S m start n c r)
  unfolding member_step placed_step
  member_kind o m start n c r =
      let p = placement_of o S r c in
      let slot = p.value in
      let h =
      value_kind o m r.kind r.optional r.inplace (start + n) (start + slot.at) slot.bit in
      tested_kind m (either (has_flag r) _ _ (flagged_kind r.kind m start n p.flag slot _ h) (inside_kind r.kind n slot _ _ absent h))

  pub element_kind : (o : ℕ) (m : List ℕ) (k : Kind) (start i : ℕ) → OfKind S k (element_step o S m k start i)
  unfolding element_step
  element_kind o m k start i = tested_kind m (value_kind o m k true false 0 (element_place o S k start i) (i % 8))
