-- 02, K1: a direct list is "never in place nor a case of a union that a table holds in place". Under a lawful schema no arrival is at a
-- direct list in place, so that what the definitions say of one is never asked.
use Rattle.std.specs.Prelude.{◌≡◌, refl, List, Bool, true, false, ◌&&◌, ℕ, zero, suc, ◌+◌, ◌%◌, ◌<◌, length, get_or, take, ltb, leb, eqb}
use Rattle.std.proofs.Common.{arith, leb-true}
use Rattle.std.proofs.lemmas.Bool.{eqb-false}
use Rattle.coding.specs.Lists.{pick}
use Rattle.coding.specs.Bytes.{le, bit_at, is_nan}
use Rattle.coding.specs.Schema.{Schema, element_of, cases_of, case_of, table_of, plain_bool}
use Rattle.coding.specs.Packed.{parse}
use Rattle.coding.specs.Lawful.{lawful}
use Rattle.coding.specs.Structs.{struct_ok}
use Rattle.coding.specs.Layout.{has_flag, begin, after_members, placement_of}
use Rattle.coding.specs.Step.{enum_step, float_step, place_of, object_step, union_step, flat_step, value_step, struct_tested, inside, flagged, placed_step, member_step, element_place, element_step}
use Rattle.coding.specs.Walk.{placed, root_place}
use Rattle.coding.specs.declared.Flat.{Flat}
use Rattle.coding.specs.declared.Flat.TheVariants as F
use Rattle.coding.specs.declared.Object.{Object}
use Rattle.coding.specs.declared.Object.TheVariants as Ob
use Rattle.coding.specs.declared.Kind.{Kind}
use Rattle.coding.specs.declared.Kind.TheVariants.{OfFlat, OfObject, OfUnion}
use Rattle.coding.specs.declared.Member.{Member}
use Rattle.coding.specs.declared.Cursor.{Cursor}
use Rattle.coding.specs.declared.Slot.{Slot}
use Rattle.coding.specs.declared.Place.{Place}
use Rattle.coding.specs.declared.Place.TheVariants.{ByOffset, InPlace}
use Rattle.coding.specs.declared.Step.{Step}
use Rattle.coding.specs.declared.Step.TheVariants as St
use Rattle.laws.specs.Sound.{NotDirect, MayStandInPlace, MemberSound, Sound}
use Rattle.laws.specs.LawfulSound.{lawful_sound}
use Rattle.laws.specs.SoundAt.{case-not-direct-at}
use Rattle.laws.specs.Lists.{all-at, never, pick_holds}
use Rattle.demands.specs.Arrivals.{part_count, member_at, direct_at, part_step, LeadsTo, by_reference, by-choice, Arrives, root, below}

-- in place there is no direct list
abbrev pub Stands : Object → Place → Type 0
Stands ob (ByOffset x) = Unit {0}
Stands ob (InPlace a n) = NotDirect ob

abbrev StepStands : Step → Type 0
StepStands (St.Refused n) = Unit {0}
StepStands St.Absent = Unit {0}
StepStands (St.Value x) = Unit {0}
StepStands (St.Unknown x) = Unit {0}
StepStands (St.Struct i at) = Unit {0}
StepStands (St.Object ob p) = Stands ob p
StepStands (St.Choice c ob p) = Stands ob p

either : (t : Bool) (x y : Step) → StepStands x → StepStands y → StepStands (pick t x y)
either true x y h g = h
either false x y h g = g

-- ---- a value that is there
place-stands : (ob : Object) (inplace : Bool) (tail x : ℕ) → (inplace ≡ true → NotDirect ob) → Stands ob (place_of inplace tail x)
unfolding place_of
place-stands ob true tail x h = h refl
place-stands ob false tail x h = tt

flat-stands : (m : List ℕ) (k : Flat) (none : Bool) (at bit : ℕ) → StepStands (flat_step m k none at bit)
unfolding flat_step float_step enum_step
flat-stands m F.Boolean none at bit = tt
flat-stands m (F.Integer s w) none at bit = tt
flat-stands m (F.Float w) none at bit = either (none && is_nan w (le m at w)) St.Absent (St.Value (le m at w)) tt tt
flat-stands m (F.Enumerated n) none at bit =
    either (eqb (get_or m at 0) 255) St.Absent (pick (ltb (get_or m at 0) n) (St.Value (get_or m at 0)) (St.Unknown (get_or m at 0))) tt
    (either (ltb (get_or m at 0) n) (St.Value (get_or m at 0)) (St.Unknown (get_or m at 0)) tt tt)
flat-stands m (F.Struct i) none at bit = tt

union-stands : (S : Schema) (i : ℕ) (inplace : Bool) (tail c x : ℕ) → (inplace ≡ true → MayStandInPlace S (OfUnion i))
    → StepStands (union_step (cases_of S i) inplace tail c x)
unfolding union_step
union-stands S i inplace tail c x may =
    pick_holds StepStands (eqb c 0) St.Absent _ (λ e. tt)
    (λ e.
    pick_holds StepStands (leb c (length (cases_of S i))) (St.Choice c (case_of (cases_of S i) c) (place_of inplace tail x)) (St.Unknown c)
    (λ l. place-stands (case_of (cases_of S i) c) inplace tail x (λ t. case-not-direct-at S i c (some c (eqb-false c 0 e)) (leb-true _ _ l) (may t)))
    (λ l. tt))
  where
    some : (k : ℕ) → (k ≡ 0 → ⊥) → 0 < k
    some zero n = absurd (n refl)
    some (suc k) n = omega arith

value-stands : (o : ℕ) (S : Schema) (m : List ℕ) (k : Kind) (none inplace : Bool) (tail at bit : ℕ)
    → (inplace ≡ true → MayStandInPlace S k) → StepStands (value_step o S m k none inplace tail at bit)
unfolding value_step object_step
value-stands o S m (OfFlat k) none inplace tail at bit may = flat-stands m k none at bit
value-stands o S m (OfObject ob) none inplace tail at bit may =
    either (eqb (le m at o) 0) St.Absent (St.Object ob (place_of inplace tail (le m at o))) tt (place-stands ob inplace tail (le m at o) may)
value-stands o S m (OfUnion i) none inplace tail at bit may = union-stands S i inplace tail (le m at 2) (le m (at + 2) o) may

-- ---- a member and an element
tested-stands : (S : Schema) (m : List ℕ) (s : Step) → StepStands s → StepStands (struct_tested S m s)
unfolding struct_tested
tested-stands S m (St.Refused n) h = tt
tested-stands S m St.Absent h = tt
tested-stands S m (St.Value x) h = tt
tested-stands S m (St.Unknown x) h = tt
tested-stands S m (St.Struct i at) h = either (struct_ok S m i at) (St.Struct i at) (St.Refused 10) tt tt
tested-stands S m (St.Object ob p) h = h
tested-stands S m (St.Choice c ob p) h = h

inside-stands : (n : ℕ) (slot : Slot) (x y : Step) → StepStands x → StepStands y → StepStands (inside n slot x y)
unfolding inside
inside-stands n slot x y h g =
    either (leb n slot.at) x _ h (either (leb (slot.at + slot.size) n) y (St.Refused 8) g tt)

flagged-stands : (m : List ℕ) (start n : ℕ) (flag slot : Slot) (x : Step) → StepStands x → StepStands (flagged m start n flag slot x)
unfolding flagged
flagged-stands m start n flag slot x h =
    either (leb n flag.at) St.Absent _ tt
    (either (eqb (bit_at m (start + flag.at) flag.bit) 1) (inside n slot (St.Refused 8) x) (inside n slot St.Absent St.Absent)
    (inside-stands n slot (St.Refused 8) x tt h) (inside-stands n slot St.Absent St.Absent tt tt))

member-stands : (o : ℕ) (S : Schema) (m : List ℕ) (start n : ℕ) (c : Cursor) (r : Member) → MemberSound S r
    → StepStands (member_step o S m start n c r)
unfolding member_step placed_step
member-stands o S m start n c r ok =
    let p = placement_of o S r c in
    let slot = p.value in
    let here = value_step o S m r.kind r.optional r.inplace (start + n) (start + slot.at) slot.bit in
    let h : StepStands here =
    value-stands o S m r.kind r.optional r.inplace (start + n) (start + slot.at) slot.bit ok.inplace in
    tested-stands S m _
    (either (has_flag r) (flagged m start n p.flag slot here) (inside n slot St.Absent here)
    (flagged-stands m start n p.flag slot here h) (inside-stands n slot St.Absent here tt h))

element-stands : (o : ℕ) (S : Schema) (m : List ℕ) (k : Kind) (start i : ℕ) → StepStands (element_step o S m k start i)
unfolding element_step
element-stands o S m k start i =
    tested-stands S m _ (value-stands o S m k true false 0 (element_place o S k start i) (i % 8) (λ e. never e))

-- ---- what is reached
module _ (o : ℕ) (S : Schema) (sound : Sound S) (m : List ℕ) where
  part-stands : (ob : Object) (at start n j : ℕ) → j < part_count S ob n → StepStands (part_step o S m ob at start n j)
  unfolding part_step part_count member_at direct_at
  part-stands Ob.Text at start n j l = tt
  part-stands Ob.Bytes at start n j l = tt
  part-stands (Ob.List i) at start n j l = element-stands o S m (element_of S i) start j
  part-stands (Ob.Table i) at start n j l =
      member-stands o S m start n (after_members o S (take j (table_of S i).members) begin) (get_or (table_of S i).members j plain_bool)
      (all-at (MemberSound S) plain_bool (table_of S i).members j (sound.tables i).members l)
  part-stands (Ob.DirectList t) at start n j l = tt

  led-stands : {st : Step} {ob : Object} {p : Place} → StepStands st → LeadsTo st ob p → Stands ob p
  led-stands h by_reference = h
  led-stands h by-choice = h

  -- THE CLAIM: no arrival is at a direct list in place
  pub arrival-stands : {d : ℕ} {ob : Object} {p : Place} → Arrives o S m d ob p → Stands ob p
  unfolding root_place
  arrival-stands root = tt
  arrival-stands (below {ob = ob} {p = p} start n j a e l q) = led-stands (part-stands ob (placed p) start n j l) q

-- the same of the bytes of a schema
pub never_in-place : (o : ℕ) (b m : List ℕ) → ((i : ℕ) → get_or b i 0 < 256) → lawful o b ≡ true → {d t a n : ℕ}
    → Arrives o (parse b) m d (Ob.DirectList t) (InPlace a n) → ⊥
never_in-place o b m schema_bytes good h = arrival-stands o (parse b) (lawful_sound o b schema_bytes good) m h
