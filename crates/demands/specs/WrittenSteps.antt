-- The writer's slots of one member or element: where they stand, the step there shows the value.
use Rattle.std.specs.Prelude.{◌≡◌, List, [], ◌∷◌, Bool, ◌&&◌, ◌⊎◌, ℕ, ◌+◌, ◌^◌, ◌<◌, ◌≤◌, length, leb, eqb}
use Rattle.std.proofs.Math.Path.{refl, ap}
use Rattle.std.proofs.Common.{sym, subst, inl, inr}
use Rattle.std.proofs.Math.Bool.{true, false}
use native.Mathlib.Omega.{arith}
use borrow.Author.Tests.{lt-ltb, le-leb, ne_eqb}
use Rattle.coding.specs.Bytes.{le, le_bytes, is_nan, no_float}
use Rattle.coding.specs.Schema.{Schema, cases_of, case_of}
use Rattle.coding.specs.Structs.{struct_ok}
use Rattle.coding.specs.Layout.{after_bytes, is_bool, flat_is_bool, bit_slot, slot_of}
use Rattle.coding.specs.Step.{enum_step, float_step, place_of, object_step, union_step, flat_step, value_step, struct_tested}
use Rattle.coding.specs.Lists.{pick}
use Rattle.coding.specs.Walk.{start_size, stands_in_place}
use Rattle.coding.specs.Value.{Value, absent, number, row, chosen, present, as_number, as_object}
use Rattle.coding.specs.Cells.{Slots}
use Rattle.coding.specs.Cells.Slots.{bytes, in_place}
use Rattle.coding.specs.Message.{length_of, number_or, struct_bytes, zeros, flat_slots, Planner, object_slots, refer_slots, value_slots}
use Rattle.coding.specs.declared.Flat.{Flat}
use Rattle.coding.specs.declared.Flat.TheVariants as F
use Rattle.coding.specs.declared.Object.{Object}
use Rattle.coding.specs.declared.Kind.{Kind}
use Rattle.coding.specs.declared.Kind.TheVariants.{OfFlat, OfObject, OfUnion}
use Rattle.coding.specs.declared.Cursor.{Cursor}
use Rattle.coding.specs.declared.Step.{Step}
use Rattle.coding.specs.declared.Step.TheVariants as St
use Rattle.laws.specs.Sound.{FlatSound, KindSound, Sound}
use Rattle.demands.specs.Holds.{length-le_bytes, holds-le, holds-zeros}
use Rattle.laws.specs.Lists.{never}
use Rattle.demands.specs.AtCursor.{At, at_bytes, at_bit, at_reference, at-in_place}
use Rattle.demands.specs.StructHold.{struct_holds}
use Rattle.demands.specs.Writes.{Objects, FlatWrites, boolean, integer, float, no-enum, enum, NotNaN, PartWrites, no-flat, no_float_lem, flat, no-object, no-union}
use Rattle.demands.specs.Writes as W
use Rattle.demands.specs.TreeHold.{Below, Somewhere, Shows, nothing, scalar}
use Rattle.demands.specs.TreeHold as T
use Rattle.demands.specs.WrittenParts.{Inner}

module _ (o : ℕ) (S : Schema) (sound : Sound S) (m : List ℕ) (P : Planner) (G : Objects) (below : Below) (inner : Inner o S m P G below)
    (start z : ℕ) where
  -- ---- what leads to no object
  value_shows : {k : Flat} (x : ℕ) (st : Step) → st ≡ St.Value x → Shows below S m (OfFlat k) (number x) (struct_tested S m st)
  unfolding struct_tested
  value_shows x st e = rw e scalar

  nothing_shows : (k : Kind) (st : Step) → st ≡ St.Absent → Shows below S m k absent (struct_tested S m st)
  unfolding struct_tested
  nothing_shows k st e = rw e nothing

  float_value : (nan : Bool) (w x y : ℕ) → y ≡ x → (nan && is_nan w x) ≡ false → float_step nan w y ≡ St.Value x
  unfolding float_step
  float_value nan w x y e h = rw (e, h)

  no_float-value : (w y : ℕ) → (w ≡ 4) ⊎ (w ≡ 8) → y ≡ no_float w → float_step true w y ≡ St.Absent
  unfolding float_step no_float is_nan
  no_float-value w y (inl f) e = rw (e, f)
  no_float-value w y (inr f) e = rw (e, f)

  no_float_small : (w : ℕ) → (w ≡ 4) ⊎ (w ≡ 8) → no_float w < 256 ^ w
  unfolding no_float
  no_float_small w (inl f) = rw f (omega arith)
  no_float_small w (inr f) = rw f (omega arith)

  enum-value : (n x y : ℕ) → n ≤ 255 → x < n → y ≡ x → enum_step n y ≡ St.Value x
  unfolding enum_step
  enum-value n x y b h e =
      let no : x ≡ 255 → ⊥ = λ q. omega arith in
      rw (e, ne_eqb x 255 no, lt-ltb x n h)

  no-enum-value : (n y : ℕ) → y ≡ 255 → enum_step n y ≡ St.Absent
  unfolding enum_step
  no-enum-value n y e = rw e

  struct-value : (i at : ℕ) → struct_ok S m i at ≡ true → struct_tested S m (St.Struct i at) ≡ St.Struct i at
  unfolding struct_tested
  struct-value i at e = rw e

  flat_step_lem : {k : Flat} {v : Value} (nan : Bool) (c : Cursor) (e : ℕ) (rest : Slots) → FlatSound (length S.structs) k
      → FlatWrites S k v → NotNaN nan k v → At o m start c z e (flat_slots S k v rest)
      → Shows below S m (OfFlat k) v (struct_tested S m (flat_step m k nan (start + (slot_of o S (OfFlat k) c).at) (slot_of o S (OfFlat k) c).bit))
  unfolding flat_slots slot_of bit_slot is_bool flat_is_bool flat_step as_number number_or present
  flat_step_lem nan c e rest ok (boolean {x = x} h) n a = value_shows x _ (ap St.Value (at_bit o m start c z e x rest a).0)
  flat_step_lem nan c e rest ok (integer {w = w} {x = x} h) n a =
      value_shows x _ (ap St.Value (holds-le m w (start + c.end) x h (at_bytes o m start c z e (le_bytes w x) rest a).0))
  flat_step_lem nan c e rest ok (float {w = w} {x = x} h) n a =
      value_shows x _ (float_value nan w x _ (holds-le m w (start + c.end) x h (at_bytes o m start c z e (le_bytes w x) rest a).0) n)
  flat_step_lem nan c e rest ok (no-enum {n = n}) u a =
      nothing_shows _ _ (no-enum-value n _ (at_bytes o m start c z e (255 ∷ []) rest a).0.0)
  flat_step_lem nan c e rest ok (enum {n = n} {x = x} h) u a =
      value_shows x _ (enum-value n x _ ok.1 h (at_bytes o m start c z e (x ∷ []) rest a).0.0)
  flat_step_lem nan c e rest ok (W.struct {i = i} {vs = vs} h) n a =
      let g = (at_bytes o m start c z e (struct_bytes S i (row vs)) rest a).0 in
      let s = struct_holds S sound m i in
      rw (struct-value i (start + c.end) (s.judged (row vs) (start + c.end) (W.struct h) g))
      (T.struct (s.reads (row vs) (start + c.end) (W.struct h) g) (W.struct h))

  no_float_step : (w : ℕ) (c : Cursor) (e : ℕ) (rest : Slots) → (w ≡ 4) ⊎ (w ≡ 8) → At o m start c z e (flat_slots S (F.Float w) absent rest)
      → Shows below S m (OfFlat (F.Float w)) absent (struct_tested S m (flat_step m (F.Float w) true (start + (slot_of o S (OfFlat (F.Float w)) c).at) (slot_of o S (OfFlat (F.Float w)) c).bit))
  unfolding flat_slots slot_of bit_slot is_bool flat_is_bool flat_step as_number number_or present
  no_float_step w c e rest ok a =
      nothing_shows _ _
      (no_float-value w _ ok
      (holds-le m w (start + c.end) (no_float w) (no_float_small w ok) (at_bytes o m start c z e (le_bytes w (no_float w)) rest a).0))

  -- ---- what a reference or an in-place length leads to
  object_none : (ob : Object) (inplace : Bool) (tail x : ℕ) → x ≡ 0 → object_step ob inplace tail x ≡ St.Absent
  unfolding object_step
  object_none ob inplace tail x e = rw e

  object_some : (ob : Object) (inplace : Bool) (tail x : ℕ) → 0 < x → object_step ob inplace tail x ≡ St.Object ob (place_of inplace tail x)
  unfolding object_step
  object_some ob inplace tail x h = let no : x ≡ 0 → ⊥ = λ e. omega arith in rw (ne_eqb x 0 no)

  union_none : (cases : List Object) (inplace : Bool) (tail c x : ℕ) → c ≡ 0 → union_step cases inplace tail c x ≡ St.Absent
  unfolding union_step
  union_none cases inplace tail c x e = rw e

  union_some : (cases : List Object) (inplace : Bool) (tail c d x : ℕ) → d ≡ c → 0 < c → c ≤ length cases
      → union_step cases inplace tail d x ≡ St.Choice c (case_of cases c) (place_of inplace tail x)
  unfolding union_step
  union_some cases inplace tail c d x e h b = let no : c ≡ 0 → ⊥ = λ q. omega arith in rw (e, ne_eqb c 0 no, le-leb c (length cases) b)

  -- an object's place, where its reference or length stands at the cursor
  refer-held : (inplace : Bool) (ob : Object) (v : Value) (c : Cursor) (e tail : ℕ) (rest : Slots) → (inplace ≡ true → e ≡ tail)
      → (inplace ≡ true → stands_in_place ob ≡ true) → G ob v → At o m start c z e (refer_slots P o S inplace ob v rest)
      → below ob v (place_of inplace tail (le m (start + c.end) o)) × (inplace ≡ false → 0 < le m (start + c.end) o)
      × (inplace ≡ true → le m (start + c.end) o ≡ length_of o S ob v)
  unfolding refer_slots place_of start_size
  refer-held true ob v c e tail rest same d g a =
      let n = length_of o S ob v in
      let h = at_bytes o m start c z e (le_bytes o n) (in_place (P ob v) rest) a in
      let b = rw (length-le_bytes o n) at h.1 in
      let i = (at-in_place o m start (after_bytes o c) z e (P ob v) rest b).0 in
      let q = holds-le m o (start + c.end) n (inner.short ob v e _ (d refl) g i) h.0 in (
        rw (q, ← same refl) (inner.in_place_at ob v e _ (d refl) g i),
        λ f. never (sym f),
        λ f. q,
      )
  refer-held false ob v c e tail rest same d g a =
      let h = at_reference o m start c z e (object_slots P o S ob v) rest a in
      let l = h.0 in (
        inner.by_offset ob v (le m (start + c.end) o) _ g l h.1,
        λ f. omega arith,
        λ f. never f,
      )

  positive : (inplace : Bool) (x : ℕ) → (inplace ≡ false → 0 < x) → (inplace ≡ true → 0 < x) → 0 < x
  positive true x f g = g refl
  positive false x f g = f refl

  somewhere : (inplace : Bool) (tail x : ℕ) → (inplace ≡ false → 0 < x) → Somewhere (place_of inplace tail x)
  unfolding place_of
  somewhere true tail x f = tt
  somewhere false tail x f = f refl

  -- ---- a member or an element, whatever its kind
  object_step_lem : (inplace : Bool) (ob : Object) (v : Value) (c : Cursor) (e tail : ℕ) (rest : Slots) → (inplace ≡ true → e ≡ tail)
      → (inplace ≡ true → stands_in_place ob ≡ true) → G ob v → present v ≡ true → (inplace ≡ true → 0 < length_of o S ob v) → At o m start c z e (refer_slots P o S inplace ob v rest)
      → Shows below S m (OfObject ob) v (object_step ob inplace tail (le m (start + c.end) o))
  object_step_lem inplace ob v c e tail rest same d g p long a =
      let h = refer-held inplace ob v c e tail rest same d g a in
      let x = le m (start + c.end) o in
      let q : 0 < x = positive inplace x h.1 (λ t. let l = long t in let r = h.2 t in omega arith) in
      rw (object_some ob inplace tail x q) (T.object p h.0)

  choice_step : (inplace : Bool) (i n : ℕ) (v : Value) (c : Cursor) (e tail : ℕ) (rest : Slots) → (inplace ≡ true → e ≡ tail) → 0 < n → n ≤ length (cases_of S i)
      → (inplace ≡ true → stands_in_place (case_of (cases_of S i) n) ≡ true) → G (case_of (cases_of S i) n) v
      → At o m start c z e (bytes (le_bytes 2 n) (refer_slots P o S inplace (case_of (cases_of S i) n) v rest))
      → Shows below S m (OfUnion i) (chosen n v) (union_step (cases_of S i) inplace tail (le m (start + c.end) 2) (le m (start + c.end + 2) o))
  unfolding after_bytes
  choice_step inplace i n v c e tail rest same l b d g a =
      let ob = case_of (cases_of S i) n in
      let few = (sound.unions i).few in
      let h = at_bytes o m start c z e (le_bytes 2 n) (refer_slots P o S inplace ob v rest) a in
      let r = rw (length-le_bytes 2 n) at h.1 in
      let k = refer-held inplace ob v (after_bytes 2 c) e tail rest same d g r in
      let x = le m (start + c.end + 2) o in
      let q : le m (start + (c.end + 2)) o ≡ x =
      let s : start + (c.end + 2) ≡ start + c.end + 2 = omega arith in ap (λ (y : ℕ). le m y o) s in
      let u = union_some (cases_of S i) inplace tail n (le m (start + c.end) 2) x
      (holds-le m 2 (start + c.end) n (omega arith) h.0) l b in
      rw u
      (T.choice refl l b (somewhere inplace tail x (subst (λ (y : ℕ). inplace ≡ false → 0 < y) q k.1))
      (subst (λ (y : ℕ). below ob v (place_of inplace tail y)) q k.0))

  -- what is no struct needs no test
  pick_tested : (t : Bool) (a b : Step) → struct_tested S m a ≡ a → struct_tested S m b ≡ b → struct_tested S m (pick t a b) ≡ pick t a b
  pick_tested true a b h g = h
  pick_tested false a b h g = g

  object_tested : (ob : Object) (inplace : Bool) (tail x : ℕ) → struct_tested S m (object_step ob inplace tail x) ≡ object_step ob inplace tail x
  unfolding object_step struct_tested
  object_tested ob inplace tail x = pick_tested (eqb x 0) _ _ refl refl

  union_tested : (cases : List Object) (inplace : Bool) (tail c x : ℕ)
      → struct_tested S m (union_step cases inplace tail c x) ≡ union_step cases inplace tail c x
  unfolding union_step struct_tested
  union_tested cases inplace tail c x =
      pick_tested (eqb c 0) _ _ refl (pick_tested (leb c (length cases)) _ _ refl refl)

  pub value_step_lem : {k : Kind} {v : Value} (nan inplace : Bool) (c : Cursor) (e tail : ℕ) (rest : Slots) → KindSound S k
      → (inplace ≡ true → e ≡ tail) → PartWrites G o S false nan inplace k v → At o m start c z e (value_slots P o S k inplace v rest)
      → Shows below S m k v (struct_tested S m (value_step o S m k nan inplace tail (start + (slot_of o S k c).at) (slot_of o S k c).bit))
  unfolding value_slots value_step present as_number as_object slot_of is_bool
  value_step_lem nan inplace c e tail rest ok same (no-flat f t) a = never f
  value_step_lem nan inplace c e tail rest ok same (no_float_lem {w = w} h) a = rw h (no_float_step w c e rest ok a)
  value_step_lem nan inplace c e tail rest ok same (flat h n) a = flat_step_lem nan c e rest ok h n a
  value_step_lem nan inplace c e tail rest ok same (no-object {ob = ob}) a =
      nothing_shows _ _
      (object_none ob inplace tail _ (holds-zeros m o o (start + c.end) (omega arith) (at_bytes o m start c z e (zeros o) rest a).0))
  value_step_lem nan inplace c e tail rest ok same (W.object {ob = ob} {v = v} g p long d) a =
      rw (object_tested ob inplace tail _) (object_step_lem inplace ob v c e tail rest same d g p long (rw p at a))
  value_step_lem nan inplace c e tail rest ok same (no-union {i = i}) a =
      nothing_shows _ _
      (union_none (cases_of S i) inplace tail _ _
      (holds-zeros m 2 (2 + o) (start + c.end) (omega arith) (at_bytes o m start c z e (zeros (2 + o)) rest a).0))
  value_step_lem nan inplace c e tail rest ok same (W.choice {i = i} {c = n} {v = v} l b g d) a =
      rw (union_tested (cases_of S i) inplace tail _ _) (choice_step inplace i n v c e tail rest same l b d g a)
