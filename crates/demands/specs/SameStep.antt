-- What an older and a newer schema find at the same member or element: the same step, but that an enum's value or a choice
-- of the newer may be unknown to the older.
use Rattle.std.specs.Prelude.{ℕ, zero, suc, ◌≤◌, ◌<◌, ◌+◌, pred, List, [], ◌∷◌, Bool, true, false, ◌&&◌, ◌≡◌, length, get_or, ltb, leb, eqb}
use Rattle.std.proofs.Common.{arith, ltb-true, ltb-false, leb-true, leb-false}
use Rattle.std.proofs.Math.Path.{refl}
use Rattle.std.proofs.lemmas.Bool.{eqb-false}
use Rattle.coding.specs.Lists.{pick}
use Rattle.coding.specs.Bytes.{le, bit_at, is_nan}
use Rattle.coding.specs.Schema.{Schema, cases_of, case_of}
use Rattle.coding.specs.Structs.{struct_ok}
use Rattle.coding.specs.Layout.{has_flag, bit_slot, member_slot, placement_of}
use Rattle.coding.specs.Step.{enum_step, float_step, place_of, object_step, union_step, flat_step, value_step, struct_tested, inside, flagged, placed_step, member_step, element_step}
use Rattle.coding.specs.Append.{Extends, FlatAppends, boolean, integer, float, enumerated, struct, KindAppends, flat, object, union, MemberAppends, SameObject, same, SchemaAppends}
use Rattle.coding.specs.declared.Flat.{Flat}
use Rattle.coding.specs.declared.Flat.TheVariants.{Boolean, Integer, Float, Enumerated, Struct}
use Rattle.coding.specs.declared.Object.{Object}
use Rattle.coding.specs.declared.Object.TheVariants as Ob
use Rattle.coding.specs.declared.Kind.{Kind}
use Rattle.coding.specs.declared.Kind.TheVariants.{OfFlat, OfObject, OfUnion}
use Rattle.coding.specs.declared.Member.{Member}
use Rattle.coding.specs.declared.Cursor.{Cursor}
use Rattle.coding.specs.declared.Slot.{Slot}
use Rattle.coding.specs.declared.Place.{Place}
use Rattle.coding.specs.declared.Step.{Step}
use Rattle.coding.specs.declared.Step.TheVariants as St
use Rattle.laws.specs.Sound.{All, FlatSound, ObjectSound, KindSound, MemberSound, Sound}
use Rattle.demands.specs.SameLayout.{extends-at, extends-le, cases_same, struct_ok-same, has_flag-same, member_slot-same, element-place-same}

-- no enum: its number stays as it is
pub data Plain : Flat → Type 0 where
  plain_boolean : Plain Boolean
  plain_integer : {s : Bool} {w : ℕ} → Plain (Integer s w)
  plain_float : {w : ℕ} → Plain (Float w)

-- the step of a member or element of a kind of the older, by the older and by the newer schema
pub data SameStep (O : Schema) : Kind → Step → Step → Type 0 where
  refused : {k : Kind} {n : ℕ} → SameStep O k (St.Refused n) (St.Refused n)
  no_value : {k : Kind} → SameStep O k St.Absent St.Absent
  value : {k : Flat} {x : ℕ} → Plain k → SameStep O (OfFlat k) (St.Value x) (St.Value x)
  enum-value : {n x : ℕ} → x < n → SameStep O (OfFlat (Enumerated n)) (St.Value x) (St.Value x)
  enum_appended : {n x : ℕ} → n ≤ x → SameStep O (OfFlat (Enumerated n)) (St.Unknown x) (St.Value x)
  enum-unknown : {n x : ℕ} → SameStep O (OfFlat (Enumerated n)) (St.Unknown x) (St.Unknown x)
  struct-value : {i at : ℕ} → i < length O.structs → SameStep O (OfFlat (Struct i)) (St.Struct i at) (St.Struct i at)
  object-value : {ob : Object} {p : Place} → ObjectSound O ob → SameStep O (OfObject ob) (St.Object ob p) (St.Object ob p)
  choice : {i c : ℕ} {ob : Object} {p : Place} → c ≤ length (cases_of O i) → case_of (cases_of O i) c ≡ ob → ObjectSound O ob
      → SameStep O (OfUnion i) (St.Choice c ob p) (St.Choice c ob p)
  choice_appended : {i c : ℕ} {ob : Object} {p : Place} → length (cases_of O i) < c
      → SameStep O (OfUnion i) (St.Unknown c) (St.Choice c ob p)
  choice-unknown : {i c : ℕ} → SameStep O (OfUnion i) (St.Unknown c) (St.Unknown c)

module _ {O : Schema} {k : Kind} where
  pick_step : {a a' b b' : Step} (t : Bool) → SameStep O k a a' → SameStep O k b b' → SameStep O k (pick t a b) (pick t a' b')
  pick_step true x y = x
  pick_step false x y = y

  inside_step : {a a' b b' : Step} (n : ℕ) (slot : Slot) → SameStep O k a a' → SameStep O k b b'
      → SameStep O k (inside n slot a b) (inside n slot a' b')
  unfolding inside
  inside_step n slot x y = pick_step (leb n slot.at) x (pick_step (leb (slot.at + slot.size) n) y refused)

  flagged_step : {a a' : Step} (m : List ℕ) (start n : ℕ) (flag slot : Slot) → SameStep O k a a'
      → SameStep O k (flagged m start n flag slot a) (flagged m start n flag slot a')
  unfolding flagged
  flagged_step m start n flag slot s =
      pick_step (leb n flag.at) no_value
      (pick_step (eqb (bit_at m (start + flag.at) flag.bit) 1) (inside_step n slot refused s) (inside_step n slot no_value no_value))

enum_step_lem : (O : Schema) (n n' x : ℕ) → n ≤ n' → SameStep O (OfFlat (Enumerated n)) (enum_step n x) (enum_step n' x)
unfolding enum_step
enum_step_lem O n n' x h = pick_step (eqb x 255) no_value (by (ltb x n) (ltb x n') refl refl)
  where
    by : (t u : Bool) → ltb x n ≡ t → ltb x n' ≡ u
        → SameStep O (OfFlat (Enumerated n)) (pick t (St.Value x) (St.Unknown x)) (pick u (St.Value x) (St.Unknown x))
    by true true e f = enum-value (ltb-true x n e)
    by true false e f = absurd (omega (arith, ltb-true x n e, ltb-false x n' f))
    by false true e f = enum_appended (ltb-false x n e)
    by false false e f = enum-unknown

pub all-at : {A : Type 0} (P : A → Type 0) (xs : List A) → All P xs → (i : ℕ) → i < length xs → (d : A) → P (get_or xs i d)
all-at P [] a i h d = absurd (omega arith)
all-at P (x ∷ xs) a zero h d = a.0
all-at P (x ∷ xs) a (suc i) h d = all-at P xs a.1 i (omega arith) d

module _ (O N : Schema) (sound : Sound O) (G : SchemaAppends O N) where
  union_step_lem : (i : ℕ) → i < length O.unions → (inplace : Bool) (tail c x : ℕ)
      → SameStep O (OfUnion i) (union_step (cases_of O i) inplace tail c x) (union_step (cases_of N i) inplace tail c x)
  unfolding union_step case_of
  union_step_lem i h inplace tail c x = by_none (eqb c 0) refl
    where
      longer : Extends SameObject (cases_of O i) (cases_of N i)
      longer = cases_same O N sound G i h

      both : (ob ob' : Object) → SameObject ob ob' → c ≤ length (cases_of O i) → get_or (cases_of O i) (pred c) Ob.Text ≡ ob → ObjectSound O ob
          → SameStep O (OfUnion i) (St.Choice c ob (place_of inplace tail x)) (St.Choice c ob' (place_of inplace tail x))
      both ob ob' same u e s = choice u e s

      by_cases : (t u : Bool) → leb c (length (cases_of O i)) ≡ t → leb c (length (cases_of N i)) ≡ u → eqb c 0 ≡ false
          → SameStep O (OfUnion i)
          (pick t (St.Choice c (get_or (cases_of O i) (pred c) Ob.Text) (place_of inplace tail x)) (St.Unknown c))
          (pick u (St.Choice c (get_or (cases_of N i) (pred c) Ob.Text) (place_of inplace tail x)) (St.Unknown c))
      by_cases true true e f z =
          let l : pred c < length (cases_of O i) = omega (arith, leb-true c (length (cases_of O i)) e, eqb-false c 0 z) in
          both _ _ (extends-at longer (pred c) l Ob.Text Ob.Text) (leb-true c (length (cases_of O i)) e) refl
          (all-at (ObjectSound O) (cases_of O i) (sound.unions i).cases (pred c) l Ob.Text)
      by_cases true false e f z =
          absurd (omega (arith, leb-true c (length (cases_of O i)) e, leb-false c (length (cases_of N i)) f, extends-le longer))
      by_cases false true e f z = choice_appended (leb-false c (length (cases_of O i)) e)
      by_cases false false e f z = choice-unknown

      by_none : (t : Bool) → eqb c 0 ≡ t
          → SameStep O (OfUnion i)
          (pick t St.Absent (pick (leb c (length (cases_of O i))) (St.Choice c (get_or (cases_of O i) (pred c) Ob.Text) (place_of inplace tail x)) (St.Unknown c)))
          (pick t St.Absent (pick (leb c (length (cases_of N i))) (St.Choice c (get_or (cases_of N i) (pred c) Ob.Text) (place_of inplace tail x)) (St.Unknown c)))
      by_none true z = no_value
      by_none false z = by_cases (leb c (length (cases_of O i))) (leb c (length (cases_of N i))) refl refl z

  module _ (m : List ℕ) where
    -- steps that are the same stay so where their structs are tested
    tested-same : {k : Kind} {a b : Step} → SameStep O k a b → SameStep O k (struct_tested O m a) (struct_tested N m b)
    unfolding struct_tested
    tested-same refused = refused
    tested-same no_value = no_value
    tested-same (value p) = value p
    tested-same (enum-value h) = enum-value h
    tested-same (enum_appended h) = enum_appended h
    tested-same enum-unknown = enum-unknown
    tested-same (struct-value {i} {at} h) = rw (struct_ok-same O N sound G m i h at) (pick_step (struct_ok N m i at) (struct-value h) refused)
    tested-same (object-value s) = object-value s
    tested-same (choice u e s) = choice u e s
    tested-same (choice_appended h) = choice_appended h
    tested-same choice-unknown = choice-unknown

    flat_step_lem : {k k' : Flat} → FlatAppends k k' → FlatSound (length O.structs) k → (none : Bool) (at bit : ℕ)
        → SameStep O (OfFlat k) (flat_step m k none at bit) (flat_step m k' none at bit)
    unfolding flat_step float_step
    flat_step_lem boolean s none at bit = value plain_boolean
    flat_step_lem integer s none at bit = value plain_integer
    flat_step_lem (float {w}) s none at bit = pick_step (none && is_nan w (le m at w)) no_value (value plain_float)
    flat_step_lem (enumerated {n} {n'} h) s none at bit = enum_step_lem O n n' (get_or m at 0) h
    flat_step_lem (struct {i}) s none at bit = struct-value s

    value_step_lem : (o : ℕ) {k k' : Kind} → KindAppends k k' → KindSound O k → (none inplace : Bool) (tail at bit : ℕ)
        → SameStep O k (value_step o O m k none inplace tail at bit) (value_step o N m k' none inplace tail at bit)
    unfolding value_step object_step
    value_step_lem o (flat r) s none inplace tail at bit = flat_step_lem r s none at bit
    value_step_lem o object s none inplace tail at bit = pick_step (eqb (le m at o) 0) no_value (object-value s)
    value_step_lem o (union {i}) s none inplace tail at bit = union_step_lem i s inplace tail (le m at 2) (le m (at + 2) o)

    pub member_step-same : (o : ℕ) {r r' : Member} → MemberAppends r r' → MemberSound O r → (start n : ℕ) (c : Cursor)
        → SameStep O r.kind (member_step o O m start n c r) (member_step o N m start n c r')
    unfolding member_step placed_step placement_of
    member_step-same o {r} {r'} q s start n c =
        tested-same
        (rw (has_flag-same q, member_slot-same O N sound G o q s c, q.optional, q.inplace)
        (pick_step (has_flag r') (flagged_step m start n (bit_slot c) (member_slot o N r' c) here) (inside_step n (member_slot o N r' c) no_value here)))
      where
        here : SameStep O r.kind
            (value_step o O m r.kind r'.optional r'.inplace (start + n) (start + (member_slot o N r' c).at) (member_slot o N r' c).bit)
            (value_step o N m r'.kind r'.optional r'.inplace (start + n) (start + (member_slot o N r' c).at) (member_slot o N r' c).bit)
        here = value_step_lem o q.kind s.kind _ _ _ _ _

    pub element_step-same : (o : ℕ) {k k' : Kind} → KindAppends k k' → KindSound O k → (start i : ℕ)
        → SameStep O k (element_step o O m k start i) (element_step o N m k' start i)
    unfolding element_step
    element_step-same o r s start i = tested-same (rw (element-place-same O N sound G o r s start i) (value_step_lem o r s _ _ _ _ _))
