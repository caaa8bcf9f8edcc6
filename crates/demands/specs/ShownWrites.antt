-- A tree that the schema can show and that is writable can be written.
use Rattle.std.specs.Prelude.{◌≡◌, List, Bool, ◌&&◌, ltb}
use Rattle.std.proofs.Math.Path.{refl}
use Rattle.std.proofs.Common.{subst, arith, ltb-true}
use Rattle.std.proofs.Math.Bool.{true, false}
use Prim.Native.Nat.{ℕ, zero, suc, ◌+◌, ◌*◌, ◌^◌, ◌<◌, ◌≤◌}
use Rattle.std.proofs.lemmas.Bool.{not-true}
use Rattle.coding.specs.Lists.{pick}
use Rattle.coding.specs.Bytes.{is_nan}
use Rattle.coding.specs.Schema.{Schema, cases_of, case_of}
use Rattle.coding.specs.Layout.{flat_takes_flag}
use Rattle.coding.specs.Value.{Value, Values, absent, row, as_number, as_blob, as_row, as_object, present, known, first, others}
use Rattle.coding.specs.Sheet.{unmarked, flat_unmarked}
use Rattle.coding.specs.Walk.{stands_in_place}
use Rattle.coding.specs.Message.{length_of, flat_known, flats_known, known_by, all_known, struct_known, flat_writable, Test, keeps_unions, value_writable, members_writable, elements_writable, directs_writable, content_writable, writable}
use Rattle.coding.specs.declared.Flat.{Flat}
use Rattle.coding.specs.declared.Flat.TheVariants as F
use Rattle.coding.specs.declared.Object.{Object}
use Rattle.coding.specs.declared.Object.TheVariants as O
use Rattle.coding.specs.declared.Kind.{Kind}
use Rattle.coding.specs.declared.Kind.TheVariants.{OfFlat, OfObject, OfUnion}
use Rattle.coding.specs.declared.Member.{Member}
use Rattle.laws.specs.Sound.{All, FlatSound, ObjectSound, KindSound, MemberSound, NotDirect, MayStandInPlace, NoStruct, Sound}
use Rattle.laws.specs.SoundAt.{case_sound-at, case-not-direct-at}
use Rattle.laws.specs.FixedSizes.{fixed_small}
use Rattle.laws.specs.Lists.{never, both_left, both_right}
use Rattle.laws.specs.Structs.{index_holds}
use Rattle.demands.specs.Shown.{Objects, FlatShown, FlatsShown, boolean, integer, float, no-enum, enum, unknown-enum, struct, no-flat, flats, PartShown, no-part, flat, object, choice, unknown-choice, MembersShown, no_member, members, ElementsShown, no-element, elements, DirectsShown, no-direct, directs, ContentShown, text, bytes, list, table, direct_list, Shown}
use Rattle.demands.specs.Writes.{FlatWrites, FlatsWrite, PartWrites, MembersWrite, ElementsWrite, DirectsWrite, ContentWrites, Writes}
use Rattle.demands.specs.Writes as W

-- a number's bits and its bytes
bytes_small : (w x : ℕ) → x < 2 ^ (8 * w) → x < 256 ^ w
bytes_small w x h = subst (λ (n : ℕ). x < n) (powers w) h
  where
    eight : (w : ℕ) → 8 * suc w ≡ suc (suc (suc (suc (suc (suc (suc (suc (8 * w))))))))
    eight w = omega arith

    powers : (w : ℕ) → 2 ^ (8 * w) ≡ 256 ^ w
    powers zero = refl
    powers (suc w) = let ih = powers w in rw (eight w) (omega arith)

-- what is no direct list may stand in place
stands_in-place : (ob : Object) → NotDirect ob → stands_in_place ob ≡ true
unfolding stands_in_place
stands_in-place O.Text h = refl
stands_in-place O.Bytes h = refl
stands_in-place (O.List i) h = refl
stands_in-place (O.Table i) h = refl
stands_in-place (O.DirectList t) h = absurd h

-- ---- structs
module _ (S : Schema) (sound : Sound S) where
  module _ (i : ℕ) (t : ℕ → Value → Bool)
      (inner : (j : ℕ) → j < i → (v : Value) → FlatShown S (F.Struct j) v → t j v ≡ true → FlatWrites S (F.Struct j) v) where
    field_writes : {k : Flat} {v : Value} → FlatSound i k → FlatShown S k v → flat_known t k v ≡ true → FlatWrites S k v
    unfolding flat_known known
    field_writes ok (boolean h) e = W.boolean h
    field_writes ok (integer {w = w} {x = x} h) e = W.integer (bytes_small w x h)
    field_writes ok (float {w = w} {x = x} h) e = W.float (bytes_small w x h)
    field_writes ok no-enum e = W.no-enum
    field_writes ok (enum h) e = W.enum h
    field_writes ok (unknown-enum h l) e = never e
    field_writes ok (struct {i = j} {vs = vs} h) e = inner j ok (row vs) (struct h) e

    fields_write : {ks : List Flat} {vs : Values} → All (FlatSound i) ks → FlatsShown S ks vs → flats_known t ks vs ≡ true → FlatsWrite S ks vs
    unfolding flats_known first others
    fields_write ok no-flat e = W.no-flat
    fields_write ok (flats {k = k} {ks = ks} {v = v} {vs = vs} h hs) e =
        W.flats (field_writes ok.0 h (both_left (flat_known t k v) (flats_known t ks vs) e))
        (fields_write ok.1 hs (both_right (flat_known t k v) (flats_known t ks vs) e))

    row_writes : (v : Value) → FlatShown S (F.Struct i) v → known_by S t i v ≡ true → FlatWrites S (F.Struct i) v
    unfolding known_by as_row
    row_writes v (struct h) e = W.struct (fields_write (sound.structs i).members h e)

  struct_writes : (i : ℕ) (v : Value) → FlatShown S (F.Struct i) v → struct_known S i v ≡ true → FlatWrites S (F.Struct i) v
  unfolding struct_known
  struct_writes i =
      index_holds (λ (j : ℕ) (t : Value → Bool). (v : Value) → FlatShown S (F.Struct j) v → t v ≡ true → FlatWrites S (F.Struct j) v)
      all_known (known_by S) (λ j t h. row_writes j t h) i

  -- ---- members and elements
  module _ (kept : Bool) (o : ℕ) (narrow : 2 + o ≤ 4096) (child : Objects) (test : Test) (G : Objects)
      (inner : (ob : Object) (v : Value) → ObjectSound S ob → child ob v → test ob v ≡ true → G ob v)
      (there : (ob : Object) (v : Value) → child ob v → present v ≡ true) where
    no-flat_writes : (k : Flat) (optional inplace : Bool) → flat_writable S optional k absent ≡ true
        → PartWrites G o S optional optional inplace (OfFlat k) absent
    unfolding flat_writable present flat_takes_flag
    no-flat_writes F.Boolean optional inplace e = W.no-flat e refl
    no-flat_writes (F.Integer s w) optional inplace e = W.no-flat e refl
    no-flat_writes (F.Float w) optional inplace e = W.no_float_lem e
    no-flat_writes (F.Enumerated n) optional inplace e = W.flat W.no-enum tt
    no-flat_writes (F.Struct i) optional inplace e = W.no-flat e refl

    no-part_writes : (k : Kind) (optional inplace : Bool) → value_writable test kept o S k optional inplace absent ≡ true
        → PartWrites G o S optional optional inplace k absent
    unfolding value_writable
    no-part_writes (OfFlat k) optional inplace e = no-flat_writes k optional inplace e
    no-part_writes (OfObject ob) optional inplace e = W.no-object
    no-part_writes (OfUnion i) optional inplace e = W.no-union

    flat_writes : {k : Flat} {v : Value} (optional inplace : Bool) → FlatShown S k v → flat_writable S optional k v ≡ true
        → PartWrites G o S optional optional inplace (OfFlat k) v
    unfolding flat_writable present known as_number
    flat_writes optional inplace (boolean h) e = W.flat (W.boolean h) tt
    flat_writes optional inplace (integer {w = w} {x = x} h) e = W.flat (W.integer (bytes_small w x h)) tt
    flat_writes optional inplace (float {w = w} {x = x} h) e =
        W.flat (W.float (bytes_small w x h)) (not-true (optional && is_nan w x) e)
    flat_writes optional inplace no-enum e = W.flat W.no-enum tt
    flat_writes optional inplace (enum h) e = W.flat (W.enum h) tt
    flat_writes optional inplace (unknown-enum h l) e = never e
    flat_writes optional inplace (struct {i = i} {vs = vs} h) e = W.flat (struct_writes i (row vs) (struct h) e) tt

    long_by : (t : Bool) (n : ℕ) → pick t (ltb 0 n) true ≡ true → t ≡ true → 0 < n
    long_by true n e f = ltb-true 0 n e
    long_by false n e f = never f

    part_writes : {k : Kind} {v : Value} (optional inplace : Bool) → KindSound S k → (inplace ≡ true → MayStandInPlace S k)
        → PartShown child S k v → value_writable test kept o S k optional inplace v ≡ true → PartWrites G o S optional optional inplace k v
    unfolding value_writable present as_number as_object known
    part_writes optional inplace s may (no-part {k = k}) e = no-part_writes k optional inplace e
    part_writes optional inplace s may (flat h) e = flat_writes optional inplace h e
    part_writes optional inplace s may (object {ob = ob} {v = v} h) e =
        let p = there ob v h in
        let n = length_of o S ob v in
        let q : (pick inplace (ltb 0 n) true && test ob v) ≡ true = rw p at e in
        W.object (inner ob v s h (both_right (pick inplace (ltb 0 n) true) (test ob v) q)) p
        (long_by inplace n (both_left (pick inplace (ltb 0 n) true) (test ob v) q)) (λ t. stands_in-place ob (may t))
    part_writes optional inplace s may (choice {i = i} {c = c} {v = v} l b h) e =
        W.choice l b (inner (case_of (cases_of S i) c) v (case_sound-at S sound i c l b) h (both_right (pick inplace kept true) (test (case_of (cases_of S i) c) v) e))
        (λ t. stands_in-place (case_of (cases_of S i) c) (case-not-direct-at S i c l b (may t)))
    part_writes optional inplace s may (unknown-choice h l) e = never e

    -- a bool or an integer of a list is there
    element_writes : {k : Kind} {v : Value} {nan inplace : Bool} → (unmarked k ≡ true → present v ≡ true) → NoStruct k → PartWrites G o S true nan inplace k v
        → PartWrites G o S false nan inplace k v
    unfolding unmarked flat_unmarked present flat_takes_flag
    element_writes b s (W.no-flat {k = F.Boolean} e t) = never (b refl)
    element_writes b s (W.no-flat {k = F.Integer g w} e t) = never (b refl)
    element_writes b s (W.no-flat {k = F.Float w} e t) = never t
    element_writes b s (W.no-flat {k = F.Enumerated n} e t) = W.flat W.no-enum tt
    element_writes b s (W.no-flat {k = F.Struct i} e t) = absurd s
    element_writes b s (W.no_float_lem e) = W.no_float_lem e
    element_writes b s (W.flat h n) = W.flat h n
    element_writes b s W.no-object = W.no-object
    element_writes b s (W.object g p l d) = W.object g p l d
    element_writes b s W.no-union = W.no-union
    element_writes b s (W.choice l c g d) = W.choice l c g d

    members_write : {rs : List Member} {vs : Values} → All (MemberSound S) rs → MembersShown child S rs vs → members_writable test kept o S rs vs ≡ true → MembersWrite G o S rs vs
    unfolding members_writable first others
    members_write ok no_member e = W.no_member
    members_write ok (members {r = r} {rs = rs} {v = v} {vs = vs} h hs) e =
        let a = value_writable test kept o S r.kind r.optional r.inplace v in
        let b = members_writable test kept o S rs vs in
        W.members (part_writes r.optional r.inplace ok.0.kind ok.0.inplace h (both_left a b e))
        (members_write ok.1 hs (both_right a b e))

    elements_write : {k : Kind} {vs : Values} → KindSound S k → NoStruct k → ElementsShown child S k vs → elements_writable test kept o S k vs ≡ true
        → ElementsWrite G o S k vs
    unfolding elements_writable
    elements_write ok s no-element e = W.no-element
    elements_write {k} ok s (elements {v = v} {vs = vs} h there' hs) e =
        let a = value_writable test kept o S k true false v in
        let b = elements_writable test kept o S k vs in
        W.elements (element_writes there' s (part_writes true false ok (λ f. never f) h (both_left a b e))) (elements_write ok s hs (both_right a b e))

    directs_write : {t : ℕ} {vs : Values} → ObjectSound S (O.Table t) → DirectsShown child t vs → directs_writable test t vs ≡ true
        → DirectsWrite G t vs
    unfolding directs_writable
    directs_write ok no-direct e = W.no-direct
    directs_write {t} ok (directs {v = v} {vs = vs} h hs) e =
        let a = test (O.Table t) v in
        let b = directs_writable test t vs in
        W.directs (inner (O.Table t) v ok h (both_left a b e)) (directs_write ok hs (both_right a b e))

    content_writes : {ob : Object} {v : Value} → ObjectSound S ob → ContentShown child S ob v → content_writable test kept o S ob v ≡ true
        → ContentWrites G o S ob v
    unfolding content_writable as_blob as_row
    content_writes ok (text h l) e = W.text h e
    content_writes ok (bytes h l) e = W.bytes h
    content_writes ok (list {i = i} l h) e = W.list (elements_write (sound.lists i).kind (sound.lists i).scalar h e)
    content_writes ok (table {i = i} h) e = W.table (members_write (sound.tables i).members h e)
    content_writes ok (direct_list {t = t} l h) e =
        W.direct_list ok (omega (arith, fixed_small o narrow S sound t)) l (directs_write ok.table h e)

  content_there : {child : Objects} {ob : Object} {v : Value} → ContentShown child S ob v → present v ≡ true
  unfolding present
  content_there (text h l) = refl
  content_there (bytes h l) = refl
  content_there (list l h) = refl
  content_there (table h) = refl
  content_there (direct_list l h) = refl

  shown_there : (d : ℕ) (ob : Object) (v : Value) → Shown d S ob v → present v ≡ true
  shown_there zero ob v h = absurd h
  shown_there (suc d) ob v h = content_there h

  pub shown_writes : (o : ℕ) → 2 + o ≤ 4096 → (d : ℕ) (ob : Object) (v : Value) → ObjectSound S ob → Shown d S ob v → writable d o S ob v ≡ true
      → Writes d o S ob v
  unfolding writable
  shown_writes o narrow zero ob v ok h e = absurd h
  shown_writes o narrow (suc d) ob v ok h e =
      content_writes (keeps_unions o) o narrow (Shown d S) (writable d o S) (Writes d o S) (shown_writes o narrow d) (shown_there d) ok h e
