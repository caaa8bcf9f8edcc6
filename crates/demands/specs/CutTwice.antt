-- A tree without what a newer schema appended to a middle one, and then without what the middle one appended to an older, is the tree
-- without all of it: "without the appended members", done twice. Of every tree, whatever it was read from.
use Prim.Native.Nat.{ℕ, zero, suc, ◌≤◌, ◌<◌, pred}
use Rattle.std.proofs.Common.{arith, ap, ltb-false, le-ltb, leb-true, leb-false}
use Rattle.std.specs.Prelude.{List, Bool, true, false, ◌≡◌, ltb, leb}
use Rattle.std.proofs.Math.Path.{refl, ap₂}
use Rattle.std.proofs.Math.ListN.{length}
use Rattle.std.proofs.lemmas.Bool.{lt-leb}
use Rattle.coding.specs.Lists.{pick}
use Rattle.coding.specs.Schema.{Schema, cases_of, case_of}
use Rattle.coding.specs.Value.{Value, Values, absent, unknown, number, blob, row, chosen, none, ◌then◌, first, others}
use Rattle.coding.specs.Append.{Extends, rest, more, Alike, done, also, FlatAppends, boolean, integer, float, enumerated, struct, KindAppends, flat, object, union, MemberAppends, SameObject, same, SchemaAppends, without_enum, in_row, without_flat, without_fields, without_by, same-value, without_struct, Change, without_choice, without_part, without_members, without_elements, in_elements, without_content, without}
use Rattle.coding.specs.declared.Flat.{Flat}
use Rattle.coding.specs.declared.Object.{Object}
use Rattle.coding.specs.declared.Object.TheVariants as Ob
use Rattle.coding.specs.declared.Kind.{Kind}
use Rattle.coding.specs.declared.Member.{Member}
use Rattle.laws.specs.Structs.{index_holds₂}
use Rattle.laws.specs.Sound.{All, FlatSound, ObjectSound, KindSound, MemberSound, Sound}
use Rattle.demands.specs.SameLayout.{extends-at, extends-le, struct-same, cases_same, element-same, table_same}
use Rattle.demands.specs.SameStep.{all-at}

-- ---- enums and rows
enum-twice : (n n' : ℕ) → n ≤ n' → (v : Value) → without_enum n (without_enum n' v) ≡ without_enum n v
unfolding without_enum
enum-twice n n' h absent = refl
enum-twice n n' h (unknown x) = refl
enum-twice n n' h (number x) = by (ltb x n') refl
  where
    by : (t : Bool) → ltb x n' ≡ t → without_enum n (pick t (number x) (unknown x)) ≡ pick (ltb x n) (number x) (unknown x)
    by true e = refl
    by false e = rw (le-ltb x n (omega (arith, ltb-false x n' e)))
enum-twice n n' h (blob l) = refl
enum-twice n n' h (row vs) = refl
enum-twice n n' h (chosen c v) = refl

row-twice : (f g : Values → Values) → ((vs : Values) → f (g vs) ≡ f vs) → (v : Value) → in_row f (in_row g v) ≡ in_row f v
unfolding in_row
row-twice f g e absent = refl
row-twice f g e (unknown x) = refl
row-twice f g e (number x) = refl
row-twice f g e (blob l) = refl
row-twice f g e (row vs) = ap row (e vs)
row-twice f g e (chosen c v) = refl

-- ---- structs, given the inner ones
module _ (n : ℕ) (f g : ℕ → Value → Value) (e : (j : ℕ) → j < n → (v : Value) → f j (g j v) ≡ f j v) where
  flat-twice : {k k' : Flat} → FlatAppends k k' → FlatSound n k → (v : Value)
      → without_flat f k (without_flat g k' v) ≡ without_flat f k v
  unfolding without_flat
  flat-twice boolean s v = refl
  flat-twice integer s v = refl
  flat-twice float s v = refl
  flat-twice (enumerated {n} {n'} h) s v = enum-twice n n' h v
  flat-twice (struct {i}) s v = e i s v

  fields-twice : {ks ks' : List Flat} → Alike FlatAppends ks ks' → All (FlatSound n) ks → (vs : Values)
      → without_fields f ks (without_fields g ks' vs) ≡ without_fields f ks vs
  unfolding without_fields first others
  fields-twice done s vs = refl
  fields-twice (also r l) s vs = ap₂ ◌then◌ (flat-twice r s.0 (first vs)) (fields-twice l s.1 (others vs))

-- O is the older, N the middle one, which appends to it; a union of the older has a case
module _ (O N : Schema) (sound : Sound O) (G : SchemaAppends O N) (some : (i : ℕ) → i < length O.unions → 0 < length (cases_of O i)) where
  struct-twice : (i : ℕ) → i < length O.structs → (v : Value) → without_struct O i (without_struct N i v) ≡ without_struct O i v
  unfolding without_struct without_by
  struct-twice =
      index_holds₂ (λ i a b. i < length O.structs → (v : Value) → a (b v) ≡ a v) same-value (without_by O) same-value (without_by N) next
    where
      next : (i : ℕ) (f g : ℕ → Value → Value)
          → ((j : ℕ) → j < i → j < length O.structs → (v : Value) → f j (g j v) ≡ f j v) → i < length O.structs → (v : Value)
          → without_by O f i (without_by N g i v) ≡ without_by O f i v
      next i f g e h v =
          row-twice _ _ (fields-twice i f g (λ j l. e j l (omega arith)) (struct-same O N sound G i h) (sound.structs i).members) v

  -- ---- members and elements, given the objects
  module _ (a b : Change) (H : (ob : Object) → ObjectSound O ob → (v : Value) → a ob (b ob v) ≡ a ob v) where
    case_twice : (i : ℕ) → i < length O.unions → (c : ℕ) → c ≤ length (cases_of O i) → (v : Value)
        → a (case_of (cases_of O i) c) (b (case_of (cases_of N i) c) v) ≡ a (case_of (cases_of O i) c) v
    unfolding case_of
    case_twice i h c l v =
        by (extends-at (cases_same O N sound G i h) (pred c) k Ob.Text Ob.Text)
        (all-at (ObjectSound O) (cases_of O i) (sound.unions i).cases (pred c) k Ob.Text)
      where
        k : pred c < length (cases_of O i)
        k = omega (arith, some i h)

        by : {ob ob' : Object} → SameObject ob ob' → ObjectSound O ob → a ob (b ob' v) ≡ a ob v
        by (same {ob}) s = H ob s v

    choice-twice : (i : ℕ) → i < length O.unions → (v : Value)
        → without_choice a (cases_of O i) (without_choice b (cases_of N i) v) ≡ without_choice a (cases_of O i) v
    unfolding without_choice
    choice-twice i h absent = refl
    choice-twice i h (unknown x) = refl
    choice-twice i h (number x) = refl
    choice-twice i h (blob l) = refl
    choice-twice i h (row vs) = refl
    choice-twice i h (chosen c v) = by (leb c (length (cases_of N i))) refl
      where
        kept : Value → Value
        kept u = chosen c (a (case_of (cases_of O i) c) u)

        both : (t : Bool) → leb c (length (cases_of O i)) ≡ t
            → pick t (kept (b (case_of (cases_of N i) c) v)) (unknown c) ≡ pick t (kept v) (unknown c)
        both true e = ap (chosen c) (case_twice i h c (leb-true c (length (cases_of O i)) e) v)
        both false e = refl

        by : (t : Bool) → leb c (length (cases_of N i)) ≡ t
            → without_choice a (cases_of O i) (pick t (chosen c (b (case_of (cases_of N i) c) v)) (unknown c))
            ≡ pick (leb c (length (cases_of O i))) (kept v) (unknown c)
        by true e = both (leb c (length (cases_of O i))) refl
        by false e =
            let l : length (cases_of O i) < c =
            omega (arith, leb-false c (length (cases_of N i)) e, extends-le (cases_same O N sound G i h)) in
            rw (lt-leb c (length (cases_of O i)) l)

    part-twice : {k k' : Kind} → KindAppends k k' → KindSound O k → (v : Value) → without_part a O k (without_part b N k' v) ≡ without_part a O k v
    unfolding without_part
    part-twice (flat r) s v = flat-twice (length O.structs) (without_struct O) (without_struct N) struct-twice r s v
    part-twice (object {ob}) s v = H ob s v
    part-twice (union {i}) s v = choice-twice i s v

    members-twice : {rs rs' : List Member} → Extends MemberAppends rs rs' → All (MemberSound O) rs → (vs : Values)
        → without_members a O rs (without_members b N rs' vs) ≡ without_members a O rs vs
    unfolding without_members first others
    members-twice rest s vs = refl
    members-twice (more q l) s vs =
        ap₂ ◌then◌ (part-twice q.kind s.0.kind (first vs)) (members-twice l s.1 (others vs))

    elements-twice : {k k' : Kind} → KindAppends k k' → KindSound O k → (vs : Values)
        → without_elements a O k (without_elements b N k' vs) ≡ without_elements a O k vs
    unfolding without_elements
    elements-twice q s none = refl
    elements-twice q s (v then vs) = ap₂ ◌then◌ (part-twice q s v) (elements-twice q s vs)

    directs-twice : (t : ℕ) → ObjectSound O (Ob.Table t) → (vs : Values) → in_elements a t (in_elements b t vs) ≡ in_elements a t vs
    unfolding in_elements
    directs-twice t q none = refl
    directs-twice t q (v then vs) = ap₂ ◌then◌ (H (Ob.Table t) q v) (directs-twice t q vs)

    content-twice : (ob : Object) → ObjectSound O ob → (v : Value) → without_content a O ob (without_content b N ob v) ≡ without_content a O ob v
    unfolding without_content
    content-twice Ob.Text q v = refl
    content-twice Ob.Bytes q v = refl
    content-twice (Ob.List i) q v = row-twice _ _ (elements-twice (element-same O N sound G i q) (sound.lists i).kind) v
    content-twice (Ob.Table i) q v = row-twice _ _ (members-twice (table_same O N sound G i q).members (sound.tables i).members) v
    content-twice (Ob.DirectList t) q v = row-twice _ _ (directs-twice t q.table) v

  -- the older's cut makes the middle's needless
  pub without-twice : (d : ℕ) (ob : Object) → ObjectSound O ob → (v : Value) → without d O ob (without d N ob v) ≡ without d O ob v
  unfolding without
  without-twice zero ob q v = refl
  without-twice (suc d) ob q v = content-twice (without d O) (without d N) (without-twice d) ob q v
