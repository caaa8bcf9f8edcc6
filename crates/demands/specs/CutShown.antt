-- A tree that a newer schema can show, without the appended members, is a tree that the older schema can show: so a lawful sheet of the
-- newer, cut down, is the sheet of a tree of the older, whatever it was read from.
use Prim.Native.Nat.{ℕ, zero, suc, ◌≤◌, ◌<◌, ◌^◌, pred}
use Rattle.std.proofs.Common.{le_trans, sym, ap}
use native.Mathlib.Omega.{arith}
use Rattle.std.specs.Prelude.{List, Bool, ◌≡◌, ltb}
use Rattle.std.proofs.Math.Bool.{true, false}
use Rattle.std.proofs.Math.Path.{refl, subst}
use Rattle.std.proofs.Math.ListN.{length}
use Rattle.std.proofs.Math.Dec.{leb}
use borrow.Author.Tests.{ltb-true, ltb-false, leb-true, leb-false}
use Rattle.coding.specs.Lists.{pick}
use Rattle.coding.specs.Schema.{Schema, element_of, cases_of, case_of}
use Rattle.coding.specs.Value.{Value, Values, absent, unknown, number, row, chosen, none, ◌then◌, present, count, first, others}
use Rattle.coding.specs.Sheet.{unmarked, flat_unmarked}
use Rattle.coding.specs.Append.{Extends, rest, more, Alike, done, also, FlatAppends, boolean, integer, float, enumerated, struct, KindAppends, flat, object, union, MemberAppends, SameObject, same, SchemaAppends, without_enum, in_row, without_flat, without_fields, without_by, same-value, without_struct, Change, without_choice, without_part, without_members, without_elements, in_elements, without_content, without}
use Rattle.coding.specs.declared.Flat.{Flat}
use Rattle.coding.specs.declared.Flat.TheVariants.{Enumerated, Struct}
use Rattle.coding.specs.declared.Object.{Object}
use Rattle.coding.specs.declared.Object.TheVariants as Ob
use Rattle.coding.specs.declared.Kind.{Kind}
use Rattle.coding.specs.declared.Kind.TheVariants.{OfUnion}
use Rattle.coding.specs.declared.Member.{Member}
use Rattle.laws.specs.Lists.{never}
use Rattle.laws.specs.Structs.{index_holds}
use Rattle.laws.specs.Sound.{All, FlatSound, ObjectSound, KindSound, MemberSound, Sound}
use Rattle.demands.specs.Shown as Sh
use Rattle.demands.specs.Shown.{FlatShown, FlatsShown, Objects, PartShown, MembersShown, ElementsShown, DirectsShown, ContentShown, Shown}
use Rattle.demands.specs.SameLayout.{extends-at, extends-le, struct-same, cases_same, element-same, table_same}
use Rattle.demands.specs.SameStep.{all-at}
use Rattle.demands.specs.OlderReads.{part_absent, without_absent}

-- a value below the newer count: below the older one, or unknown there
enum-cut : (O : Schema) (n n' x : ℕ) → n' ≤ 255 → x < n' → FlatShown O (Enumerated n) (without_enum n (number x))
unfolding without_enum
enum-cut O n n' x m l = by (ltb x n) refl
  where
    by : (t : Bool) → ltb x n ≡ t → FlatShown O (Enumerated n) (pick t (number x) (unknown x))
    by true e = Sh.enum (ltb-true x n e)
    by false e = Sh.unknown-enum (ltb-false x n e) (le_trans l m)

-- ---- structs, given the inner ones
module _ (O N : Schema) (n : ℕ) (g : ℕ → Value → Value)
    (e : (j : ℕ) → j < n → (v : Value) → FlatShown N (Struct j) v → FlatShown O (Struct j) (g j v)) where
  flat-cut : {k k' : Flat} → FlatAppends k k' → FlatSound n k → (l : ℕ) → FlatSound l k' → {v : Value} → FlatShown N k' v
      → FlatShown O k (without_flat g k v)
  unfolding without_flat without_enum
  flat-cut boolean s l s' (Sh.boolean h) = Sh.boolean h
  flat-cut integer s l s' (Sh.integer h) = Sh.integer h
  flat-cut float s l s' (Sh.float h) = Sh.float h
  flat-cut (enumerated h) s l s' Sh.no-enum = Sh.no-enum
  flat-cut (enumerated {n} {n'} h) s l s' (Sh.enum {x} q) = enum-cut O n n' x s'.1 q
  flat-cut (enumerated h) s l s' (Sh.unknown-enum q m) = Sh.unknown-enum (le_trans h q) m
  flat-cut (struct {i}) s l s' (Sh.struct {vs} q) = e i s (row vs) (Sh.struct q)

  fields-cut : {ks ks' : List Flat} → Alike FlatAppends ks ks' → All (FlatSound n) ks → (l : ℕ) → All (FlatSound l) ks' → {vs : Values}
      → FlatsShown N ks' vs → FlatsShown O ks (without_fields g ks vs)
  unfolding without_fields first others
  fields-cut done s l s' Sh.no-flat = Sh.no-flat
  fields-cut (also r a) s l s' (Sh.flats p q) = Sh.flats (flat-cut r s.0 l s'.0 p) (fields-cut a s.1 l s'.1 q)

-- ---- elements without a mark, and how many there are
element-cut : (a : Change) (O : Schema) {k k' : Kind} → KindAppends k k' → (v : Value) → (unmarked k' ≡ true → present v ≡ true)
    → unmarked k ≡ true → present (without_part a O k v) ≡ true
unfolding unmarked flat_unmarked without_part without_flat
element-cut a O (flat boolean) v h e = h e
element-cut a O (flat integer) v h e = h e
element-cut a O (flat float) v h e = h e
element-cut a O (flat (enumerated l)) v h e = never e
element-cut a O (flat struct) v h e = never e
element-cut a O object v h e = never e
element-cut a O union v h e = never e

elements-count : (a : Change) (O : Schema) (k : Kind) (vs : Values) → count (without_elements a O k vs) ≡ count vs
unfolding without_elements count
elements-count a O k none = refl
elements-count a O k (v then vs) = ap suc (elements-count a O k vs)

directs-count : (a : Change) (t : ℕ) (vs : Values) → count (in_elements a t vs) ≡ count vs
unfolding in_elements count
directs-count a t none = refl
directs-count a t (v then vs) = ap suc (directs-count a t vs)

module _ (O N : Schema) (sound : Sound O) (newer : Sound N) (G : SchemaAppends O N) where
  struct-cut : (i : ℕ) → i < length O.structs → (v : Value) → FlatShown N (Struct i) v → FlatShown O (Struct i) (without_struct O i v)
  unfolding without_struct without_by in_row
  struct-cut =
      index_holds (λ i f. i < length O.structs → (v : Value) → FlatShown N (Struct i) v → FlatShown O (Struct i) (f v)) same-value
      (without_by O) next
    where
      next : (i : ℕ) (g : ℕ → Value → Value)
          → ((j : ℕ) → j < i → j < length O.structs → (v : Value) → FlatShown N (Struct j) v → FlatShown O (Struct j) (g j v))
          → i < length O.structs → (v : Value) → FlatShown N (Struct i) v → FlatShown O (Struct i) (without_by O g i v)
      next i g e h v (Sh.struct q) =
          Sh.struct
          (fields-cut O N i g (λ j l. e j l (omega arith)) (struct-same O N sound G i h) (sound.structs i).members i
          (newer.structs i).members q)

  -- ---- members and elements, given the objects
  module _ (old new : Objects) (a : Change) (Z : (ob : Object) → a ob absent ≡ absent)
      (H : (ob : Object) → ObjectSound O ob → (v : Value) → new ob v → old ob (a ob v)) where
    case-cut : (i : ℕ) → i < length O.unions → (c : ℕ) → 1 ≤ c → c ≤ length (cases_of O i) → (v : Value)
        → new (case_of (cases_of N i) c) v → old (case_of (cases_of O i) c) (a (case_of (cases_of O i) c) v)
    unfolding case_of
    case-cut i h c p l v q =
        by (extends-at (cases_same O N sound G i h) (pred c) k Ob.Text Ob.Text)
        (all-at (ObjectSound O) (cases_of O i) (sound.unions i).cases (pred c) k Ob.Text) q
      where
        k : pred c < length (cases_of O i)
        k = omega arith

        by : {ob ob' : Object} → SameObject ob ob' → ObjectSound O ob → new ob' v → old ob (a ob v)
        by (same {ob}) s q = H ob s v q

    choice-cut : (i : ℕ) → i < length O.unions → (c : ℕ) → 1 ≤ c → c ≤ length (cases_of N i) → (v : Value)
        → new (case_of (cases_of N i) c) v → PartShown old O (OfUnion i) (without_choice a (cases_of O i) (chosen c v))
    unfolding without_choice
    choice-cut i h c p l v q = by (leb c (length (cases_of O i))) refl
      where
        by : (t : Bool) → leb c (length (cases_of O i)) ≡ t
            → PartShown old O (OfUnion i) (pick t (chosen c (a (case_of (cases_of O i) c) v)) (unknown c))
        by true e =
            let k = leb-true c (length (cases_of O i)) e in Sh.choice p k (case-cut i h c p k v q)
        by false e =
            Sh.unknown-choice (leb-false c (length (cases_of O i)) e) (omega (arith, (newer.unions i).few))

    part_cut : {k k' : Kind} → KindAppends k k' → KindSound O k → KindSound N k' → {v : Value} → PartShown new N k' v
        → PartShown old O k (without_part a O k v)
    unfolding without_part without_choice
    part_cut {k} r s s' Sh.no-part = subst (λ (v : Value). PartShown old O k v) (sym (part_absent a Z O k)) Sh.no-part
    part_cut (flat r) s s' (Sh.flat q) =
        Sh.flat (flat-cut O N (length O.structs) (without_struct O) struct-cut r s (length N.structs) s' q)
    part_cut (object {ob}) s s' (Sh.object {v} q) = Sh.object (H ob s v q)
    part_cut (union {i}) s s' (Sh.choice {c} {v} p l q) = choice-cut i s c p l v q
    part_cut (union {i}) s s' (Sh.unknown-choice {c} l m) =
        let h : length (cases_of O i) < c = omega (arith, extends-le (cases_same O N sound G i s)) in Sh.unknown-choice h m

    members-cut : {rs rs' : List Member} → Extends MemberAppends rs rs' → All (MemberSound O) rs → All (MemberSound N) rs' → {vs : Values}
        → MembersShown new N rs' vs → MembersShown old O rs (without_members a O rs vs)
    unfolding without_members first others
    members-cut rest s s' q = Sh.no_member
    members-cut (more r l) s s' (Sh.members p q) =
        Sh.members (part_cut r.kind s.0.kind s'.0.kind p) (members-cut l s.1 s'.1 q)

    elements-cut : {k k' : Kind} → KindAppends k k' → KindSound O k → KindSound N k' → {vs : Values} → ElementsShown new N k' vs
        → ElementsShown old O k (without_elements a O k vs)
    unfolding without_elements
    elements-cut r s s' Sh.no-element = Sh.no-element
    elements-cut r s s' (Sh.elements {v} p h q) = Sh.elements (part_cut r s s' p) (element-cut a O r v h) (elements-cut r s s' q)

    directs-cut : (t : ℕ) → ObjectSound O (Ob.Table t) → {vs : Values} → DirectsShown new t vs → DirectsShown old t (in_elements a t vs)
    unfolding in_elements
    directs-cut t s Sh.no-direct = Sh.no-direct
    directs-cut t s (Sh.directs {v} p q) = Sh.directs (H (Ob.Table t) s v p) (directs-cut t s q)

    content-cut : (ob : Object) → ObjectSound O ob → {v : Value} → ContentShown new N ob v → ContentShown old O ob (without_content a O ob v)
    unfolding without_content in_row
    content-cut ob s (Sh.text b l) = Sh.text b l
    content-cut ob s (Sh.bytes b l) = Sh.bytes b l
    content-cut ob s (Sh.list {i} {vs} l q) =
        Sh.list (subst (λ (n : ℕ). n < 2 ^ 32) (sym (elements-count a O (element_of O i) vs)) l)
        (elements-cut (element-same O N sound G i s) (sound.lists i).kind (newer.lists i).kind q)
    content-cut ob s (Sh.table {i} q) =
        Sh.table (members-cut (table_same O N sound G i s).members (sound.tables i).members (newer.tables i).members q)
    content-cut ob s (Sh.direct_list {t} {vs} l q) =
        Sh.direct_list (subst (λ (n : ℕ). n < 2 ^ 32) (sym (directs-count a t vs)) l) (directs-cut t s.table q)

  -- what the newer can show, cut down, the older can show
  pub cut-shown : (d : ℕ) (ob : Object) → ObjectSound O ob → (v : Value) → Shown d N ob v → Shown d O ob (without d O ob v)
  unfolding without
  cut-shown zero ob s v q = q
  cut-shown (suc d) ob s v q =
      content-cut (Shown d O) (Shown d N) (without d O) (without_absent d O) (cut-shown d) ob s q
