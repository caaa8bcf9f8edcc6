-- A row: the ways out of what makes it.
use mathlib.Core.Path.{◌≡◌, refl, sym, ap, ap₂, ◌∙◌, subst}
use mathlib.Core.Bool.{Bool, true, false}
use mathlib.Core.List.{List}
use Prim.Native.Nat.{ℕ, ◌+◌, ◌*◌, ◌<◌, ◌≤◌}
use native.Mathlib.Omega.{arith}
use native.Mathlib.Nat.{add-zero}
use lib.Dec.{ltb, eqb}
use borrow.Author.Tests.{ne_eqb}
use Rattle.coding.specs.Lists.{pick}
use Rattle.coding.specs.Schema.{Schema}
use Rattle.coding.specs.Packed as P
use Rattle.coding.specs.Layout as L
use Rattle.coding.specs.Positions as Po
use Rattle.coding.specs.declared.Flat.{Flat}
use Rattle.coding.specs.declared.Flat.TheVariants.{Integer, Float, Enumerated, Struct}
use Rattle.coding.specs.declared.Kind.{Kind}
use Rattle.coding.specs.declared.Kind.TheVariants.{OfFlat, OfObject, OfUnion}
use Rattle.coding.specs.declared.Member.{Member}
use Rattle.coding.specs.declared.Cursor.{Cursor}
use Rattle.coding.specs.declared.Row.{Row}
use Rattle.laws.specs.Lists.{pick_holds}
use Rattle.message_layout.specs.Bounds.{Laid}
use Rattle.positions.specs.Rows.{Low, Next}

-- ---- a bit
pub bit_is : (c : Cursor) (x y : ℕ) → x ≡ L.bit_byte c → y ≡ L.bit_index c → 8 * x + y ≡ Po.first_bit (L.bit_slot c)
unfolding Po.first_bit L.bit_slot
bit_is c x y ex ey = simp (ex, ey)

module _ (t : Bool) (c : Cursor) where
  pub flag_there : t ≡ true → (x : ℕ) → x ≡ Po.first_bit (L.bit_slot c) → x ≡ pick t (Po.first_bit (L.bit_slot c)) Po.no_flag
  flag_there h x e = simp h e

  pub flag_none : t ≡ false → 4294967295 ≡ pick t (Po.first_bit (L.bit_slot c)) Po.no_flag
  unfolding Po.no_flag
  flag_none h = simp h

-- ---- whether the value is a bool
abbrev Other : Flat → Type 0
Other f = L.flat_is_bool f ≡ false

abbrev KindOther : Kind → Type 0
KindOther q = L.is_bool q ≡ false

module _ (k a : ℕ) where
  kind_bool : k ≡ 0 → L.is_bool (P.kind_of k a) ≡ true
  unfolding P.kind_of P.flat_of L.is_bool L.flat_is_bool
  kind_bool e = rw e refl

  flat-other : (k ≡ 0 → ⊥) → L.flat_is_bool (P.flat_of k a) ≡ false
  unfolding P.flat_of L.flat_is_bool
  flat-other n =
      simp (ne_eqb k 0 n)
      (pick_holds Other (ltb k 5) (Integer false (P.width_of k)) _ (λ e. refl)
      (λ e. pick_holds Other (ltb k 9) (Integer true (P.width_of k)) _ (λ e. refl)
      (λ e. pick_holds Other (ltb k 11) (Float (P.width_of k)) _ (λ e. refl)
      (λ e. pick_holds Other (eqb k 11) (Enumerated a) (Struct a) (λ e. refl) (λ e. refl)))))

  kind-other : (k ≡ 0 → ⊥) → L.is_bool (P.kind_of k a) ≡ false
  unfolding P.kind_of L.is_bool
  kind-other n =
      pick_holds KindOther (ltb k 13) (OfFlat (P.flat_of k a)) _ (λ e. flat-other n)
      (λ e. pick_holds KindOther (eqb k 17) (OfUnion a) (OfObject (P.object_of k a)) (λ e. refl) (λ e. refl))

module _ (b : List ℕ) (at k : ℕ) (ek : k ≡ P.kind_at b at) where
  at_bool : k ≡ 0 → L.is_bool (P.member_at b at).kind ≡ true
  unfolding P.member_at P.element_at
  at_bool e = subst (λ (q : ℕ). L.is_bool (P.kind_of q (P.argument_at b at)) ≡ true) ek (kind_bool k (P.argument_at b at) e)

  at_other : (k ≡ 0 → ⊥) → L.is_bool (P.member_at b at).kind ≡ false
  unfolding P.member_at P.element_at
  at_other n = subst (λ (q : ℕ). L.is_bool (P.kind_of q (P.argument_at b at)) ≡ false) ek (kind-other k (P.argument_at b at) n)

-- ---- the row
row_same : (v f z v' f' z' : ℕ) → v ≡ v' → f ≡ f' → z ≡ z'
    → ◌≡◌ {A = Row} (record { value = v; flag = f; size = z }) (record { value = v'; flag = f'; size = z' })
row_same v f z v' f' z' ev ef ez =
    ap₂ (λ (x y : ℕ). record { value = x; flag = y; size = z }) ev ef ∙ ap (λ (w : ℕ). record { value = v'; flag = f'; size = w }) ez

module _ (o : ℕ) (S : Schema) (r : Member) (c behind : Cursor) (t : Bool) (f : ℕ) (et : t ≡ L.has_flag r)
    (ef : f ≡ pick t (Po.first_bit (L.bit_slot c)) Po.no_flag) (eb : behind ≡ pick t (L.after_bit c) c) where
  behind_is : behind ≡ L.after_flag r c
  unfolding L.after_flag
  behind_is = eb ∙ ap (λ (u : Bool). pick u (L.after_bit c) c) et

  flag_is : f ≡ Po.flag_bit r (L.bit_slot c)
  unfolding Po.flag_bit
  flag_is = ef ∙ ap (λ (u : Bool). pick u (Po.first_bit (L.bit_slot c)) Po.no_flag) et

  bool_is : L.is_bool r.kind ≡ true → (v : ℕ) → v ≡ Po.first_bit (L.bit_slot behind)
      → record { value = v; flag = f; size = 1 } ≡ Po.row_of r (L.placement_of o S r c)
  unfolding Po.row_of Po.bit_size L.placement_of L.member_slot L.slot_of
  bool_is e v ev =
      simp e (row_same v f 1 (Po.first_bit (L.bit_slot (L.after_flag r c))) (Po.flag_bit r (L.bit_slot c)) 1
      (ev ∙ ap (λ (x : Cursor). Po.first_bit (L.bit_slot x)) behind_is) flag_is refl)

  bytes_is : L.is_bool r.kind ≡ false → (w : ℕ) → w ≡ L.width o S r.kind
      → record { value = 8 * behind.end; flag = f; size = 8 * w } ≡ Po.row_of r (L.placement_of o S r c)
  unfolding Po.row_of Po.first_bit Po.bit_size L.placement_of L.member_slot L.slot_of
  bytes_is e w ew =
      simp e (row_same (8 * behind.end) f (8 * w) (8 * (L.after_flag r c).end + 0) (Po.flag_bit r (L.bit_slot c)) (8 * L.width o S r.kind)
      (ap (λ (x : Cursor). 8 * x.end) behind_is ∙ sym (add-zero (8 * (L.after_flag r c).end))) flag_is (ap (λ (x : ℕ). 8 * x) ew))

  bool_next : L.is_bool r.kind ≡ true → (next : Cursor) → next ≡ L.after_bit behind → next ≡ L.after_member o S r c
  unfolding L.after_member L.after_value
  bool_next e next en = simp e (en ∙ ap L.after_bit behind_is)

  bytes_next : L.is_bool r.kind ≡ false → (w : ℕ) → w ≡ L.width o S r.kind → (next : Cursor) → next ≡ L.after_bytes w behind
      → next ≡ L.after_member o S r c
  unfolding L.after_member L.after_value
  bytes_next e w ew next en = simp e (en ∙ ap₂ L.after_bytes ew behind_is)

-- the ways out
module _ (o : ℕ) (b : List ℕ) (at k : ℕ) (ek : k ≡ P.kind_at b at) (c behind : Cursor) (t : Bool) (f : ℕ) (et : t ≡ L.has_flag (P.member_at b at))
    (ef : f ≡ pick t (Po.first_bit (L.bit_slot c)) Po.no_flag) (fl : f < 4294967296) (eb : behind ≡ pick t (L.after_bit c) c)
    (lb : Laid (c.end + 1) behind) (low : Low c) (next : Cursor) where
  pub bool-row : k ≡ 0 → (v : ℕ) → v ≡ Po.first_bit (L.bit_slot behind) → v < 4294967296 → next ≡ L.after_bit behind → Laid (behind.end + 1) next
      → Next o (P.parse b) (P.member_at b at) c (record { value = v; flag = f; size = 1 }) next
  bool-row z v ev lv en ln =
      let e = at_bool b at k ek z in
      let h1 = lb.end in
      let h2 = ln.end in
      record {
        row_is = bool_is o (P.parse b) (P.member_at b at) c behind t f et ef eb e v ev;
        small = record { value = lv; flag = fl; size = omega arith };
        next_is = bool_next o (P.parse b) (P.member_at b at) c behind t f et ef eb e next en;
        laid = record { end = omega arith; byte = ln.byte; bit = ln.bit };
      }

  pub bytes-row : (k ≡ 0 → ⊥) → (w : ℕ) → w ≡ L.width o (P.parse b) (P.element_at b at) → w ≤ 4096 → next ≡ L.after_bytes w behind
      → Laid (behind.end + w) next → Next o (P.parse b) (P.member_at b at) c (record { value = 8 * behind.end; flag = f; size = 8 * w }) next
  unfolding P.member_at
  bytes-row n w ew lw en ln =
      let e = at_other b at k ek n in
      let h1 = lb.end in
      let h2 = ln.end in
      let h3 = low.0 in
      record {
        row_is = bytes_is o (P.parse b) (P.member_at b at) c behind t f et ef eb e w ew;
        small = record { value = omega arith; flag = fl; size = omega arith };
        next_is = bytes_next o (P.parse b) (P.member_at b at) c behind t f et ef eb e w ew next en;
        laid = record { end = omega arith; byte = ln.byte; bit = ln.bit };
      }
