-- "Each step answers as that element's path would ...; after the last it answers 15 at the list and stays.": a reader that has
-- its list answers from the list alone. A path to an object has at most 31 numbers, since each goes one object deeper, so the
-- path of an element is never too long.
-- `o` is the width of an offset in bytes.
use Rattle.std.specs.Prelude.{◌≡◌, Bool, ◌⊎◌, take, drop, leb, eqb, Result, Ok, Err}
use Rattle.std.proofs.Math.Path.{refl, sym, ap, subst}
use Rattle.std.proofs.Common.{◌∙◌, inl, inr, length-drop}
use mathlib.Core.List.{List, [], ◌∷◌, ◌++◌}
use Rattle.std.proofs.Math.Bool.{true, false}
use Prim.Native.Nat.{ℕ, zero, suc, ◌+◌, ◌*◌, ◌/◌, ◌<◌, ◌≤◌}
use native.Mathlib.Omega.{arith}
use Rattle.std.proofs.Math.ListN.{length, length-append}
use Rattle.std.proofs.lemmas.List.{take-append-le, drop-append-le}
use Rattle.std.proofs.Math.Dec.{ltb}
use borrow.Author.Tests.{ltb-true, ltb-false, le-ltb, le-leb}
use Rattle.coding.specs.Lists.{pick}
use Rattle.coding.specs.Bytes.{deepest}
use Rattle.coding.specs.Schema.{Schema, struct_of, field_of, element_of, table_of, member_of}
use Rattle.coding.specs.Packed.{parse}
use Rattle.coding.specs.Lawful.{lawful}
use Rattle.coding.specs.Structs.{total, struct_size}
use Rattle.coding.specs.Layout.{begin, after_members}
use Rattle.coding.specs.Step.{field_step, member_step, element_step}
use Rattle.coding.specs.Walk.{placed, refusal, part_refusal, element_size, open_object, root_place, size_ok, start_ok}
use Rattle.coding.specs.Field as Field
use Rattle.coding.specs.declared.Object.{Object}
use Rattle.coding.specs.declared.Object.TheVariants as O
use Rattle.coding.specs.declared.Kind.{Kind}
use Rattle.coding.specs.declared.Kind.TheVariants.{OfFlat, OfObject, OfUnion}
use Rattle.coding.specs.declared.Flat.{Flat}
use Rattle.coding.specs.declared.Flat.TheVariants as F
use Rattle.coding.specs.declared.Place.{Place}
use Rattle.coding.specs.declared.Place.TheVariants.{ByOffset, InPlace}
use Rattle.coding.specs.declared.Step.{Step}
use Rattle.coding.specs.declared.Step.TheVariants as St
use Rattle.coding.specs.declared.Content.{Content}
use Rattle.coding.specs.declared.Refusal.{Refusal}
use Rattle.coding.specs.declared.Found.{Found}
use Rattle.coding.specs.declared.Found.TheVariants as Fd
use Rattle.coding.specs.declared.Answer.{Answer}
use Rattle.coding.specs.declared.Answer.TheVariants as A

-- ---- depth: an object that is found counts itself and what is left below it; anything else counts nothing
depth : Found → ℕ
depth (Fd.Refused r) = 0
depth Fd.Absent = 0
depth (Fd.Unknown x) = 0
depth (Fd.Value k x holder) = 0
depth (Fd.Struct i at holder) = 0
depth (Fd.Object ob at start n left) = suc left

either : (d : ℕ) (t : Bool) (f g : Found) → depth f ≤ d → depth g ≤ d → depth (pick t f g) ≤ d
either d true f g h k = h
either d false f g h k = k

none : (d n at : ℕ) → depth (Fd.Refused (refusal n at)) ≤ d
unfolding depth
none d n at = omega arith

no-part : (d n holder j : ℕ) → depth (Fd.Refused (part_refusal n holder j)) ≤ d
unfolding depth
no-part d n holder j = omega arith

module _ (o : ℕ) (S : Schema) (m : List ℕ) where
  opened_depth : (d : ℕ) (ob : Object) (at : ℕ) (w : Result Content ℕ) → depth (Field.opened ob at d w) ≤ suc d
  unfolding Field.opened depth
  opened_depth d ob at (Err n) = omega arith
  opened_depth d ob at (Ok c) = omega arith

  arrived_depth : (d : ℕ) (ob : Object) (p : Place) → depth (Field.arrived d o S m ob p) ≤ d
  unfolding Field.arrived
  arrived_depth zero ob p = none 0 5 (placed p)
  arrived_depth (suc d) ob p = opened_depth d ob (placed p) (open_object o S m ob p)

  chosen_depth : (d holder j : ℕ) (ob : Object) (p : Place) → depth (Field.chosen d o S m holder j ob p) ≤ d
  unfolding Field.chosen Field.part_refused
  chosen_depth d holder j ob (ByOffset x) =
      either d (eqb x 0) (Fd.Refused (part_refusal 9 holder j)) (Field.arrived d o S m ob (ByOffset x)) (no-part d 9 holder j)
      (arrived_depth d ob (ByOffset x))
  chosen_depth d holder j ob (InPlace a n) = arrived_depth d ob (InPlace a n)

  stepped_depth : (d holder j : ℕ) (k : Kind) (step : Step) → depth (Field.stepped d o S m holder j k step) ≤ d
  unfolding Field.stepped Field.part_refused depth
  stepped_depth d holder j k (St.Refused n) = omega arith
  stepped_depth d holder j k St.Absent = omega arith
  stepped_depth d holder j k (St.Value x) = omega arith
  stepped_depth d holder j k (St.Unknown x) = omega arith
  stepped_depth d holder j k (St.Struct i at) = omega arith
  stepped_depth d holder j k (St.Object ob p) = arrived_depth d ob p
  stepped_depth d holder j k (St.Choice c ob p) = chosen_depth d holder j ob p

  object_depth : (ob : Object) (at start n d j : ℕ) → depth (Field.object_part o S m ob at start n d j) ≤ d
  unfolding Field.object_part Field.no_part
  object_depth O.Text at start n d j = none d 15 at
  object_depth O.Bytes at start n d j = none d 15 at
  object_depth (O.List i) at start n d j =
      either d (ltb j n) _ _ (stepped_depth d at j (element_of S i) (element_step o S m (element_of S i) start j)) (none d 15 at)
  object_depth (O.Table i) at start n d j =
      either d (ltb j (length (table_of S i).members)) _ _
      (stepped_depth d at j (member_of S i j).kind
      (member_step o S m start n (after_members o S (take j (table_of S i).members) begin) (member_of S i j)))
      (none d 15 at)
  object_depth (O.DirectList t) at start n d j =
      either d (ltb j n) _ _ (arrived_depth d (O.Table t) (InPlace (start + element_size o m at * j) (element_size o m at))) (none d 15 at)

  struct_depth : (i at holder j : ℕ) → depth (Field.struct_part o S m i at holder j) ≤ 0
  unfolding Field.struct_part Field.no_part
  struct_depth i at holder j =
      either 0 (ltb j (length (struct_of S i))) _ _
      (stepped_depth 0 holder j (OfFlat (field_of S i j)) (field_step m (field_of S i j) (at + total (struct_size S) (take j (struct_of S i)))))
      (none 0 15 holder)

  -- one number more takes at least one object of depth
  part_depth : (d : ℕ) (f : Found) (j : ℕ) → depth f ≤ suc d → depth (Field.part_of o S m f j) ≤ d
  unfolding Field.part_of Field.no_part depth
  part_depth d (Fd.Refused r) j h = omega arith
  part_depth d Fd.Absent j h = omega arith
  part_depth d (Fd.Unknown x) j h = omega arith
  part_depth d (Fd.Value k x holder) j h = omega arith
  part_depth d (Fd.Struct i at holder) j h = omega (arith, struct_depth i at holder j)
  part_depth d (Fd.Object ob at start n left) j h = omega (arith, object_depth ob at start n left j)

  along_depth : (path : List ℕ) (d : ℕ) (f : Found) → depth f ≤ length path + d → depth (Field.along o S m f path) ≤ d
  unfolding Field.along
  along_depth [] d f h = omega arith
  along_depth (j ∷ js) d f h = along_depth js d (Field.part_of o S m f j) (part_depth (length js + d) f j (omega arith))

  -- "Depth: 32 objects, the root being 1": a path to an object has fewer numbers than that
  pub object_path : (path : List ℕ) (ob : Object) (at start n left : ℕ) → Field.found o S m path ≡ Fd.Object ob at start n left
      → length path < deepest
  unfolding Field.found depth
  object_path path ob at start n left e = by (ltb (length path) deepest) refl
    where
      by : (t : Bool) → ltb (length path) deepest ≡ t → length path < deepest
      by true h = ltb-true _ _ h
      by false h =
          let r = arrived_depth deepest (O.Table S.root) (root_place o m) in
          let l = ltb-false (length path) deepest h in
          let a = along_depth path 0 (Field.arrived deepest o S m (O.Table S.root) (root_place o m)) (omega arith) in
          let q = ap depth e in
          absurd (omega arith)

  -- ---- one number more
  along_last : (f : Found) (path : List ℕ) (j : ℕ)
      → Field.along o S m f (path ++ j ∷ []) ≡ Field.part_of o S m (Field.along o S m f path) j
  unfolding Field.along
  along_last f [] j = refl
  along_last f (i ∷ is) j = along_last (Field.part_of o S m f i) is j

  pub found_last : (path : List ℕ) (j : ℕ) → Field.found o S m (path ++ j ∷ []) ≡ Field.part_of o S m (Field.found o S m path) j
  unfolding Field.found
  found_last path j = along_last _ path j

-- ---- a refusal is found where the answer is one
flat_answers : (k : Flat) (x : ℕ) (r : Refusal) → Field.flat_answer k x ≡ A.Refused r → ⊥
unfolding Field.flat_answer
flat_answers F.Boolean x r e = let z : ◌≡◌ {A = ℕ} 0 1 = cc in omega arith
flat_answers (F.Integer s w) x r e = let z : ◌≡◌ {A = ℕ} 0 1 = cc in omega arith
flat_answers (F.Float w) x r e = let z : ◌≡◌ {A = ℕ} 0 1 = cc in omega arith
flat_answers (F.Enumerated n) x r e = let z : ◌≡◌ {A = ℕ} 0 1 = cc in omega arith
flat_answers (F.Struct i) x r e = let z : ◌≡◌ {A = ℕ} 0 1 = cc in omega arith

only_refused : (f : Found) (r : Refusal) → Field.answer_of f ≡ A.Refused r → f ≡ Fd.Refused r
unfolding Field.answer_of Field.value_answer
only_refused (Fd.Refused q) r e = cc
only_refused Fd.Absent r e = cc
only_refused (Fd.Unknown x) r e = cc
only_refused (Fd.Value (OfFlat k) x holder) r e = absurd (flat_answers k x r e)
only_refused (Fd.Value (OfObject ob) x holder) r e = cc
only_refused (Fd.Value (OfUnion i) x holder) r e = cc
only_refused (Fd.Struct i at holder) r e = cc
only_refused (Fd.Object ob at start n left) r e = cc

refused_start : (S : Schema) (f : Found) (r : Refusal) → Field.reader_of S f ≡ Fd.Refused r
    → (Field.answer_of f ≡ A.Refused r) ⊎ (r ≡ refusal 15 0)
unfolding Field.reader_of Field.list_found Field.before Field.answer_of
refused_start S (Fd.Refused q) r e = inl (cc)
refused_start S Fd.Absent r e = inr (cc)
refused_start S (Fd.Unknown x) r e = inr (cc)
refused_start S (Fd.Value k x holder) r e = inr (cc)
refused_start S (Fd.Struct i at holder) r e = inr (cc)
refused_start S (Fd.Object O.Text at start n d) r e = inr (cc)
refused_start S (Fd.Object O.Bytes at start n d) r e = inr (cc)
refused_start S (Fd.Object (O.Table i) at start n d) r e = inr (cc)
refused_start S (Fd.Object (O.List i) at start n d) r e = inr (by (Field.leads (element_of S i)) e)
  where
    by : (t : Bool) → pick t (Fd.Object (O.List i) at start n d) (Fd.Refused (refusal 15 0)) ≡ Fd.Refused r → r ≡ refusal 15 0
    by true q = cc
    by false q = cc
refused_start S (Fd.Object (O.DirectList t) at start n d) r e = inr (cc)

-- what a reader goes over: "a list", or, by 02, K1, a direct list
abbrev pub Listed : Object → Type 0
Listed O.Text = ⊥
Listed O.Bytes = ⊥
Listed (O.List i) = Unit {0}
Listed (O.Table i) = ⊥
Listed (O.DirectList t) = Unit {0}

nothing : {X : Type 0} → ◌≡◌ {A = ℕ} 0 1 → X
nothing z = absurd (omega arith)

-- after its last part a list has no more
listed-end : (o : ℕ) (S : Schema) (m : List ℕ) (ob : Object) → Listed ob → (at start n left j : ℕ) → n ≤ j
    → Field.object_part o S m ob at start n left j ≡ Fd.Refused (refusal 15 at)
unfolding Field.object_part Field.no_part
listed-end o S m O.Text l at start n left j h = absurd l
listed-end o S m O.Bytes l at start n left j h = absurd l
listed-end o S m (O.List i) l at start n left j h = rw (le-ltb j n h)
listed-end o S m (O.Table i) l at start n left j h = absurd l
listed-end o S m (O.DirectList t) l at start n left j h = rw (le-ltb j n h)

-- ---- a reader that has its list
module _ (o : ℕ) (b m path : List ℕ) (ob : Object) (at start n left : ℕ)
    (has : Field.reader_start o b m path ≡ Fd.Object ob at start n left) where
  -- the path leads there: the schema is lawful, the path short, the message's size and start as they should be
  record Leads : Type 0 where
    schema : lawful o b ≡ true
    size : size_ok o m ≡ true
    begins : start_ok m ≡ true
    leads : Field.found o (parse b) m path ≡ Fd.Object ob at start n left

  same_list : (f : Found) → Field.reader_of (parse b) f ≡ Fd.Object ob at start n left
      → f ≡ Fd.Object ob at start n left
  unfolding Field.reader_of Field.list_found Field.before
  same_list (Fd.Refused r) e = cc
  same_list Fd.Absent e = cc
  same_list (Fd.Unknown x) e = cc
  same_list (Fd.Value k x holder) e = cc
  same_list (Fd.Struct k x holder) e = cc
  same_list (Fd.Object O.Text x y z d) e = cc
  same_list (Fd.Object O.Bytes x y z d) e = cc
  same_list (Fd.Object (O.Table k) x y z d) e = cc
  same_list (Fd.Object (O.List k) x y z d) e = by (Field.leads (element_of (parse b) k)) e
    where
      by : (t : Bool) → pick t (Fd.Object (O.List k) x y z d) (Fd.Refused (refusal 15 0)) ≡ Fd.Object ob at start n left
          → Fd.Object (O.List k) x y z d ≡ Fd.Object ob at start n left
      by true q = q
      by false q = cc
  same_list (Fd.Object (O.DirectList k) x y z d) e = e

  -- and what it has is a list or a direct list
  found-listed : (f : Found) → Field.reader_of (parse b) f ≡ Fd.Object ob at start n left → Listed ob
  unfolding Field.reader_of Field.list_found Field.before
  found-listed (Fd.Refused r) e = nothing (cc)
  found-listed Fd.Absent e = nothing (cc)
  found-listed (Fd.Unknown x) e = nothing (cc)
  found-listed (Fd.Value k x holder) e = nothing (cc)
  found-listed (Fd.Struct k x holder) e = nothing (cc)
  found-listed (Fd.Object O.Text x y z d) e = nothing (cc)
  found-listed (Fd.Object O.Bytes x y z d) e = nothing (cc)
  found-listed (Fd.Object (O.Table k) x y z d) e = nothing (cc)
  found-listed (Fd.Object (O.List k) x y z d) e = by (Field.leads (element_of (parse b) k)) e
    where
      by : (t : Bool) → pick t (Fd.Object (O.List k) x y z d) (Fd.Refused (refusal 15 0)) ≡ Fd.Object ob at start n left → Listed ob
      by true q = let h : O.List k ≡ ob = cc in subst Listed h tt
      by false q = nothing (cc)
  found-listed (Fd.Object (O.DirectList k) x y z d) e = let h : O.DirectList k ≡ ob = cc in subst Listed h tt

  listed : Listed ob
  unfolding Field.reader_start
  listed = found-listed _ has

  no-refusal : (r : Refusal) → Fd.Refused r ≡ Fd.Object ob at start n left → ⊥
  no-refusal r h = let z : ◌≡◌ {A = ℕ} 0 1 = cc in omega arith

  reader-leads : Leads
  unfolding Field.reader_start Field.field_found Field.before
  reader-leads = by (lawful o b) (leb (length path) 96) (size_ok o m) (start_ok m) refl refl refl (same_list _ has)
    where
      by : (l s z g : Bool) → lawful o b ≡ l → size_ok o m ≡ z → start_ok m ≡ g
          → pick l (pick s (pick z (pick g (Field.found o (parse b) m path) (Field.before 3)) (Field.before 2)) (Field.before 15)) (Field.before 1)
          ≡ Fd.Object ob at start n left
          → Leads
      by true true true true e f q h = record { schema = e; size = f; begins = q; leads = h }
      by true true true false e f q h = absurd (no-refusal _ h)
      by true true false g e f q h = absurd (no-refusal _ h)
      by true false z g e f q h = absurd (no-refusal _ h)
      by false s z g e f q h = absurd (no-refusal _ h)

  -- "Each step answers as that element's path would"
  pub reader_step : (j : ℕ) → Field.field o b m (path ++ j ∷ []) ≡ Field.answer_of (Field.object_part o (parse b) m ob at start n left j)
  unfolding Field.field Field.field_found Field.part_of deepest
  reader_step j =
      let h = reader-leads in
      let l = object_path o (parse b) m path ob at start n left h.leads in
      let s : length (path ++ j ∷ []) ≤ 96 = simp length-append (omega arith) in
      rw (h.schema, le-leb (length (path ++ j ∷ [])) 96 s, h.size, h.begins, found_last o (parse b) m path j, h.leads)

  -- "after the last it answers 15 at the list and stays"
  pub reader-end : (j : ℕ) → n ≤ j → Field.field o b m (path ++ j ∷ []) ≡ A.Refused (refusal 15 at)
  unfolding Field.answer_of
  reader-end j l = reader_step j ∙ ap Field.answer_of (listed-end o (parse b) m ob listed at start n left j l)

  pub reader_stays : (j : ℕ) → n ≤ j → Field.reader_next n j ≡ j
  unfolding Field.reader_next
  reader_stays j l = rw (le-ltb j n l)

  -- THE CLAIM, of what a step gives: as the element's path would; 15 at the list after the last
  pub gives_path : (j : ℕ) → Field.reader_gives o b m path j ≡ Field.field o b m (path ++ j ∷ [])
  unfolding Field.reader_gives Field.list_gives Field.part_of
  gives_path j = ap (λ (f : Found). Field.answer_of (Field.part_of o (parse b) m f j)) has ∙ sym (reader_step j)

  pub gives-end : (j : ℕ) → n ≤ j → Field.reader_gives o b m path j ≡ A.Refused (refusal 15 at)
  gives-end j l = gives_path j ∙ reader-end j l

  pub counts : Field.reader_count o b m path ≡ n
  unfolding Field.reader_count Field.list_count
  counts = ap Field.list_count has

-- ---- "It starts from a path to a list whose elements are of kinds 13 to 17; a refused path gives its own refusal, any other
-- answer is 15 at 0."
module _ (o : ℕ) (b m path : List ℕ) where
  module _ (i at start n left : ℕ) (e : Field.field_found o b m path ≡ Fd.Object (O.List i) at start n left) where
    pub starts-object : (ob : Object) → element_of (parse b) i ≡ OfObject ob → Field.reader_start o b m path ≡ Fd.Object (O.List i) at start n left
    unfolding Field.reader_start Field.reader_of Field.list_found Field.leads
    starts-object ob k = rw (e, k)

    pub starts-union : (u : ℕ) → element_of (parse b) i ≡ OfUnion u → Field.reader_start o b m path ≡ Fd.Object (O.List i) at start n left
    unfolding Field.reader_start Field.reader_of Field.list_found Field.leads
    starts-union u k = rw (e, k)

    pub starts-flat : (f : Flat) → element_of (parse b) i ≡ OfFlat f → Field.reader_start o b m path ≡ Fd.Refused (refusal 15 0)
    unfolding Field.reader_start Field.reader_of Field.list_found Field.leads Field.before
    starts-flat f k = rw (e, k)

  -- 02, K1: "The list reader takes direct lists and lists of them too."
  pub starts-direct : (t at start n left : ℕ) → Field.field_found o b m path ≡ Fd.Object (O.DirectList t) at start n left
      → Field.reader_start o b m path ≡ Fd.Object (O.DirectList t) at start n left
  unfolding Field.reader_start Field.reader_of Field.list_found
  starts-direct t at start n left e = rw e

  -- a reader with no list answers the refusal at every step
  pub gives-refusal : (r : Refusal) → Field.reader_start o b m path ≡ Fd.Refused r
      → (Field.reader_count o b m path ≡ 0) × ((j : ℕ) → Field.reader_gives o b m path j ≡ A.Refused r)
  unfolding Field.reader_gives Field.list_gives Field.part_of Field.answer_of Field.reader_count Field.list_count
  gives-refusal r e =
      (ap Field.list_count e, λ j. ap (λ (f : Found). Field.answer_of (Field.part_of o (parse b) m f j)) e)

  -- the path's own
  pub refused_path : (r : Refusal) → Field.field o b m path ≡ A.Refused r → Field.reader_start o b m path ≡ Fd.Refused r
  unfolding Field.reader_start Field.reader_of Field.field
  refused_path r e = rw (only_refused (Field.field_found o b m path) r e)

  -- or 15 at 0, and no other
  pub start_refused : (r : Refusal) → Field.reader_start o b m path ≡ Fd.Refused r
      → (Field.field o b m path ≡ A.Refused r) ⊎ (r ≡ refusal 15 0)
  unfolding Field.reader_start Field.field
  start_refused r e = refused_start (parse b) (Field.field_found o b m path) r e

-- ---- many steps at once: step i answers as the step at element from + i would
module _ (o : ℕ) (S : Schema) (m : List ℕ) where
  -- after the last, and where there is no list, every element answers the same
  list_stays : (f : Found) (j k : ℕ) → Field.list_count (Field.reader_of S f) ≤ j → j ≤ k
      → Field.list_gives o S m (Field.reader_of S f) j ≡ Field.list_gives o S m (Field.reader_of S f) k
  unfolding Field.reader_of Field.list_found Field.before Field.list_gives Field.part_of Field.list_count
  list_stays (Fd.Refused r) j k h l = refl
  list_stays Fd.Absent j k h l = refl
  list_stays (Fd.Unknown x) j k h l = refl
  list_stays (Fd.Value q x holder) j k h l = refl
  list_stays (Fd.Struct i at holder) j k h l = refl
  list_stays (Fd.Object O.Text at start n d) j k h l = refl
  list_stays (Fd.Object O.Bytes at start n d) j k h l = refl
  list_stays (Fd.Object (O.Table i) at start n d) j k h l = refl
  list_stays (Fd.Object (O.List i) at start n d) j k h l = by (Field.leads (element_of S i)) h
    where
      by : (t : Bool) → Field.list_count (pick t (Fd.Object (O.List i) at start n d) (Fd.Refused (refusal 15 0))) ≤ j
          → Field.answer_of (Field.part_of o S m (pick t (Fd.Object (O.List i) at start n d) (Fd.Refused (refusal 15 0))) j)
          ≡ Field.answer_of (Field.part_of o S m (pick t (Fd.Object (O.List i) at start n d) (Fd.Refused (refusal 15 0))) k)
      by true h = unfold Field.object_part in rw (le-ltb j n h, le-ltb k n (omega arith))
      by false h = refl
  list_stays (Fd.Object (O.DirectList t) at start n d) j k h l =
      unfold Field.object_part in rw (le-ltb j n h, le-ltb k n (omega arith))

module _ (gives : ℕ → Answer) (n : ℕ) (stays : (j k : ℕ) → n ≤ j → j ≤ k → gives j ≡ gives k) where
  steps-length : (k j : ℕ) → length (Field.step_numbers gives n j k) ≡ 4 * k
  unfolding Field.step_numbers Field.case_numbers
  steps-length zero j = refl
  steps-length (suc k) j = let e = steps-length k (Field.reader_next n j) in omega arith

  next-gives : (j i : ℕ) → gives (Field.reader_next n j + i) ≡ gives (j + suc i)
  unfolding Field.reader_next
  next-gives j i = by (ltb j n) refl
    where
      by : (t : Bool) → ltb j n ≡ t → gives (pick t (j + 1) j + i) ≡ gives (j + suc i)
      by true h = ap gives (omega arith)
      by false h = let l = ltb-false j n h in stays (j + i) (j + suc i) (omega arith) (omega arith)

  step-numbers : (k i j : ℕ) → i < k → take 4 (drop (4 * i) (Field.step_numbers gives n j k)) ≡ Field.case_numbers (Field.answer_case (gives (j + i)))
  unfolding Field.step_numbers Field.case_numbers
  step-numbers zero i j h = absurd (omega arith)
  step-numbers (suc k) zero j h = ap (λ (x : ℕ). Field.case_numbers (Field.answer_case (gives x))) (omega arith)
  step-numbers (suc k) (suc i) j h =
      let e : 4 * suc i ≡ suc (suc (suc (suc (4 * i)))) = omega arith in
      rw e (step-numbers k i (Field.reader_next n j) (omega arith) ∙ ap (λ (x : Answer). Field.case_numbers (Field.answer_case x)) (next-gives j i))

-- THE CLAIM, of many steps: the four numbers of step i are the case of the answer at element from + i
pub over-gives : (o : ℕ) (b m path : List ℕ) (from : ℕ) (out : List ℕ) (i : ℕ) → i < length out / 4
    → take 4 (drop (4 * i) (Field.reader_over o b m path from out)) ≡ Field.case_numbers (Field.answer_case (Field.reader_gives o b m path (from + i)))
unfolding Field.reader_over Field.steps_over Field.reader_gives Field.reader_count Field.reader_start
over-gives o b m path from out i h =
    let f = Field.reader_of (parse b) (Field.field_found o b m path) in
    let g = Field.reader_gives o b m path in
    let n = Field.list_count f in
    let stays : (j k : ℕ) → n ≤ j → j ≤ k → g j ≡ g k = list_stays o (parse b) m (Field.field_found o b m path) in
    let steps = Field.step_numbers g n from (length out / 4) in
    let l : length steps ≡ 4 * (length out / 4) = steps-length g n stays (length out / 4) from in
    let four : 4 ≤ length (drop (4 * i) steps) = simp length-drop (omega arith) in
    rw (drop-append-le (4 * i) steps (drop (4 * (length out / 4)) out) (omega arith))
    (take-append-le 4 (drop (4 * i) steps) (drop (4 * (length out / 4)) out) four ∙ step-numbers g n stays (length out / 4) i from h)
