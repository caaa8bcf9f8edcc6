-- A walk that goes on found an object readable; a walk that was refused has a number that is not 0.
use Rattle.std.specs.Prelude.{Result, Ok, Err}
use mathlib.Core.Path.{◌≡◌, refl, sym, ap, subst}
use mathlib.Core.Bool.{Bool, true, false, ◌&&◌}
use mathlib.Core.List.{List, [], ◌∷◌}
use Prim.Native.Nat.{ℕ, zero, suc, ◌+◌, ◌%◌, ◌<◌, ◌≤◌}
use native.Mathlib.Omega.{arith}
use lib.ListN.{length, get_or}
use lib.Dec.{eqb, leb, ltb}
use borrow.Author.Tests.{leb-true, eqb-false}
use Rattle.coding.specs.Lists.{pick}
use Rattle.coding.specs.Bytes.{le, is_nan}
use Rattle.coding.specs.Schema as Sc
use Rattle.coding.specs.Schema.{Schema}
use Rattle.coding.specs.Structs.{flat_width, struct_size, struct_ok}
use Rattle.coding.specs.Layout as L
use Rattle.coding.specs.Step as T
use Rattle.coding.specs.Walk as W
use Rattle.coding.specs.Walk.{Walked}
use Rattle.coding.specs.declared.Flat.{Flat}
use Rattle.coding.specs.declared.Flat.TheVariants as F
use Rattle.coding.specs.declared.Object.{Object}
use Rattle.coding.specs.declared.Object.TheVariants as O
use Rattle.coding.specs.declared.Kind.{Kind}
use Rattle.coding.specs.declared.Kind.TheVariants.{OfFlat, OfObject, OfUnion}
use Rattle.coding.specs.declared.Member.{Member}
use Rattle.coding.specs.declared.Cursor.{Cursor}
use Rattle.coding.specs.declared.Placement.{Placement}
use Rattle.coding.specs.declared.Place.{Place}
use Rattle.coding.specs.declared.Place.TheVariants.{ByOffset, InPlace}
use Rattle.coding.specs.declared.Step.{Step}
use Rattle.coding.specs.declared.Step.TheVariants as St
use Rattle.coding.specs.declared.Content.{Content}
use Rattle.coding.specs.declared.Budget.{Budget}
use Rattle.coding.specs.declared.Spent.{Spent}
use Rattle.laws.specs.Sound.{All, FlatSound, ObjectSound, KindSound, MemberSound, NoStruct, Sound}
use Rattle.laws.specs.SoundAt.{case_sound-at}
use Rattle.message_step.specs.Lead.{reached, reach_of}
use Rattle.message_step.specs.declared.Reach.{Reach}
use Rattle.message_step.specs.declared.Reach.TheVariants.{Cut, Past, Here}
use Rattle.message_step.proofs.ReachCases.{step-reached, here-inside, slot-size}
use Rattle.sheet_walk.specs.Readable as D

-- ---- what a step may lead to
-- a refusal has a number, a struct lies within the message, an object's index stands for something
abbrev Inside : Schema → List ℕ → Step → Type 0
Inside S m (St.Refused n) = n ≡ 0 → ⊥
Inside S m St.Absent = Unit {0}
Inside S m (St.Value x) = Unit {0}
Inside S m (St.Unknown x) = Unit {0}
Inside S m (St.Struct i at) = (i < length S.structs) × (at + struct_size S i ≤ length m)
Inside S m (St.Object ob p) = ObjectSound S ob
Inside S m (St.Choice c ob p) = ObjectSound S ob

module _ (o : ℕ) (S : Schema) (sound : Sound S) (m : List ℕ) where
  float-inside : (x : ℕ) (t : Bool) → Inside S m (T.struct_tested S m (pick t St.Absent (St.Value x)))
  unfolding T.struct_tested
  float-inside x true = tt
  float-inside x false = tt

  enum-inside : (x : ℕ) (t u : Bool) → Inside S m (T.struct_tested S m (pick t St.Absent (pick u (St.Value x) (St.Unknown x))))
  unfolding T.struct_tested
  enum-inside x true u = tt
  enum-inside x false true = tt
  enum-inside x false false = tt

  struct-inside : (i at : ℕ) (t : Bool) → i < length S.structs → at + struct_size S i ≤ length m → Inside S m (pick t (St.Struct i at) (St.Refused 10))
  struct-inside i at true l h = (l, h)
  struct-inside i at false l h = λ e. omega arith

  flat-inside : (k : Flat) (none : Bool) (at bit : ℕ) → FlatSound (length S.structs) k
      → ((i : ℕ) → k ≡ F.Struct i → at + struct_size S i ≤ length m) → Inside S m (T.struct_tested S m (T.flat_step m k none at bit))
  unfolding T.flat_step T.float_step T.enum_step T.struct_tested
  flat-inside F.Boolean none at bit l h = tt
  flat-inside (F.Integer s w) none at bit l h = tt
  flat-inside (F.Float w) none at bit l h = float-inside (le m at w) (none && is_nan w (le m at w))
  flat-inside (F.Enumerated n) none at bit l h = enum-inside (get_or m at 0) (eqb (get_or m at 0) 255) (ltb (get_or m at 0) n)
  flat-inside (F.Struct i) none at bit l h = struct-inside i at (struct_ok S m i at) l (h i refl)

  object-inside : (ob : Object) (p : Place) (t : Bool) → ObjectSound S ob → Inside S m (T.struct_tested S m (pick t St.Absent (St.Object ob p)))
  unfolding T.struct_tested
  object-inside ob p true l = tt
  object-inside ob p false l = l

  union-inside : (i c : ℕ) (p : Place) (t u : Bool) → eqb c 0 ≡ t → leb c (length (Sc.cases_of S i)) ≡ u
      → Inside S m (T.struct_tested S m (pick t St.Absent (pick u (St.Choice c (Sc.case_of (Sc.cases_of S i) c) p) (St.Unknown c))))
  unfolding T.struct_tested
  union-inside i c p true u e f = tt
  union-inside i c p false true e f = let z = eqb-false c 0 e in case_sound-at S sound i c (omega arith) (leb-true c (length (Sc.cases_of S i)) f)
  union-inside i c p false false e f = tt

  value-inside : (k : Kind) (none inplace : Bool) (tail at bit : ℕ) → KindSound S k
      → ((i : ℕ) → k ≡ OfFlat (F.Struct i) → at + struct_size S i ≤ length m) → Inside S m (T.struct_tested S m (T.value_step o S m k none inplace tail at bit))
  unfolding T.value_step T.object_step T.union_step
  value-inside (OfFlat k) none inplace tail at bit l h = flat-inside k none at bit l (λ i e. h i (ap OfFlat e))
  value-inside (OfObject ob) none inplace tail at bit l h = object-inside ob (T.place_of inplace tail (le m at o)) (eqb (le m at o) 0) l
  value-inside (OfUnion i) none inplace tail at bit l h =
      union-inside i (le m at 2) (T.place_of inplace tail (le m (at + 2) o)) (eqb (le m at 2) 0) (leb (le m at 2) (length (Sc.cases_of S i))) refl refl

  reached-inside : (g : Reach) (s : Step) → (g ≡ Here → Inside S m (T.struct_tested S m s)) → Inside S m (T.struct_tested S m (reached g s))
  unfolding T.struct_tested reached
  reached-inside Cut s h = λ e. omega arith
  reached-inside Past s h = tt
  reached-inside Here s h = h refl

  struct-wide : (k : Kind) (i at n c : ℕ) → k ≡ OfFlat (F.Struct i) → at + L.width o S k ≤ n → c + n ≤ length m → c + at + struct_size S i ≤ length m
  unfolding L.width flat_width
  struct-wide k i at n c e h l = let q = subst (λ (x : Kind). at + L.width o S x ≤ n) e h in omega arith

  member-inside : (start n : ℕ) (c : Cursor) (r : Member) → MemberSound S r → start + n ≤ length m → Inside S m (T.member_step o S m start n c r)
  unfolding T.member_step L.placement_of L.member_slot
  member-inside start n c r l h =
      let p : Placement = L.placement_of o S r c in
      subst (λ (s : Step). Inside S m (T.struct_tested S m s)) (sym (step-reached o S m start n p r))
      (reached-inside (reach_of m start n p (L.has_flag r))
      (T.value_step o S m r.kind r.optional r.inplace (start + n) (start + p.value.at) p.value.bit)
      (λ e.
      let f = here-inside m start n p (L.has_flag r) (reach_of m start n p (L.has_flag r)) refl e in
      let z : p.value.size ≡ L.width o S r.kind = slot-size o S r.kind (L.after_flag r c) in
      value-inside r.kind r.optional r.inplace (start + n) (start + p.value.at) p.value.bit l.kind
      (λ i q. struct-wide r.kind i p.value.at n start q (subst (λ (x : ℕ). p.value.at + x ≤ n) z f) h)))

  element-inside : (k : Kind) (start i : ℕ) → KindSound S k → NoStruct k → Inside S m (T.element_step o S m k start i)
  unfolding T.element_step
  element-inside k start i l n = value-inside k true false 0 (T.element_place o S k start i) (i % 8) l (λ j e. absurd (subst NoStruct e n))

-- ---- what a walk says: P where it goes on, and a number where it is refused
abbrev pub Says : Type 0 → Walked → Type 0
Says P (Ok s) = P
Says P (Err (r, s)) = r.number ≡ 0 → ⊥

says_map : (P Q : Type 0) → (P → Q) → (w : Walked) → Says P w → Says Q w
says_map P Q f (Ok s) h = f h
says_map P Q f (Err (r, s)) h = h

says_then : (P Q : Type 0) (w : Walked) (next : Spent → Walked) → Says P w → ((s : Spent) → Says Q (next s)) → Says (P × Q) (W.and_then w next)
unfolding W.and_then
says_then P Q (Ok s) next h k = says_map Q (P × Q) (λ q. (h, q)) (next s) (k s)
says_then P Q (Err (r, s)) next h k = h

refuse_says : (P : Type 0) (n at : ℕ) (s : Spent) → (n ≡ 0 → ⊥) → Says P (W.refuse n at s)
unfolding W.refuse
refuse_says P n at s h = h

refuse-part_says : (P : Type 0) (n holder j : ℕ) (s : Spent) → (n ≡ 0 → ⊥) → Says P (W.refuse_part n holder j s)
unfolding W.refuse_part
refuse-part_says P n holder j s h = h

-- one of two walks
pick_says : (P : Type 0) (t : Bool) (v w : Walked) → (t ≡ true → Says P v) → Says P w → Says P (pick t v w)
pick_says P true v w h k = h refl
pick_says P false v w h k = k

module _ (o : ℕ) (S : Schema) (sound : Sound S) (m : List ℕ) (child : W.Child) (good : D.Child)
    (says : (ob : Object) (p : Place) (s : Spent) → ObjectSound S ob → Says (good ob p) (child ob p s)) where
  choice_says : (holder j : ℕ) (ob : Object) (p : Place) (s : Spent) → ObjectSound S ob → Says (good ob p) (W.follow_choice child holder j ob p s)
  unfolding W.follow_choice
  choice_says holder j ob (ByOffset x) s l = by (eqb x 0)
    where
      by : (t : Bool) → Says (good ob (ByOffset x)) (pick t (W.refuse_part 9 holder j s) (child ob (ByOffset x) s))
      by true = refuse-part_says (good ob (ByOffset x)) 9 holder j s (λ e. omega arith)
      by false = says ob (ByOffset x) s l
  choice_says holder j ob (InPlace a n) s l = says ob (InPlace a n) s l

  follow_says : (holder j : ℕ) (step : Step) (s : Spent) → Inside S m step → Says (D.StepReadable good S m step) (W.follow child holder j step s)
  unfolding W.follow D.StepReadable
  follow_says holder j (St.Refused n) s h = refuse-part_says ⊥ n holder j s h
  follow_says holder j St.Absent s h = tt
  follow_says holder j (St.Value x) s h = tt
  follow_says holder j (St.Unknown x) s h = tt
  follow_says holder j (St.Struct i at) s h = h
  follow_says holder j (St.Object ob p) s h = says ob p s h
  follow_says holder j (St.Choice c ob p) s h = choice_says holder j ob p s h

  members_say : (holder start n : ℕ) (c : Cursor) (j : ℕ) (rs : List Member) (s : Spent) → All (MemberSound S) rs → start + n ≤ length m
      → Says (D.MembersReadable o good S m start n c rs) (W.members child o S m holder start n c j rs s)
  unfolding W.members D.MembersReadable
  members_say holder start n c j [] s l h = tt
  members_say holder start n c j (r ∷ rs) s l h =
      says_then (D.StepReadable good S m (T.member_step o S m start n c r)) (D.MembersReadable o good S m start n (L.after_member o S r c) rs)
      (W.follow child holder j (T.member_step o S m start n c r) s) (W.members child o S m holder start n (L.after_member o S r c) (j + 1) rs)
      (follow_says holder j (T.member_step o S m start n c r) s (member-inside o S sound m start n c r l.0 h))
      (λ v. members_say holder start n (L.after_member o S r c) (j + 1) rs v l.1 h)

  elements_say : (holder start : ℕ) (k : Kind) (n i : ℕ) (s : Spent) → KindSound S k → NoStruct k
      → Says (D.ElementsReadable o good S m k start n i) (W.elements child o S m holder start k n i s)
  unfolding W.elements D.ElementsReadable
  elements_say holder start k zero i s l h = tt
  elements_say holder start k (suc n) i s l h =
      says_then (D.StepReadable good S m (T.element_step o S m k start i)) (D.ElementsReadable o good S m k start n (i + 1))
      (W.follow child holder i (T.element_step o S m k start i) s) (W.elements child o S m holder start k n (i + 1))
      (follow_says holder i (T.element_step o S m k start i) s (element-inside o S sound m k start i l h))
      (λ v. elements_say holder start k n (i + 1) v l h)

  directs_say : (t w : ℕ) → ObjectSound S (O.Table t) → (n at : ℕ) (s : Spent) → Says (D.DirectsReadable good t w n at) (W.directs child t w n at s)
  unfolding W.directs D.DirectsReadable
  directs_say t w l zero at s = tt
  directs_say t w l (suc n) at s =
      says_then (good (O.Table t) (InPlace at w)) (D.DirectsReadable good t w n (at + w)) (child (O.Table t) (InPlace at w) s) (W.directs child t w n (at + w))
      (says (O.Table t) (InPlace at w) s l) (λ v. directs_say t w l n (at + w) v)

  content_says : (ob : Object) (holder start n : ℕ) (s : Spent) → ObjectSound S ob → start + W.content_size o S m ob holder n ≤ length m
      → Says (D.ContentReadable o good S m ob holder start n) (W.content child o S m ob holder start n s)
  unfolding W.content D.ContentReadable W.content_size
  content_says O.Text holder start n s l h = tt
  content_says O.Bytes holder start n s l h = tt
  content_says (O.List i) holder start n s l h = elements_say holder start (Sc.element_of S i) n 0 s (sound.lists i).kind (sound.lists i).scalar
  content_says (O.Table i) holder start n s l h = members_say holder start n L.begin 0 (Sc.table_of S i).members s (sound.tables i).members h
  content_says (O.DirectList t) holder start n s l h = directs_say t (W.element_size o m holder) l.table n start s

  -- an object whose content fits is charged, and then its bytes are tested
  open_says : (b : Budget) (ob : Object) (holder start n : ℕ) (s : Spent) → ObjectSound S ob
      → Says (D.Entered o good S m ob holder start n) (W.admit child o S m b ob holder (W.fit_content o S m ob holder start n) s)
  unfolding W.admit W.enter W.bytes_tested W.fit_content
  open_says b ob holder start n s l = by (leb (start + W.content_size o S m ob holder n) (length m)) refl
    where
      tested : (t u : Bool) (v : Spent) → start + W.content_size o S m ob holder n ≤ length m
          → Says (D.Entered o good S m ob holder start n)
          (W.enter child o S m ob holder (pick t (pick u (Ok (W.content_at start n)) (Err 16)) (Err 10)) v)
      tested true true v h =
          says_map (D.ContentReadable o good S m ob holder start n) (D.Entered o good S m ob holder start n) (λ q. record { sound = l; inside = h; parts = q })
          (W.content child o S m ob holder start n v) (content_says ob holder start n v l h)
      tested true false v h = refuse_says (D.Entered o good S m ob holder start n) 16 holder v (λ z. omega arith)
      tested false u v h = refuse_says (D.Entered o good S m ob holder start n) 10 holder v (λ z. omega arith)

      by : (t : Bool) → leb (start + W.content_size o S m ob holder n) (length m) ≡ t
          → Says (D.Entered o good S m ob holder start n) (W.admit child o S m b ob holder (pick t (Ok (W.content_at start n)) (Err 6)) s)
      by true e =
          let v = W.with_content (W.content_length o S ob n) s in
          pick_says (D.Entered o good S m ob holder start n) (leb (s.content + W.content_length o S ob n) b.content)
          (W.enter child o S m ob holder (W.bytes_tested m ob (Ok (W.content_at start n))) v) (W.refuse 17 holder s)
          (λ _. tested (W.end_ok m ob start n) (W.text_ok m ob start n) v (leb-true _ _ e)) (refuse_says (D.Entered o good S m ob holder start n) 17 holder s (λ z. omega arith))
      by false e = refuse_says (D.Entered o good S m ob holder start n) 6 holder s (λ z. omega arith)

  -- the header of a direct list is tested besides
  header_says : (b : Budget) (P : Type 0) (ob : Object) (x : ℕ) (fit : Result Content ℕ) (s : Spent) → Says P (W.admit child o S m b ob x fit s)
      → Says P (W.admit child o S m b ob x (W.header_tested o S m ob x fit) s)
  unfolding W.header_tested W.direct_header W.admit
  header_says b P O.Text x fit s h = h
  header_says b P O.Bytes x fit s h = h
  header_says b P (O.List i) x fit s h = h
  header_says b P (O.Table i) x fit s h = h
  header_says b P (O.DirectList i) x fit s h = by (eqb (W.element_id o m x) (Sc.table_of S i).id) (leb (le m (x + 4) o) W.most_elements)
    where
      by : (t u : Bool) → Says P (W.admit child o S m b (O.DirectList i) x (pick t (pick u fit (Err 6)) (Err 7)) s)
      by true true = h
      by true false = refuse_says P 6 x s (λ z. omega arith)
      by false u = refuse_says P 7 x s (λ z. omega arith)

  arrive_says : (b : Budget) (ob : Object) (p : Place) (s : Spent) → ObjectSound S ob
      → Says (D.HeaderInside o m ob p × D.Entered o good S m ob (W.placed p) (D.start_of o ob p) (D.length_of o m p)) (W.arrive child o S m b ob p s)
  unfolding W.arrive W.admit W.fit_object D.HeaderInside D.start_of D.length_of W.placed
  arrive_says b ob (ByOffset x) s l = by (leb (W.start_size o) x) (leb (x + W.header_size o ob) (length m)) (eqb (le m x 4) (W.magic S ob)) refl
    where
      fit : Result Content ℕ
      fit = W.fit_content o S m ob x (x + W.header_size o ob) (le m (x + 4) o)

      by : (t u v : Bool) → leb (x + W.header_size o ob) (length m) ≡ u
          → Says ((x + W.header_size o ob ≤ length m) × D.Entered o good S m ob x (x + W.header_size o ob) (le m (x + 4) o))
          (W.admit child o S m b ob x
          (pick (t && u)
          (pick v (W.header_tested o S m ob x (W.fit_content o S m ob x (x + W.header_size o ob) (le m (x + 4) o))) (Err 7))
          (Err 6)) s)
      by true true true e =
          let h = leb-true _ _ e in
          says_map (D.Entered o good S m ob x (x + W.header_size o ob) (le m (x + 4) o))
          ((x + W.header_size o ob ≤ length m) × D.Entered o good S m ob x (x + W.header_size o ob) (le m (x + 4) o)) (λ q. (h, q))
          (W.admit child o S m b ob x (W.header_tested o S m ob x fit) s)
          (header_says b (D.Entered o good S m ob x (x + W.header_size o ob) (le m (x + 4) o)) ob x fit s
          (open_says b ob x (x + W.header_size o ob) (le m (x + 4) o) s l))
      by true true false e = refuse_says _ 7 x s (λ z. omega arith)
      by true false v e = refuse_says _ 6 x s (λ z. omega arith)
      by false u v e = refuse_says _ 6 x s (λ z. omega arith)
  arrive_says b ob (InPlace a n) s l = by (W.stands_in_place ob)
    where
      by : (t : Bool) → Says (Unit {0} × D.Entered o good S m ob a a n) (W.admit child o S m b ob a (pick t (W.fit_content o S m ob a a n) (Err 6)) s)
      by true =
          says_map (D.Entered o good S m ob a a n) (Unit {0} × D.Entered o good S m ob a a n) (λ q. (tt, q))
          (W.admit child o S m b ob a (W.fit_content o S m ob a a n) s) (open_says b ob a a n s l)
      by false = refuse_says _ 6 a s (λ z. omega arith)

pub visit_says : (o : ℕ) (S : Schema) → Sound S → (m : List ℕ) (b : Budget) (d : ℕ) (ob : Object) (p : Place) (s : Spent) → ObjectSound S ob
    → Says (D.ObjectReadable o d S m ob p) (W.visit d o S m b ob p s)
unfolding W.visit W.counted W.too_deep D.ObjectReadable
visit_says o S sound m b zero ob p s l =
    pick_says ⊥ (ltb s.visits b.visits) (W.refuse 5 (W.placed p) (W.one_more s)) (W.refuse 4 (W.placed p) s)
    (λ _. refuse_says ⊥ 5 (W.placed p) (W.one_more s) (λ e. omega arith)) (refuse_says ⊥ 4 (W.placed p) s (λ e. omega arith))
visit_says o S sound m b (suc d) ob p s l =
    pick_says (D.HeaderInside o m ob p × D.Entered o (D.ObjectReadable o d S m) S m ob (W.placed p) (D.start_of o ob p) (D.length_of o m p)) (ltb s.visits b.visits)
    (W.arrive (W.visit d o S m b) o S m b ob p (W.one_more s)) (W.refuse 4 (W.placed p) s)
    (λ _. arrive_says o S sound m (W.visit d o S m b) (D.ObjectReadable o d S m) (λ ob' p' s' l'. visit_says o S sound m b d ob' p' s' l') b ob p (W.one_more s) l)
    (refuse_says _ 4 (W.placed p) s (λ e. omega arith))
