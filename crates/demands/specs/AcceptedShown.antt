-- The values of an accepted message are values that the schema can show.
use Rattle.std.specs.Prelude.{◌≡◌, true, ◌&&◌, ◌⊎◌, length, get_or, take, drop, ltb, eqb, Result, Ok, Err}
use Rattle.std.proofs.Math.Path.{refl, ap}
use Rattle.std.proofs.Common.{inl, inr, length-take, length-drop, leb-true}
use mathlib.Core.List.{List, [], ◌∷◌}
use Rattle.std.proofs.lemmas.Bool.{false≢true}
use Prim.Native.Nat.{ℕ, zero, suc, ◌+◌, ◌*◌, ◌^◌, ◌<◌, ◌≤◌}
use native.Mathlib.Omega.{arith}
use Rattle.std.proofs.Math.Dec.{leb}
use Rattle.coding.specs.Lists.{pick}
use Rattle.coding.specs.Bytes.{le, largest, deepest}
use Rattle.coding.specs.Schema.{Schema, element_of, cases_of, case_of, table_of}
use Rattle.coding.specs.Packed.{parse}
use Rattle.coding.specs.Lawful.{lawful}
use Rattle.coding.specs.Structs.{flat_width}
use Rattle.coding.specs.Layout.{width, flat_is_bool, is_bool, begin, after_member}
use Rattle.coding.specs.Step.{elements_size}
use Rattle.coding.specs.Walk as W
use Rattle.coding.specs.Walk.{placed, magic, header_size, element_id, element_size, most_elements, start_size, content_size, content_length, end_ok, text_ok, fit_content, direct_header, header_tested, stands_in_place, fit_object, bytes_tested, refuse, refuse_part, and_then, follow_choice, follow, content, enter, with_content, admit, arrive, too_deep, one_more, counted, visit, root_place, nothing, walk, verdict_of, early, size_ok, start_ok, verdict, content_at, Walked}
use Rattle.coding.specs.Value.{count}
use Rattle.coding.specs.Read as R
use Rattle.coding.specs.Read.{step_read, struct_read, members_read, elements_read, directs_read, content_read, place_read, read, message_read}
use Rattle.coding.specs.declared.Flat.TheVariants.{Boolean, Integer, Float, Enumerated, Struct}
use Rattle.coding.specs.declared.Object.{Object}
use Rattle.coding.specs.declared.Object.TheVariants as O
use Rattle.coding.specs.declared.Kind.{Kind}
use Rattle.coding.specs.declared.Kind.TheVariants.{OfFlat, OfObject, OfUnion}
use Rattle.coding.specs.declared.Member.{Member}
use Rattle.coding.specs.declared.Cursor.{Cursor}
use Rattle.coding.specs.declared.Place.{Place}
use Rattle.coding.specs.declared.Place.TheVariants.{ByOffset, InPlace}
use Rattle.coding.specs.declared.Step.{Step}
use Rattle.coding.specs.declared.Content.{Content}
use Rattle.coding.specs.declared.Budget.{Budget}
use Rattle.coding.specs.declared.Spent.{Spent}
use Rattle.coding.specs.declared.Refusal.{Refusal}
use Rattle.coding.specs.declared.Verdict.{Verdict}
use Rattle.laws.specs.Sound.{All, KindSound, NoStruct, Sound}
use Rattle.laws.specs.Lists.{both_right, pick_holds}
use Rattle.laws.specs.All.{all_take, all_drop, all_index}
use Rattle.laws.specs.Bits.{Byte}
use Rattle.demands.specs.Shown.{Objects, PartShown, no-part, flat, object, choice, unknown-choice, MembersShown, no_member, members, ElementsShown, no-element, elements, DirectsShown, no-direct, directs, ContentShown, text, bytes, list, table, direct_list, Shown}
use Rattle.demands.specs.StepShown.{StepShown, step_refused, step_absent, step_value, step-unknown, step-struct, step-object, step-choice, step-unknown-choice, member_step_lem, element_step_lem, element-present}

-- ---- how a walk ends: it goes on, and P holds, or it is refused by a number
pub data Ends (P : Type 0) : Walked → Type 0 where
  goes : {s : Spent} → P → Ends P (Ok s)
  stops : {r : Refusal} {s : Spent} → 0 < r.number → Ends P (Err (r, s))

refuse_ends : {P : Type 0} (n at : ℕ) (s : Spent) → 0 < n → Ends P (refuse n at s)
unfolding refuse
refuse_ends n at s h = stops h

refuse-part_ends : {P : Type 0} (n holder j : ℕ) (s : Spent) → 0 < n → Ends P (refuse_part n holder j s)
unfolding refuse_part
refuse-part_ends n holder j s h = stops h

then_ends : {P Q : Type 0} {a : Walked} {next : Spent → Walked} → Ends P a → ((s : Spent) → Ends Q (next s)) → Ends (P × Q) (and_then a next)
unfolding and_then
then_ends (goes {s} p) h = both p (h s)
  where
    both : {P Q : Type 0} {w : Walked} → P → Ends Q w → Ends (P × Q) w
    both p (goes q) = goes (p, q)
    both p (stops n) = stops n
then_ends (stops n) h = stops n

pub map_ends : {P Q : Type 0} {w : Walked} → (P → Q) → Ends P w → Ends Q w
map_ends f (goes p) = goes (f p)
map_ends f (stops n) = stops n

pub ends_going : {P : Type 0} {w : Walked} {s : Spent} → w ≡ Ok s → Ends P w → P
ends_going e (goes p) = p
ends_going e (stops n) = absurd (let z : ◌≡◌ {A = ℕ} 0 1 = cc in omega arith)

-- a direct list's count was tested
abbrev Few : Object → ℕ → Type 0
Few O.Text n = Unit {0}
Few O.Bytes n = Unit {0}
Few (O.List i) n = Unit {0}
Few (O.Table i) n = Unit {0}
Few (O.DirectList t) n = n ≤ most_elements

most : (n : ℕ) → n ≤ most_elements → n < 2 ^ 32
unfolding most_elements
most n h = omega arith

-- no direct list stands in place
stands_few : (ob : Object) (n : ℕ) → stands_in_place ob ≡ true → Few ob n
unfolding stands_in_place
stands_few O.Text n e = tt
stands_few O.Bytes n e = tt
stands_few (O.List i) n e = tt
stands_few (O.Table i) n e = tt
stands_few (O.DirectList t) n e = absurd (false≢true e)

module _ (S : Schema) (G : Sound S) (m : List ℕ) (small : (i : ℕ) → get_or m i 0 < 256) (sized : length m ≤ largest) (o : ℕ) (wide : 0 < o) where
  -- ---- counts
  blob_bytes : (start n : ℕ) → All Byte (take n (drop start m))
  blob_bytes start n = all_take Byte n (drop start m) (all_drop Byte start m (all_index Byte 0 m small))

  blob_few : (start n : ℕ) → length (take n (drop start m)) < 2 ^ 32
  unfolding largest
  blob_few start n = simp (length-take, length-drop) (omega arith)

  times : (w n : ℕ) → 0 < w → w * n ≤ length m → n < 2 ^ 32
  unfolding largest
  times zero n h l = absurd (omega arith)
  times (suc w) n h l = omega arith

  float-wide : (w : ℕ) → (w ≡ 4) ⊎ (w ≡ 8) → 0 < w
  float-wide w (inl e) = omega arith
  float-wide w (inr e) = omega arith

  -- an element takes a bit at least
  count_few : (k : Kind) → KindSound S k → NoStruct k → (n : ℕ) → elements_size o S k n ≤ length m → n < 2 ^ 32
  unfolding elements_size is_bool flat_is_bool width flat_width largest
  count_few (OfFlat Boolean) s t n l = omega arith
  count_few (OfFlat (Integer g w)) s t n l = times w n s.0 l
  count_few (OfFlat (Float w)) s t n l = times w n (float-wide w s) l
  count_few (OfFlat (Enumerated c)) s t n l = times 1 n (omega arith) l
  count_few (OfFlat (Struct i)) s t n l = absurd t
  count_few (OfObject ob) s t n l = times o n wide l
  count_few (OfUnion i) s t n l = times (2 + o) n (omega arith) l

  -- ---- members, elements and objects, where the walk and the reading below agree
  module _ (shown : Objects) (child : W.Child) (reader : R.Child)
      (below : (ob : Object) (p : Place) (s : Spent) → Ends (shown ob (reader ob p)) (child ob p s)) where
    choice_ends : (holder j : ℕ) (ob : Object) (p : Place) (s : Spent) → Ends (shown ob (reader ob p)) (follow_choice child holder j ob p s)
    unfolding follow_choice refuse_part
    choice_ends holder j ob (ByOffset x) s =
        pick_holds (Ends (shown ob (reader ob (ByOffset x)))) (eqb x 0) (refuse_part 9 holder j s) (child ob (ByOffset x) s)
        (λ e. refuse-part_ends 9 holder j s (omega arith)) (λ e. below ob (ByOffset x) s)
    choice_ends holder j ob (InPlace a n) s = below ob (InPlace a n) s

    step_ends : {k : Kind} {st : Step} → StepShown S m k st → (holder j : ℕ) (s : Spent)
        → Ends (PartShown shown S k (step_read (struct_read S m) reader st)) (follow child holder j st s)
    unfolding follow refuse_part step_read
    step_ends (step_refused {n} l) holder j s = refuse-part_ends n holder j s l
    step_ends step_absent holder j s = goes no-part
    step_ends (step_value h) holder j s = goes (flat h)
    step_ends (step-unknown h) holder j s = goes (flat h)
    step_ends (step-struct h) holder j s = goes (flat h)
    step_ends (step-object {ob} {p}) holder j s = map_ends (λ h. object h) (below ob p s)
    step_ends (step-choice {i} {c} {p} l u) holder j s = map_ends (λ h. choice l u h) (choice_ends holder j (case_of (cases_of S i) c) p s)
    step_ends (step-unknown-choice l u) holder j s = goes (unknown-choice l u)

    members_ends : (rs : List Member) (holder start n : ℕ) (c : Cursor) (j : ℕ) (s : Spent)
        → Ends (MembersShown shown S rs (members_read reader o S m start n c rs)) (W.members child o S m holder start n c j rs s)
    unfolding W.members members_read
    members_ends [] holder start n c j s = goes no_member
    members_ends (r ∷ rs) holder start n c j s =
        map_ends (λ h. members h.0 h.1)
        (then_ends (step_ends (member_step_lem S m small G o start n c r) holder j s) (members_ends rs holder start n (after_member o S r c) (j + 1)))

    elements_ends : (k : Kind) (holder start n i : ℕ) (s : Spent)
        → Ends (ElementsShown shown S k (elements_read reader o S m start k n i)) (W.elements child o S m holder start k n i s)
    unfolding W.elements elements_read
    elements_ends k holder start zero i s = goes no-element
    elements_ends k holder start (suc n) i s =
        map_ends (λ h. elements h.0 (element-present S m small G o reader k start i) h.1)
        (then_ends (step_ends (element_step_lem S m small G o k start i) holder i s) (elements_ends k holder start n (i + 1)))

    elements-count : (k : Kind) (start n i : ℕ) → count (elements_read reader o S m start k n i) ≡ n
    unfolding elements_read count
    elements-count k start zero i = refl
    elements-count k start (suc n) i = ap suc (elements-count k start n (i + 1))

    directs_ends : (t w n at : ℕ) (s : Spent) → Ends (DirectsShown shown t (directs_read reader t w n at)) (W.directs child t w n at s)
    unfolding W.directs directs_read
    directs_ends t w zero at s = goes no-direct
    directs_ends t w (suc n) at s =
        map_ends (λ h. directs h.0 h.1) (then_ends (below (O.Table t) (InPlace at w) s) (directs_ends t w n (at + w)))

    directs-count : (t w n at : ℕ) → count (directs_read reader t w n at) ≡ n
    unfolding directs_read count
    directs-count t w zero at = refl
    directs-count t w (suc n) at = ap suc (directs-count t w n (at + w))

    content_ends : (ob : Object) (holder start n : ℕ) (s : Spent) → start + content_size o S m ob holder n ≤ length m → Few ob n
        → Ends (ContentShown shown S ob (content_read reader o S m ob holder start n)) (content child o S m ob holder start n s)
    unfolding content content_read content_size
    content_ends O.Text holder start n s l f = goes (text (blob_bytes start n) (blob_few start n))
    content_ends O.Bytes holder start n s l f = goes (bytes (blob_bytes start n) (blob_few start n))
    content_ends (O.List i) holder start n s l f =
        let few = count_few (element_of S i) (G.lists i).kind (G.lists i).scalar n (omega arith) in
        let vs = elements_read reader o S m start (element_of S i) n 0 in
        map_ends (λ h. list {vs = vs} (rw (elements-count (element_of S i) start n 0) few) h) (elements_ends (element_of S i) holder start n 0 s)
    content_ends (O.Table i) holder start n s l f = map_ends (λ h. table h) (members_ends (table_of S i).members holder start n begin 0 s)
    content_ends (O.DirectList t) holder start n s l f =
        let w = element_size o m holder in
        let vs = directs_read reader t w n start in
        map_ends (λ h. direct_list {vs = vs} (rw (directs-count t w n start) (most n f)) h) (directs_ends t w n start s)

    -- an arrival that found content of length n at `start`, or a refusal
    Enters : Object → ℕ → ℕ → ℕ → Spent → Result Content ℕ → Type 0
    Enters ob holder start n s opened = Ends (ContentShown shown S ob (content_read reader o S m ob holder start n)) (enter child o S m ob holder opened s)

    refused_enters : (ob : Object) (holder start n k : ℕ) (s : Spent) → 0 < k → Enters ob holder start n s (Err k)
    unfolding Enters enter
    refused_enters ob holder start n k s l = refuse_ends k holder s l

    content_enters : (ob : Object) (holder start n : ℕ) (s : Spent) → start + content_size o S m ob holder n ≤ length m → Few ob n
        → Enters ob holder start n s (Ok (content_at start n))
    unfolding Enters enter
    content_enters ob holder start n s l f = content_ends ob holder start n s l f

    -- the same where the content is not charged and the bytes are not tested yet
    Fits : Budget → Object → ℕ → ℕ → ℕ → Spent → Result Content ℕ → Type 0
    Fits b ob holder start n s fit =
        Ends (ContentShown shown S ob (content_read reader o S m ob holder start n)) (admit child o S m b ob holder fit s)

    refused_fits : (b : Budget) (ob : Object) (holder start n k : ℕ) (s : Spent) → 0 < k → Fits b ob holder start n s (Err k)
    unfolding Fits admit
    refused_fits b ob holder start n k s l = refuse_ends k holder s l

    charged_fits : (b : Budget) (ob : Object) (holder start n : ℕ) (s : Spent) → start + content_size o S m ob holder n ≤ length m → Few ob n
        → Fits b ob holder start n s (Ok (content_at start n))
    unfolding Fits admit bytes_tested Enters
    charged_fits b ob holder start n s l f =
        let P = ContentShown shown S ob (content_read reader o S m ob holder start n) in
        let c = content_length o S ob n in
        let E = Enters ob holder start n (with_content c s) in
        let judged = pick (text_ok m ob start n) (Ok (content_at start n)) (Err 16) in
        pick_holds (Ends P) (leb (s.content + c) b.content)
        (enter child o S m ob holder (pick (end_ok m ob start n) judged (Err 10)) (with_content c s)) (refuse 17 holder s)
        (λ e.
        pick_holds E (end_ok m ob start n) judged (Err 10)
        (λ t.
        pick_holds E (text_ok m ob start n) (Ok (content_at start n)) (Err 16)
        (λ u. content_enters ob holder start n (with_content c s) l f)
        (λ u. refused_enters ob holder start n 16 (with_content c s) (omega arith)))
        (λ t. refused_enters ob holder start n 10 (with_content c s) (omega arith)))
        (λ e. refuse_ends 17 holder s (omega arith))

    content_fits : (b : Budget) (ob : Object) (holder start n : ℕ) (s : Spent) → Few ob n
        → Fits b ob holder start n s (fit_content o S m ob holder start n)
    unfolding fit_content
    content_fits b ob holder start n s f =
        pick_holds (Fits b ob holder start n s) (leb (start + content_size o S m ob holder n) (length m)) (Ok (content_at start n)) (Err 6)
        (λ e. charged_fits b ob holder start n s (leb-true (start + content_size o S m ob holder n) (length m) e) f)
        (λ e. refused_fits b ob holder start n 6 s (omega arith))

    -- what a direct list's header says more
    header_fits : (b : Budget) (ob : Object) (x start : ℕ) (s : Spent) (fit : Result Content ℕ)
        → (Few ob (le m (x + 4) o) → Fits b ob x start (le m (x + 4) o) s fit)
        → Fits b ob x start (le m (x + 4) o) s (header_tested o S m ob x fit)
    unfolding header_tested direct_header
    header_fits b O.Text x start s fit h = h tt
    header_fits b O.Bytes x start s fit h = h tt
    header_fits b (O.List i) x start s fit h = h tt
    header_fits b (O.Table i) x start s fit h = h tt
    header_fits b (O.DirectList t) x start s fit h =
        let n = le m (x + 4) o in
        let P = Fits b (O.DirectList t) x start n s in
        pick_holds P (eqb (element_id o m x) (table_of S t).id) (pick (leb n most_elements) fit (Err 6)) (Err 7)
        (λ e.
        pick_holds P (leb n most_elements) fit (Err 6) (λ f. h (leb-true n most_elements f))
        (λ f. refused_fits b (O.DirectList t) x start n 6 s (omega arith)))
        (λ e. refused_fits b (O.DirectList t) x start n 7 s (omega arith))

    arrival_ends : (b : Budget) (ob : Object) (p : Place) (s : Spent)
        → Ends (ContentShown shown S ob (place_read reader o S m ob p)) (arrive child o S m b ob p s)
    unfolding arrive placed fit_object place_read Fits
    arrival_ends b ob (ByOffset x) s =
        let start = x + header_size o ob in
        let n = le m (x + 4) o in
        let P = Fits b ob x start n s in
        let fit = fit_content o S m ob x start n in
        let opened = header_tested o S m ob x fit in
        let inner = pick (eqb (le m x 4) (magic S ob)) opened (Err 7) in
        pick_holds P (leb (start_size o) x && leb start (length m)) inner (Err 6)
        (λ e.
        pick_holds P (eqb (le m x 4) (magic S ob)) opened (Err 7) (λ t. header_fits b ob x start s fit (content_fits b ob x start n s))
        (λ t. refused_fits b ob x start n 7 s (omega arith)))
        (λ e. refused_fits b ob x start n 6 s (omega arith))
    arrival_ends b ob (InPlace a n) s =
        pick_holds (Fits b ob a a n s) (stands_in_place ob) (fit_content o S m ob a a n) (Err 6)
        (λ e. content_fits b ob a a n s (stands_few ob n e)) (λ e. refused_fits b ob a a n 6 s (omega arith))

  counted_ends : (P : Type 0) (child : W.Child) (b : Budget) (ob : Object) (p : Place) → ((s : Spent) → Ends P (child ob p s))
      → (s : Spent) → Ends P (counted child b ob p s)
  unfolding counted
  counted_ends P child b ob p h s =
      pick_holds (Ends P) (ltb s.visits b.visits) (child ob p (one_more s)) (refuse 4 (placed p) s)
      (λ e. h (one_more s)) (λ e. refuse_ends 4 (placed p) s (omega arith))

  pub object_ends : (b : Budget) (d : ℕ) (ob : Object) (p : Place) (s : Spent) → Ends (Shown d S ob (read d o S m ob p)) (visit d o S m b ob p s)
  unfolding visit read too_deep
  object_ends b zero ob p = counted_ends ⊥ too_deep b ob p (λ s. refuse_ends 5 (placed p) s (omega arith))
  object_ends b (suc d) ob p =
      counted_ends (Shown (suc d) S ob (read (suc d) o S m ob p)) (arrive (visit d o S m b) o S m b) b ob p
      (λ s. arrival_ends (Shown d S) (visit d o S m b) (read d o S m) (λ k q t. object_ends b d k q t) b ob p s)

  -- the values of a message, or a refusal
  pub walk_ends : (b : Budget) → Ends (Shown deepest S (O.Table S.root) (message_read o S m)) (walk o S m b)
  unfolding walk message_read
  walk_ends b = object_ends b deepest (O.Table S.root) (root_place o m) nothing

-- ---- the verdict: number 0 is a lawful schema, a message of a lawful size and start, and a walk to its end
ends-number : {P : Type 0} {w : Walked} → Ends P w → (verdict_of w).number ≡ 0 → P
unfolding verdict_of
ends-number (goes p) e = p
ends-number (stops n) e = absurd (omega arith)

pub verdict_shows : (P : Type 0) (o : ℕ) (b m : List ℕ) (budget : Budget)
    → (lawful o b ≡ true → length m ≤ largest → Ends P (walk o (parse b) m budget)) → (verdict o b m budget).number ≡ 0 → P
unfolding verdict size_ok
verdict_shows P o b m budget h =
    let Q : Verdict → Type 0 = λ v. v.number ≡ 0 → P in
    let walked = verdict_of (walk o (parse b) m budget) in
    let started = pick (start_ok m) walked (early 3) in
    let large = leb (length m) largest in
    let sized = leb (start_size o) (length m) && large in
    pick_holds Q (lawful o b) (pick sized started (early 2)) (early 1)
    (λ e.
    pick_holds Q sized started (early 2)
    (λ f.
    pick_holds Q (start_ok m) walked (early 3)
    (λ g. ends-number (h e (leb-true (length m) largest (both_right (leb (start_size o) (length m)) large f)))) (λ g. not-early 2))
    (λ f. not-early 1))
    (λ e. not-early 0)
  where
    not-early : (n : ℕ) → (early (suc n)).number ≡ 0 → P
    not-early n z = absurd (unfold early in omega arith)
