-- A walk that goes on has gone over texts only: every text of the values that are read there has the grammar of RFC 3629.
use Rattle.std.specs.Prelude.{◌≡◌, refl, Bool, ◌&&◌, length, take, drop, ltb, eqb, Result, Ok, Err}
use Rattle.std.proofs.Common.{sym, ap₂, arith}
use Rattle.std.proofs.Math.Path.{subst}
use Rattle.std.proofs.Math.Bool.{true, false}
use mathlib.Core.List.{List, [], ◌∷◌}
use Prim.Native.Nat.{ℕ, zero, suc, ◌+◌}
use Rattle.std.proofs.Math.Dec.{leb}
use Rattle.coding.specs.Lists.{pick}
use Rattle.coding.specs.Bytes.{le}
use Rattle.coding.specs.Utf8.{Characters}
use Rattle.coding.specs.Schema.{Schema, element_of, table_of}
use Rattle.coding.specs.Layout.{begin, after_member}
use Rattle.coding.specs.Step.{member_step, element_step}
use Rattle.coding.specs.Walk as W
use Rattle.coding.specs.Value.{Value, absent, unknown, as_number, as_blob, as_row, as_object, present, first, others}
use Rattle.coding.specs.Read as R
use Rattle.coding.specs.declared.Object.{Object}
use Rattle.coding.specs.declared.Object.TheVariants as O
use Rattle.coding.specs.declared.Kind.{Kind}
use Rattle.coding.specs.declared.Kind.TheVariants.{OfFlat, OfObject, OfUnion}
use Rattle.coding.specs.declared.Member.{Member}
use Rattle.coding.specs.declared.Cursor.{Cursor}
use Rattle.coding.specs.declared.Place.{Place}
use Rattle.coding.specs.declared.Place.TheVariants.{ByOffset, InPlace}
use Rattle.coding.specs.declared.Step.{Step}
use Rattle.coding.specs.declared.Content.{Content}
use Rattle.coding.specs.declared.Budget.{Budget}
use Rattle.coding.specs.declared.Spent.{Spent}
use Rattle.laws.specs.Sound.{All}
use Rattle.laws.specs.All.{all_append}
use Rattle.demands.specs.GoingOn.{refuse_going, refuse-part_going, both}
use Rattle.demands.specs.StepKinds.{OfKind, refused, value, struct, object, choice, member_kind, element_kind}
use Rattle.demands.specs.StepKinds as K
use Rattle.demands.specs.TreeTexts.{Texts, part_texts, members_texts, elements_texts, directs_texts, content_texts, tree_texts}
use Rattle.demands.specs.Utf8.{text-exactly}

-- all of these are text
abbrev pub AllText : List (List ℕ) → Type 0
AllText l = All Characters l

not-content : {A : Type 0} (k start n : ℕ) → Err k ≡ Ok (W.content_at start n) → A
not-content k start n e = let z : ◌≡◌ {A = ℕ} 0 1 = cc in absurd (omega arith)

-- ---- an arrival from which the walk has gone on: its content fits, its bytes are in order, and the walk has gone on through it
record Gone (child : W.Child) (o : ℕ) (S : Schema) (m : List ℕ) (ob : Object) (at : ℕ) (fit : Result Content ℕ) (t : Spent) : Type 0 where
  start : ℕ
  size : ℕ
  from : Spent
  fits : fit ≡ Ok (W.content_at start size)
  text : W.text_ok m ob start size ≡ true
  goes : W.content child o S m ob at start size from ≡ Ok t

module _ (o : ℕ) (S : Schema) (m : List ℕ) where
  admit_gone : (child : W.Child) (b : Budget) (ob : Object) (at : ℕ) (fit : Result Content ℕ) (s t : Spent)
      → W.admit child o S m b ob at fit s ≡ Ok t → Gone child o S m ob at fit t
  unfolding W.admit W.enter W.bytes_tested
  admit_gone child b ob at (Err n) s t e = absurd (refuse_going _ _ _ _ e)
  admit_gone child b ob at (Ok c) s t e = charged (leb (s.content + W.content_length o S ob c.length) b.content) e
    where
      tested : (f g : Bool) (u : Spent) → W.text_ok m ob c.start c.length ≡ g
          → W.enter child o S m ob at (pick f (pick g (Ok c) (Err 16)) (Err 10)) u ≡ Ok t
          → Gone child o S m ob at (Ok c) t
      tested true true u h q = record { start = c.start; size = c.length; from = u; fits = refl; text = h; goes = q }
      tested true false u h q = absurd (refuse_going _ _ _ _ q)
      tested false g u h q = absurd (refuse_going _ _ _ _ q)

      charged : (g : Bool)
          → pick g
          (W.enter child o S m ob at (W.bytes_tested m ob (Ok c)) (W.with_content (W.content_length o S ob c.length) s))
          (W.refuse 17 at s)
          ≡ Ok t
          → Gone child o S m ob at (Ok c) t
      charged true q = tested (W.end_ok m ob c.start c.length) (W.text_ok m ob c.start c.length) (W.with_content (W.content_length o S ob c.length) s) refl q
      charged false q = absurd (refuse_going _ _ _ _ q)

  -- ---- what is read stands where the content fits
  content-at : (ob : Object) (at s k start n : ℕ) → W.fit_content o S m ob at s k ≡ Ok (W.content_at start n) → (s ≡ start) × (k ≡ n)
  unfolding W.fit_content
  content-at ob at s k start n e = by (leb (s + W.content_size o S m ob at k) (length m)) e
    where
      by : (f : Bool) → pick {A = Result Content ℕ} f (Ok (W.content_at s k)) (Err 6) ≡ Ok (W.content_at start n) → (s ≡ start) × (k ≡ n)
      by true q = (grind arith, grind arith)
      by false q = not-content 6 start n q

  header_at : (ob : Object) (at start n : ℕ) (fit : Result Content ℕ) → W.header_tested o S m ob at fit ≡ Ok (W.content_at start n)
      → fit ≡ Ok (W.content_at start n)
  unfolding W.header_tested W.direct_header
  header_at O.Text at start n fit e = e
  header_at O.Bytes at start n fit e = e
  header_at (O.List i) at start n fit e = e
  header_at (O.Table i) at start n fit e = e
  header_at (O.DirectList t) at start n fit e =
      by (eqb (W.element_id o m at) (table_of S t).id) (leb (le m (at + 4) o) W.most_elements) e
    where
      by : (f g : Bool) → pick f (pick g fit (Err 6)) (Err 7) ≡ Ok (W.content_at start n) → fit ≡ Ok (W.content_at start n)
      by true true q = q
      by true false q = not-content 6 start n q
      by false g q = not-content 7 start n q

  fit-read : (child : R.Child) (ob : Object) (p : Place) (start n : ℕ) → W.fit_object o S m ob p ≡ Ok (W.content_at start n)
      → R.place_read child o S m ob p ≡ R.content_read child o S m ob (W.placed p) start n
  unfolding W.fit_object W.placed R.place_read
  fit-read child ob (ByOffset x) start n e =
      by (leb (W.start_size o) x && leb (x + W.header_size o ob) (length m)) (eqb (le m x 4) (W.magic S ob)) e
    where
      fit : Result Content ℕ
      fit = W.fit_content o S m ob x (x + W.header_size o ob) (le m (x + 4) o)

      by : (f g : Bool) → pick f (pick g (W.header_tested o S m ob x fit) (Err 7)) (Err 6) ≡ Ok (W.content_at start n)
          → R.content_read child o S m ob x (x + W.header_size o ob) (le m (x + 4) o) ≡ R.content_read child o S m ob x start n
      by true true q =
          let h = content-at ob x (x + W.header_size o ob) (le m (x + 4) o) start n (header_at ob x start n fit q) in
          ap₂ (λ (y k : ℕ). R.content_read child o S m ob x y k) h.0 h.1
      by true false q = not-content 7 start n q
      by false g q = not-content 6 start n q
  fit-read child ob (InPlace a k) start n e = by (W.stands_in_place ob) e
    where
      by : (f : Bool) → pick f (W.fit_content o S m ob a a k) (Err 6) ≡ Ok (W.content_at start n)
          → R.content_read child o S m ob a a k ≡ R.content_read child o S m ob a start n
      by true q = let h = content-at ob a a k start n q in ap₂ (λ (y z : ℕ). R.content_read child o S m ob a y z) h.0 h.1
      by false q = not-content 6 start n q

  -- ---- members, elements and contents, where the texts below are text
  module _ (child : W.Child) (reader : R.Child) (texts : Texts)
      (below : (ob : Object) (p : Place) (s t : Spent) → child ob p s ≡ Ok t → AllText (texts ob (reader ob p))) where
    choice-texts : (holder j : ℕ) (ob : Object) (p : Place) (s t : Spent) → W.follow_choice child holder j ob p s ≡ Ok t
        → AllText (texts ob (reader ob p))
    unfolding W.follow_choice
    choice-texts holder j ob (InPlace a n) s t e = below ob (InPlace a n) s t e
    choice-texts holder j ob (ByOffset x) s t e = by (eqb x 0) e
      where
        by : (f : Bool) → pick f (W.refuse_part 9 holder j s) (child ob (ByOffset x) s) ≡ Ok t → AllText (texts ob (reader ob (ByOffset x)))
        by true q = absurd (refuse-part_going _ _ _ _ _ q)
        by false q = below ob (ByOffset x) s t q

    if_there : (f : Bool) (l : List (List ℕ)) → AllText l → AllText (pick f l [])
    if_there true l h = h
    if_there false l h = tt

    no-texts : (k : Kind) → AllText (part_texts texts S k absent)
    unfolding part_texts present
    no-texts (OfFlat k) = tt
    no-texts (OfObject ob) = tt
    no-texts (OfUnion i) = tt

    unknown-texts : (k : Kind) (x : ℕ) → AllText (part_texts texts S k (unknown x))
    unfolding part_texts present
    unknown-texts (OfFlat k) x = tt
    unknown-texts (OfObject ob) x = tt
    unknown-texts (OfUnion i) x = tt

    step-texts : (holder j : ℕ) {k : Kind} {step : Step} → OfKind S k step → (s t : Spent) → W.follow child holder j step s ≡ Ok t
        → AllText (part_texts texts S k (R.step_read (R.struct_read S m) reader step))
    unfolding W.follow R.step_read part_texts present as_number as_object
    step-texts holder j (refused n) s t e = absurd (refuse-part_going n holder j _ _ e)
    step-texts holder j (K.absent {k = k}) s t e = no-texts k
    step-texts holder j (K.unknown {k = k} x) s t e = unknown-texts k x
    step-texts holder j (value k x h) s t e = tt
    step-texts holder j (struct i at) s t e = tt
    step-texts holder j (object ob p) s t e = if_there (present (reader ob p)) (texts ob (reader ob p)) (below ob p s t e)
    step-texts holder j (choice i c ob p q) s t e =
        subst (λ (x : Object). AllText (texts x (reader ob p))) q (choice-texts holder j ob p s t e)

    members-texts : (holder start n : ℕ) (rs : List Member) (c : Cursor) (j : ℕ) (s t : Spent)
        → W.members child o S m holder start n c j rs s ≡ Ok t
        → AllText (members_texts texts S rs (R.members_read reader o S m start n c rs))
    unfolding W.members R.members_read members_texts first others
    members-texts holder start n [] c j s t e = tt
    members-texts holder start n (r ∷ rs) c j s t e =
        let b = both _ _ _ e in
        all_append Characters
        (part_texts texts S r.kind (R.step_read (R.struct_read S m) reader (member_step o S m start n c r)))
        (members_texts texts S rs (R.members_read reader o S m start n (after_member o S r c) rs))
        (step-texts holder j (member_kind S o m start n c r) s b.middle b.first)
        (members-texts holder start n rs (after_member o S r c) (j + 1) b.middle t b.second)

    elements-texts : (holder start : ℕ) (k : Kind) (n i : ℕ) (s t : Spent) → W.elements child o S m holder start k n i s ≡ Ok t
        → AllText (elements_texts texts S k (R.elements_read reader o S m start k n i))
    unfolding W.elements R.elements_read elements_texts
    elements-texts holder start k zero i s t e = tt
    elements-texts holder start k (suc n) i s t e =
        let b = both _ _ _ e in
        all_append Characters
        (part_texts texts S k (R.step_read (R.struct_read S m) reader (element_step o S m k start i)))
        (elements_texts texts S k (R.elements_read reader o S m start k n (i + 1)))
        (step-texts holder i (element_kind S o m k start i) s b.middle b.first)
        (elements-texts holder start k n (i + 1) b.middle t b.second)

    directs-texts : (r w n at : ℕ) (s t : Spent) → W.directs child r w n at s ≡ Ok t
        → AllText (directs_texts texts r (R.directs_read reader r w n at))
    unfolding W.directs R.directs_read directs_texts
    directs-texts r w zero at s t e = tt
    directs-texts r w (suc n) at s t e =
        let b = both _ _ _ e in
        all_append Characters
        (texts (O.Table r) (reader (O.Table r) (InPlace at w)))
        (directs_texts texts r (R.directs_read reader r w n (at + w)))
        (below (O.Table r) (InPlace at w) s b.middle b.first)
        (directs-texts r w n (at + w) b.middle t b.second)

    content-texts : (ob : Object) (at start n : ℕ) (s t : Spent) → W.text_ok m ob start n ≡ true
        → W.content child o S m ob at start n s ≡ Ok t
        → AllText (content_texts texts S ob (R.content_read reader o S m ob at start n))
    unfolding W.text_ok W.content R.content_read content_texts as_blob as_row
    content-texts O.Text at start n s t h e = ((text-exactly (take n (drop start m))).0 h, tt)
    content-texts O.Bytes at start n s t h e = tt
    content-texts (O.List i) at start n s t h e = elements-texts at start (element_of S i) n 0 s t e
    content-texts (O.Table i) at start n s t h e = members-texts at start n (table_of S i).members begin 0 s t e
    content-texts (O.DirectList r) at start n s t h e = directs-texts r (W.element_size o m at) n start s t e

  -- ---- an arrival that goes on, d objects deep
  pub visit-texts : (b : Budget) (d : ℕ) (ob : Object) (p : Place) (s t : Spent) → W.visit d o S m b ob p s ≡ Ok t
      → AllText (tree_texts d S ob (R.read d o S m ob p))
  unfolding W.visit W.counted W.arrive R.read tree_texts
  visit-texts b zero ob p s t e = tt
  visit-texts b (suc d) ob p s t e = by (visit-texts b d) (ltb s.visits b.visits) e
    where
      by : ((k : Object) (q : Place) (u v : Spent) → W.visit d o S m b k q u ≡ Ok v → AllText (tree_texts d S k (R.read d o S m k q)))
          → (f : Bool)
          → pick f (W.admit (W.visit d o S m b) o S m b ob (W.placed p) (W.fit_object o S m ob p) (W.one_more s)) (W.refuse 4 (W.placed p) s) ≡ Ok t
          → AllText (content_texts (tree_texts d S) S ob (R.place_read (R.read d o S m) o S m ob p))
      by below true q =
          let g = admit_gone (W.visit d o S m b) b ob (W.placed p) (W.fit_object o S m ob p) (W.one_more s) t q in
          subst (λ (v : Value). AllText (content_texts (tree_texts d S) S ob v))
          (sym (fit-read (R.read d o S m) ob p g.start g.size g.fits))
          (content-texts (W.visit d o S m b) (R.read d o S m) (tree_texts d S) below ob (W.placed p) g.start g.size g.from t g.text g.goes)
      by below false q = absurd (refuse_going _ _ _ _ q)
