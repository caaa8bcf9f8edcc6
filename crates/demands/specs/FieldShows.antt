-- Where a path has come in the message, and which part of its tree that is: the two go together, step by step, as long as
-- the walk goes on below.
use Rattle.std.specs.Prelude.{◌≡◌, Bool, ◌&&◌, get_or, take, drop, eqb, Result, Ok, Err}
use Rattle.std.proofs.Math.Path.{refl, sym, subst, ap}
use mathlib.Core.List.{List, [], ◌∷◌}
use Rattle.std.proofs.Math.Bool.{true, false}
use Prim.Native.Nat.{ℕ, zero, suc, ◌+◌, ◌*◌, ◌<◌, ◌≤◌}
use Rattle.std.proofs.Common.{arith, length-take, length-drop, ltb-true, leb-true}
use Rattle.std.proofs.Math.Nat.{zero-add}
use Rattle.std.proofs.Math.ListN.{length}
use Rattle.std.proofs.Math.Dec.{ltb, leb}
use Rattle.coding.specs.Lists.{pick}
use Rattle.coding.specs.Bytes.{le, deepest}
use Rattle.coding.specs.Schema.{Schema, struct_of, field_of, element_of, table_of, member_of}
use Rattle.coding.specs.Structs.{lower, by_index, total, struct_size}
use Rattle.coding.specs.Layout.{begin, after_members}
use Rattle.coding.specs.Step.{enum_step, field_step, member_step, element_step}
use Rattle.coding.specs.Walk.{placed, refusal, part_refusal, magic, header_size, element_id, element_size, most_elements, start_size, content_size, content_length, end_ok, text_ok, fit_content, direct_header, header_tested, stands_in_place, fit_object, bytes_tested, open_object, refuse, refuse_part, follow, follow_choice, members, elements, directs, content, enter, with_content, admit, arrive, too_deep, one_more, counted, visit, root_place, nothing, walk, content_at}
use Rattle.coding.specs.Value as Tree
use Rattle.coding.specs.Read as Read
use Rattle.coding.specs.Field as Field
use Rattle.laws.specs.Lists.{all-at}
use Rattle.laws.specs.Structs.{lower_is}
use Rattle.laws.specs.Sound.{FlatSound, FlatScalar, Sound}
use Rattle.demands.specs.FieldEntries as E
use Rattle.demands.specs.GoingOn.{GoesOn, refuse_going, refuse-part_going, members_going, elements_going, directs_going, directs-at, directs-count, members-at, elements-at, elements-count, fields_at}
use Rattle.demands.specs.StepKinds.{OfKind, member_kind, element_kind, refused, absent, unknown, value, struct, object, choice}
use Rattle.coding.specs.declared.Flat.{Flat}
use Rattle.coding.specs.declared.Flat.TheVariants as F
use Rattle.coding.specs.declared.Object.{Object}
use Rattle.coding.specs.declared.Object.TheVariants as O
use Rattle.coding.specs.declared.Kind.{Kind}
use Rattle.coding.specs.declared.Kind.TheVariants.{OfFlat, OfObject}
use Rattle.coding.specs.declared.Place.{Place}
use Rattle.coding.specs.declared.Place.TheVariants.{ByOffset, InPlace}
use Rattle.coding.specs.declared.Step.{Step}
use Rattle.coding.specs.declared.Step.TheVariants as St
use Rattle.coding.specs.declared.Content.{Content}
use Rattle.coding.specs.declared.Budget.{Budget}
use Rattle.coding.specs.declared.Spent.{Spent}
use Rattle.coding.specs.declared.Found.{Found}
use Rattle.coding.specs.declared.Found.TheVariants as Fd
use Rattle.coding.specs.declared.Answer.{Answer}
use Rattle.coding.specs.declared.Answer.TheVariants as A
use Rattle.coding.specs.declared.Refusal.{Refusal}

-- the members of a struct, as its tree has them
abbrev pub fields_of : Schema → List ℕ → ℕ → ℕ → Tree.Values
fields_of S m i at = Read.fields_read (lower Read.no_struct (Read.read_by S m) i) S m (struct_of S i) at

-- what is found is that part of the tree; an object's content fits, and the walk has gone on through it
pub data Shows (o : ℕ) (S : Schema) (m : List ℕ) (b : Budget) : Found → E.Part → Type 0 where
  no-part : (at : ℕ) → Shows o S m b (Fd.Refused (refusal 15 at)) E.Part.no_part
  no_value : Shows o S m b Fd.Absent E.Part.absent
  unknown-number : (x : ℕ) → Shows o S m b (Fd.Unknown x) (E.Part.unknown x)
  bits : (k : Flat) (x holder : ℕ) → Shows o S m b (Fd.Value (OfFlat k) x holder) (E.Part.value k x)
  fields : (i at holder : ℕ) → Shows o S m b (Fd.Struct i at holder) (E.Part.struct i (fields_of S m i at))
  within : (ob : Object) (at start n d : ℕ) (s t : Spent)
      → content (visit d o S m b) o S m ob at start n s ≡ Ok t → start + content_size o S m ob at n ≤ length m
      → Shows o S m b (Fd.Object ob at start n d) (E.Part.object ob (Read.content_read (Read.read d o S m) o S m ob at start n))

-- the tree of a struct of a lower index
inner_tree : (S : Schema) (m : List ℕ) (i j at : ℕ) → j < i → Tree.row (fields_of S m j at) ≡ lower Read.no_struct (Read.read_by S m) i j at
unfolding by_index Read.read_by
inner_tree S m i j at l = ap (λ (f : ℕ → Tree.Value). f at) (sym (lower_is Read.no_struct (Read.read_by S m) i j l))

-- ---- a value that is there
here : (S : Schema) (k : Kind) (v : Tree.Value) → Tree.present v ≡ true → E.part_here S k v ≡ E.kind_part S k v
unfolding E.part_here Tree.present
here S k Tree.absent e = let z : ◌≡◌ {A = ℕ} 0 1 = cc in absurd (omega arith)
here S k (Tree.unknown x) e = let z : ◌≡◌ {A = ℕ} 0 1 = cc in absurd (omega arith)
here S k (Tree.number x) e = refl
here S k (Tree.blob l) e = refl
here S k (Tree.row vs) e = refl
here S k (Tree.chosen c v) e = refl

scalar-part : (k : Flat) (x : ℕ) → FlatScalar k → E.flat_part k (Tree.number x) ≡ E.Part.value k x
unfolding E.flat_part Tree.as_number
scalar-part F.Boolean x h = refl
scalar-part (F.Integer s w) x h = refl
scalar-part (F.Float w) x h = refl
scalar-part (F.Enumerated n) x h = refl
scalar-part (F.Struct i) x h = absurd h

content-present : (child : Read.Child) (o : ℕ) (S : Schema) (m : List ℕ) (ob : Object) (at start n : ℕ)
    → Tree.present (Read.content_read child o S m ob at start n) ≡ true
unfolding Read.content_read Tree.present
content-present child o S m O.Text at start n = refl
content-present child o S m O.Bytes at start n = refl
content-present child o S m (O.List i) at start n = refl
content-present child o S m (O.Table i) at start n = refl
content-present child o S m (O.DirectList t) at start n = refl

place-present : (child : Read.Child) (o : ℕ) (S : Schema) (m : List ℕ) (ob : Object) (p : Place)
    → Tree.present (Read.place_read child o S m ob p) ≡ true
unfolding Read.place_read
place-present child o S m ob (ByOffset x) = content-present child o S m ob x (x + header_size o ob) (le m (x + 4) o)
place-present child o S m ob (InPlace a n) = content-present child o S m ob a a n

module _ (o : ℕ) (S : Schema) (m : List ℕ) (b : Budget) where
  -- ---- an arrival
  module _ (d : ℕ) (ob : Object) (at : ℕ) (s t : Spent) where
    content_shows : (start n : ℕ) → admit (visit d o S m b) o S m b ob at (fit_content o S m ob at start n) s ≡ Ok t
        → Shows o S m b (Field.opened ob at d (bytes_tested m ob (fit_content o S m ob at start n))) (E.Part.object ob (Read.content_read (Read.read d o S m) o S m ob at start n))
    unfolding fit_content bytes_tested admit enter Field.opened
    content_shows start n e = by (leb (start + content_size o S m ob at n) (length m)) refl e
      where
        tested : (g k : Bool) (u : Spent) → start + content_size o S m ob at n ≤ length m
            → enter (visit d o S m b) o S m ob at (pick g (pick k (Ok (content_at start n)) (Err 16)) (Err 10)) u ≡ Ok t
            → Shows o S m b (Field.opened ob at d (pick g (pick k (Ok (content_at start n)) (Err 16)) (Err 10)))
            (E.Part.object ob (Read.content_read (Read.read d o S m) o S m ob at start n))
        tested true true u h q = within ob at start n d u t q h
        tested true false u h q = absurd (refuse_going _ _ _ _ q)
        tested false k u h q = absurd (refuse_going _ _ _ _ q)

        charged : (g : Bool) → start + content_size o S m ob at n ≤ length m
            → pick g
            (enter (visit d o S m b) o S m ob at (bytes_tested m ob (Ok (content_at start n))) (with_content (content_length o S ob n) s))
            (refuse 17 at s)
            ≡ Ok t
            → Shows o S m b (Field.opened ob at d (bytes_tested m ob (Ok (content_at start n))))
            (E.Part.object ob (Read.content_read (Read.read d o S m) o S m ob at start n))
        charged true h q = tested (end_ok m ob start n) (text_ok m ob start n) (with_content (content_length o S ob n) s) h q
        charged false h q = absurd (refuse_going _ _ _ _ q)

        by : (f : Bool) → leb (start + content_size o S m ob at n) (length m) ≡ f
            → admit (visit d o S m b) o S m b ob at (pick f (Ok (content_at start n)) (Err 6)) s ≡ Ok t
            → Shows o S m b (Field.opened ob at d (bytes_tested m ob (pick f (Ok (content_at start n)) (Err 6))))
            (E.Part.object ob (Read.content_read (Read.read d o S m) o S m ob at start n))
        by true h q = charged (leb (s.content + content_length o S ob n) b.content) (leb-true _ _ h) q
        by false h q = absurd (refuse_going _ _ _ _ q)

    -- what a direct list's header says more
    header_shows : (v : Tree.Value) (fit : Result Content ℕ)
        → (admit (visit d o S m b) o S m b ob at fit s ≡ Ok t
        → Shows o S m b (Field.opened ob at d (bytes_tested m ob fit)) (E.Part.object ob v))
        → admit (visit d o S m b) o S m b ob at (header_tested o S m ob at fit) s ≡ Ok t
        → Shows o S m b (Field.opened ob at d (bytes_tested m ob (header_tested o S m ob at fit))) (E.Part.object ob v)
    unfolding header_tested direct_header
    header_shows v fit h = of ob h
      where
        of : (x : Object)
            → (admit (visit d o S m b) o S m b x at fit s ≡ Ok t → Shows o S m b (Field.opened x at d (bytes_tested m x fit)) (E.Part.object x v))
            → admit (visit d o S m b) o S m b x at (header_tested o S m x at fit) s ≡ Ok t
            → Shows o S m b (Field.opened x at d (bytes_tested m x (header_tested o S m x at fit))) (E.Part.object x v)
        of O.Text h e = h e
        of O.Bytes h e = h e
        of (O.List i) h e = h e
        of (O.Table i) h e = h e
        of (O.DirectList r) h e =
            by (eqb (element_id o m at) (table_of S r).id) (leb (le m (at + 4) o) most_elements) e
          where
            by : (f g : Bool)
                → admit (visit d o S m b) o S m b (O.DirectList r) at (pick f (pick g fit (Err 6)) (Err 7)) s ≡ Ok t
                → Shows o S m b (Field.opened (O.DirectList r) at d (bytes_tested m (O.DirectList r) (pick f (pick g fit (Err 6)) (Err 7))))
                (E.Part.object (O.DirectList r) v)
            by true true q = h q
            by true false q = absurd (unfold admit in refuse_going _ _ _ _ q)
            by false g q = absurd (unfold admit in refuse_going _ _ _ _ q)

  module _ (d : ℕ) (ob : Object) (s t : Spent) where
    open_shows : (p : Place) → admit (visit d o S m b) o S m b ob (placed p) (fit_object o S m ob p) s ≡ Ok t
        → Shows o S m b (Field.opened ob (placed p) d (open_object o S m ob p)) (E.Part.object ob (Read.place_read (Read.read d o S m) o S m ob p))
    unfolding open_object fit_object Read.place_read placed
    open_shows (InPlace a n) e = by (stands_in_place ob) e
      where
        by : (f : Bool) → admit (visit d o S m b) o S m b ob a (pick f (fit_content o S m ob a a n) (Err 6)) s ≡ Ok t
            → Shows o S m b (Field.opened ob a d (bytes_tested m ob (pick f (fit_content o S m ob a a n) (Err 6))))
            (E.Part.object ob (Read.content_read (Read.read d o S m) o S m ob a a n))
        by true q = content_shows d ob a s t a n q
        by false q = absurd (unfold admit in refuse_going _ _ _ _ q)
    open_shows (ByOffset x) e =
        by (leb (start_size o) x && leb (x + header_size o ob) (length m)) (eqb (le m x 4) (magic S ob)) e
      where
        start : ℕ
        start = x + header_size o ob

        n : ℕ
        n = le m (x + 4) o

        fit : Result Content ℕ
        fit = header_tested o S m ob x (fit_content o S m ob x start n)

        by : (f g : Bool) → admit (visit d o S m b) o S m b ob x (pick f (pick g fit (Err 7)) (Err 6)) s ≡ Ok t
            → Shows o S m b (Field.opened ob x d (bytes_tested m ob (pick f (pick g fit (Err 7)) (Err 6))))
            (E.Part.object ob (Read.content_read (Read.read d o S m) o S m ob x start n))
        by true true q =
            header_shows d ob x s t (Read.content_read (Read.read d o S m) o S m ob x start n) (fit_content o S m ob x start n)
            (content_shows d ob x s t start n) q
        by true false q = absurd (unfold admit in refuse_going _ _ _ _ q)
        by false g q = absurd (unfold admit in refuse_going _ _ _ _ q)

  -- with no depth left nothing goes on
  too_deep_lem : (ob : Object) (p : Place) (s t : Spent) → visit zero o S m b ob p s ≡ Ok t → ⊥
  unfolding visit counted too_deep
  too_deep_lem ob p s t e = by (ltb s.visits b.visits) e
    where
      by : (f : Bool) → pick f (refuse 5 (placed p) (one_more s)) (refuse 4 (placed p) s) ≡ Ok t → ⊥
      by true q = refuse_going _ _ _ _ q
      by false q = refuse_going _ _ _ _ q

  pub arrived_shows : (d : ℕ) (ob : Object) (p : Place) (s t : Spent) → visit d o S m b ob p s ≡ Ok t
      → Shows o S m b (Field.arrived d o S m ob p) (E.Part.object ob (Read.read d o S m ob p))
  unfolding visit counted arrive Field.arrived Read.read
  arrived_shows zero ob p s t e = absurd (too_deep_lem ob p s t e)
  arrived_shows (suc d) ob p s t e = by (ltb s.visits b.visits) e
    where
      by : (f : Bool)
          → pick f (admit (visit d o S m b) o S m b ob (placed p) (fit_object o S m ob p) (one_more s)) (refuse 4 (placed p) s) ≡ Ok t
          → Shows o S m b (Field.opened ob (placed p) d (open_object o S m ob p)) (E.Part.object ob (Read.place_read (Read.read d o S m) o S m ob p))
      by true q = open_shows d ob (one_more s) t p q
      by false q = absurd (refuse_going _ _ _ _ q)

  read-present : (d : ℕ) (ob : Object) (p : Place) (s t : Spent) → visit d o S m b ob p s ≡ Ok t
      → Tree.present (Read.read d o S m ob p) ≡ true
  unfolding visit Read.read
  read-present zero ob p s t e = absurd (too_deep_lem ob p s t e)
  read-present (suc d) ob p s t e = place-present (Read.read d o S m) o S m ob p

  -- ---- a step
  choice_shows : (d holder j : ℕ) (ob : Object) (p : Place) (s t : Spent)
      → follow_choice (visit d o S m b) holder j ob p s ≡ Ok t
      → Shows o S m b (Field.chosen d o S m holder j ob p) (E.Part.object ob (Read.read d o S m ob p))
  unfolding follow_choice refuse_part Field.chosen Field.part_refused
  choice_shows d holder j ob (InPlace a n) s t e = arrived_shows d ob (InPlace a n) s t e
  choice_shows d holder j ob (ByOffset x) s t e = by (eqb x 0) e
    where
      by : (f : Bool) → pick f (refuse_part 9 holder j s) (visit d o S m b ob (ByOffset x) s) ≡ Ok t
          → Shows o S m b (pick f (Fd.Refused (part_refusal 9 holder j)) (Field.arrived d o S m ob (ByOffset x)))
          (E.Part.object ob (Read.read d o S m ob (ByOffset x)))
      by true q = absurd (refuse-part_going _ _ _ _ _ q)
      by false q = arrived_shows d ob (ByOffset x) s t q

  step_shows : (d holder j : ℕ) {k : Kind} {step : Step} → OfKind S k step → GoesOn (visit d o S m b) holder j step
      → Shows o S m b (Field.stepped d o S m holder j k step) (E.part_here S k (Read.step_read (Read.struct_read S m) (Read.read d o S m) step))
  unfolding Field.stepped Read.step_read E.part_here E.kind_part Read.struct_read by_index Read.read_by E.flat_part Tree.as_row Tree.as_number Tree.as_object follow refuse_part Field.part_refused
  step_shows d holder j (refused n) g = absurd (refuse-part_going n holder j _ _ g.goes)
  step_shows d holder j absent g = no_value
  step_shows d holder j (unknown x) g = unknown-number x
  step_shows d holder j (value k x h) g =
      subst (λ (p : E.Part). Shows o S m b (Fd.Value (OfFlat k) x holder) p) (sym (scalar-part k x h)) (bits k x holder)
  step_shows d holder j (struct i at) g = fields i at holder
  step_shows d holder j (object ob p) g =
      subst (λ (q : E.Part). Shows o S m b (Field.arrived d o S m ob p) q)
      (sym (here S (OfObject ob) (Read.read d o S m ob p) (read-present d ob p g.from g.to g.goes)))
      (arrived_shows d ob p g.from g.to g.goes)
  step_shows d holder j (choice i c ob p e) g =
      subst (λ (q : Object). Shows o S m b (Field.chosen d o S m holder j ob p) (E.Part.object q (Read.read d o S m ob p))) e
      (choice_shows d holder j ob p g.from g.to g.goes)

  -- ---- a struct's member: an inner struct has a lower index, so its own tree stands there
  field_shows : (i holder j : ℕ) (k : Flat) (at : ℕ) → FlatSound i k
      → Shows o S m b (Field.stepped 0 o S m holder j (OfFlat k) (field_step m k at))
      (E.part_here S (OfFlat k) (Read.step_read (lower Read.no_struct (Read.read_by S m) i) Read.no_object (field_step m k at)))
  unfolding field_step enum_step Field.stepped Read.step_read E.part_here E.kind_part E.flat_part Tree.as_number Tree.as_row
  field_shows i holder j F.Boolean at h = bits F.Boolean (get_or m at 0) holder
  field_shows i holder j (F.Integer s w) at h = bits (F.Integer s w) (le m at w) holder
  field_shows i holder j (F.Float w) at h = bits (F.Float w) (le m at w) holder
  field_shows i holder j (F.Enumerated n) at h = by (eqb (get_or m at 0) 255) (ltb (get_or m at 0) n)
    where
      by : (f g : Bool)
          → Shows o S m b (Field.stepped 0 o S m holder j (OfFlat (F.Enumerated n)) (pick f St.Absent (pick g (St.Value (get_or m at 0)) (St.Unknown (get_or m at 0)))))
          (E.part_here S (OfFlat (F.Enumerated n)) (Read.step_read (lower Read.no_struct (Read.read_by S m) i) Read.no_object
          (pick f St.Absent (pick g (St.Value (get_or m at 0)) (St.Unknown (get_or m at 0))))))
      by true g = no_value
      by false true = bits (F.Enumerated n) (get_or m at 0) holder
      by false false = unknown-number (get_or m at 0)
  field_shows i holder j (F.Struct k) at h =
      subst (λ (v : Tree.Value). Shows o S m b (Fd.Struct k at holder) (E.part_here S (OfFlat (F.Struct k)) v))
      (inner_tree S m i k at h)
      (fields k at holder)

  -- ---- one number more
  module _ (sound : Sound S) where
    struct_shows : (i at holder j : ℕ)
        → Shows o S m b (Field.struct_part o S m i at holder j) (E.struct_part S i (fields_of S m i at) j)
    unfolding Field.struct_part E.struct_part Field.no_part field_of
    struct_shows i at holder j = by (ltb j (length (struct_of S i))) refl
      where
        by : (f : Bool) → ltb j (length (struct_of S i)) ≡ f
            → Shows o S m b
            (pick f (Field.stepped 0 o S m holder j (OfFlat (field_of S i j)) (field_step m (field_of S i j) (at + total (struct_size S) (take j (struct_of S i)))))
            (Field.no_part holder))
            (pick f (E.part_here S (OfFlat (field_of S i j)) (E.value_at (fields_of S m i at) j)) E.Part.no_part)
        by false h = no-part holder
        by true h =
            subst
            (λ (v : Tree.Value). Shows o S m b (Field.stepped 0 o S m holder j (OfFlat (field_of S i j)) (field_step m (field_of S i j) (at + total (struct_size S) (take j (struct_of S i)))))
            (E.part_here S (OfFlat (field_of S i j)) v))
            (sym (fields_at (lower Read.no_struct (Read.read_by S m) i) S m (struct_of S i) at j (ltb-true _ _ h)))
            (field_shows i holder j (field_of S i j) (at + total (struct_size S) (take j (struct_of S i)))
            (all-at (FlatSound i) F.Boolean (struct_of S i) j (sound.structs i).members (ltb-true _ _ h)))

  list_shows : (i at start n d : ℕ) (s t : Spent)
      → elements (visit d o S m b) o S m at start (element_of S i) n 0 s ≡ Ok t → (j : ℕ)
      → Shows o S m b
      (pick (ltb j n) (Field.stepped d o S m at j (element_of S i) (element_step o S m (element_of S i) start j)) (Field.no_part at))
      (pick (ltb j (Tree.count (Read.elements_read (Read.read d o S m) o S m start (element_of S i) n 0)))
      (E.part_here S (element_of S i) (E.value_at (Read.elements_read (Read.read d o S m) o S m start (element_of S i) n 0) j))
      E.Part.no_part)
  unfolding Field.no_part
  list_shows i at start n d s t e j =
      rw (elements-count (Read.read d o S m) o S m start (element_of S i) n 0) (by (ltb j n) refl)
    where
      by : (f : Bool) → ltb j n ≡ f
          → Shows o S m b
          (pick f (Field.stepped d o S m at j (element_of S i) (element_step o S m (element_of S i) start j)) (Field.no_part at))
          (pick f (E.part_here S (element_of S i) (E.value_at (Read.elements_read (Read.read d o S m) o S m start (element_of S i) n 0) j)) E.Part.no_part)
      by false h = no-part at
      by true h =
          rw (elements-at (Read.read d o S m) o S m start (element_of S i) n 0 j (ltb-true _ _ h), zero-add j)
          (step_shows d at j (element_kind S o m (element_of S i) start j)
          (rw zero-add at (elements_going (visit d o S m b) o S m at start n (element_of S i) n 0 s t e j (ltb-true _ _ h))))

  table_shows : (i at start n d : ℕ) (s t : Spent)
      → members (visit d o S m b) o S m at start n begin 0 (table_of S i).members s ≡ Ok t → (j : ℕ)
      → Shows o S m b
      (pick (ltb j (length (table_of S i).members))
      (Field.stepped d o S m at j (member_of S i j).kind
      (member_step o S m start n (after_members o S (take j (table_of S i).members) begin) (member_of S i j)))
      (Field.no_part at))
      (pick (ltb j (length (table_of S i).members))
      (E.part_here S (member_of S i j).kind (E.value_at (Read.members_read (Read.read d o S m) o S m start n begin (table_of S i).members) j))
      E.Part.no_part)
  unfolding Field.no_part member_of
  table_shows i at start n d s t e j = by (ltb j (length (table_of S i).members)) refl
    where
      by : (f : Bool) → ltb j (length (table_of S i).members) ≡ f
          → Shows o S m b
          (pick f
          (Field.stepped d o S m at j (member_of S i j).kind
          (member_step o S m start n (after_members o S (take j (table_of S i).members) begin) (member_of S i j)))
          (Field.no_part at))
          (pick f
          (E.part_here S (member_of S i j).kind (E.value_at (Read.members_read (Read.read d o S m) o S m start n begin (table_of S i).members) j))
          E.Part.no_part)
      by false h = no-part at
      by true h =
          rw (members-at (Read.read d o S m) o S m start n (table_of S i).members begin j (ltb-true _ _ h))
          (step_shows d at j
          (member_kind S o m start n (after_members o S (take j (table_of S i).members) begin) (member_of S i j))
          (rw zero-add at (members_going (visit d o S m b) o S m at start n (table_of S i).members begin 0 s t e j (ltb-true _ _ h))))

  direct_shows : (r at start n d : ℕ) (s t : Spent)
      → directs (visit d o S m b) r (element_size o m at) n start s ≡ Ok t → (j : ℕ)
      → Shows o S m b
      (pick (ltb j n) (Field.arrived d o S m (O.Table r) (InPlace (start + element_size o m at * j) (element_size o m at))) (Field.no_part at))
      (pick (ltb j (Tree.count (Read.directs_read (Read.read d o S m) r (element_size o m at) n start)))
      (E.Part.object (O.Table r) (E.value_at (Read.directs_read (Read.read d o S m) r (element_size o m at) n start) j))
      E.Part.no_part)
  unfolding Field.no_part
  direct_shows r at start n d s t e j =
      rw (directs-count (Read.read d o S m) r (element_size o m at) n start) (by (ltb j n) refl)
    where
      w : ℕ
      w = element_size o m at

      by : (f : Bool) → ltb j n ≡ f
          → Shows o S m b (pick f (Field.arrived d o S m (O.Table r) (InPlace (start + w * j) w)) (Field.no_part at))
          (pick f (E.Part.object (O.Table r) (E.value_at (Read.directs_read (Read.read d o S m) r w n start) j)) E.Part.no_part)
      by false h = no-part at
      by true h =
          let g = directs_going (visit d o S m b) r w n start s t e j (ltb-true _ _ h) in
          rw (directs-at (Read.read d o S m) r w n start j (ltb-true _ _ h))
          (arrived_shows d (O.Table r) (InPlace (start + w * j) w) g.from g.to g.goes)

  object_shows : (ob : Object) (at start n d : ℕ) (s t : Spent)
      → content (visit d o S m b) o S m ob at start n s ≡ Ok t → (j : ℕ)
      → Shows o S m b (Field.object_part o S m ob at start n d j)
      (E.object_part S ob (Tree.as_row (Read.content_read (Read.read d o S m) o S m ob at start n)) j)
  unfolding Field.object_part E.object_part Field.no_part content Read.content_read Tree.as_row
  object_shows O.Text at start n d s t e j = no-part at
  object_shows O.Bytes at start n d s t e j = no-part at
  object_shows (O.List i) at start n d s t e j = list_shows i at start n d s t e j
  object_shows (O.Table i) at start n d s t e j = table_shows i at start n d s t e j
  object_shows (O.DirectList r) at start n d s t e j = direct_shows r at start n d s t e j

  module _ (sound : Sound S) where
    part_shows : {f : Found} {p : E.Part} → Shows o S m b f p → (j : ℕ) → Shows o S m b (Field.part_of o S m f j) (E.part_of S p j)
    unfolding Field.part_of E.part_of Field.no_part
    part_shows (no-part at) j = no-part at
    part_shows no_value j = no_value
    part_shows (unknown-number x) j = unknown-number x
    part_shows (bits k x holder) j = no-part holder
    part_shows (fields i at holder) j = struct_shows sound i at holder j
    part_shows (within ob at start n d s t e fits) j = object_shows ob at start n d s t e j

    -- a whole path
    pub along_shows : {f : Found} {p : E.Part} → Shows o S m b f p → (path : List ℕ)
        → Shows o S m b (Field.along o S m f path) (E.part_along S p path)
    unfolding Field.along E.part_along
    along_shows h [] = h
    along_shows {f = f} {p = p} h (j ∷ js) =
        along_shows {f = Field.part_of o S m f j} {p = E.part_of S p j} (part_shows h j) js

-- ---- what both show: the entry and the text
module _ (o : ℕ) (S : Schema) (m : List ℕ) (b : Budget) where
  flat_entry_lem : (k : Flat) (x : ℕ) → E.shown (Field.flat_answer k x) ≡ E.flat_entry k x
  unfolding E.shown Field.flat_answer E.flat_entry
  flat_entry_lem F.Boolean x = refl
  flat_entry_lem (F.Integer s w) x = refl
  flat_entry_lem (F.Float w) x = refl
  flat_entry_lem (F.Enumerated n) x = refl
  flat_entry_lem (F.Struct i) x = refl

  part_length : (start n : ℕ) → start + n ≤ length m → n ≡ length (take n (drop start m))
  part_length start n h = simp (length-take, length-drop) (omega arith)

  object_entry_lem : (child : Read.Child) (ob : Object) (at start n : ℕ) → start + content_size o S m ob at n ≤ length m
      → E.shown (A.Object (Field.record_kind ob) at n) ≡ E.object_entry ob (Read.content_read child o S m ob at start n)
  unfolding E.shown Field.record_kind E.object_entry Read.content_read content_size Tree.as_blob Tree.as_row
  object_entry_lem child O.Text at start n h = ap (E.Entry.object 13) (part_length start n (omega arith))
  object_entry_lem child O.Bytes at start n h = ap (E.Entry.object 14) (part_length start n h)
  object_entry_lem child (O.List i) at start n h =
      ap (E.Entry.object 15) (sym (elements-count child o S m start (element_of S i) n 0))
  object_entry_lem child (O.Table i) at start n h = refl
  object_entry_lem child (O.DirectList r) at start n h =
      ap (E.Entry.object 18) (sym (directs-count child r (element_size o m at) n start))

  object-text : (child : Read.Child) (ob : Object) (at start n : ℕ)
      → Field.text_of m (Field.object_span ob start n) ≡ Tree.as_blob (Read.content_read child o S m ob at start n)
  unfolding Field.text_of Field.object_span Read.content_read Tree.as_blob
  object-text child O.Text at start n = refl
  object-text child O.Bytes at start n = refl
  object-text child (O.List i) at start n = refl
  object-text child (O.Table i) at start n = refl
  object-text child (O.DirectList t) at start n = refl

  pub shows_entry : {f : Found} {p : E.Part} → Shows o S m b f p → E.shown (Field.answer_of f) ≡ E.entry_of p
  unfolding E.shown Field.answer_of Field.value_answer E.entry_of
  shows_entry (no-part at) = refl
  shows_entry no_value = refl
  shows_entry (unknown-number x) = refl
  shows_entry (bits k x holder) = flat_entry_lem k x
  shows_entry (fields i at holder) = refl
  shows_entry (within ob at start n d s t e fits) = object_entry_lem (Read.read d o S m) ob at start n fits

  pub shows-text : {f : Found} {p : E.Part} → Shows o S m b f p → Field.text_of m (Field.found_span f) ≡ E.text_of p
  unfolding Field.found_span Field.text_of E.text_of
  shows-text (no-part at) = refl
  shows-text no_value = refl
  shows-text (unknown-number x) = refl
  shows-text (bits k x holder) = refl
  shows-text (fields i at holder) = refl
  shows-text (within ob at start n d s t e fits) = object-text (Read.read d o S m) ob at start n

  flat-refusal : (k : Flat) (x : ℕ) (r : Refusal) → Field.flat_answer k x ≡ A.Refused r → r.number ≡ 15
  unfolding Field.flat_answer
  flat-refusal F.Boolean x r e = cc
  flat-refusal (F.Integer s w) x r e = cc
  flat-refusal (F.Float w) x r e = cc
  flat-refusal (F.Enumerated n) x r e = cc
  flat-refusal (F.Struct i) x r e = cc

  pub shows-refusal : {f : Found} {p : E.Part} → Shows o S m b f p → (r : Refusal) → Field.answer_of f ≡ A.Refused r
      → r.number ≡ 15
  unfolding Field.answer_of Field.value_answer Field.answer_verdict
  shows-refusal (no-part at) r e = sym (ap (λ (a : Answer). (Field.answer_verdict a).number) e)
  shows-refusal no_value r e = cc
  shows-refusal (unknown-number x) r e = cc
  shows-refusal (bits k x holder) r e = flat-refusal k x r e
  shows-refusal (fields i at holder) r e = cc
  shows-refusal (within ob at start n d s t e fits) r q = cc

-- ---- from the root
pub found_shows : (o : ℕ) (S : Schema) → Sound S → (m : List ℕ) (b : Budget) (s : Spent) → walk o S m b ≡ Ok s → (path : List ℕ)
    → Shows o S m b (Field.found o S m path) (E.part_along S (E.Part.object (O.Table S.root) (Read.message_read o S m)) path)
unfolding walk Field.found Read.message_read
found_shows o S sound m b s e path =
    along_shows o S m b sound
    (arrived_shows o S m b deepest (O.Table S.root) (root_place o m) nothing s e)
    path
