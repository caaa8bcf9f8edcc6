-- A refusal's number is one byte.
use Rattle.std.specs.Prelude.{Result, Ok, Err}
use mathlib.Core.Bool.{Bool, true, false, ◌&&◌}
use mathlib.Core.List.{List, [], ◌∷◌}
use Prim.Native.Nat.{ℕ, zero, suc, ◌+◌, ◌%◌, ◌<◌}
use native.Mathlib.Omega.{arith}
use lib.ListN.{length, get_or}
use lib.Dec.{leb, eqb, ltb}
use Rattle.coding.specs.Lists.{pick}
use Rattle.coding.specs.Bytes.{le, bit_at, is_nan, deepest}
use Rattle.coding.specs.Schema as Sc
use Rattle.coding.specs.Schema.{Schema}
use Rattle.coding.specs.Layout as L
use Rattle.coding.specs.Structs.{struct_ok}
use Rattle.coding.specs.Step as T
use Rattle.coding.specs.Walk as W
use Rattle.coding.specs.Walk.{Walked}
use Rattle.coding.specs.declared.Flat.{Flat}
use Rattle.coding.specs.declared.Flat.TheVariants as F
use Rattle.coding.specs.declared.Object.{Object}
use Rattle.coding.specs.declared.Object.TheVariants as O
use Rattle.coding.specs.declared.Kind.{Kind}
use Rattle.coding.specs.declared.Kind.TheVariants.{OfFlat, OfObject, OfUnion}
use Rattle.coding.specs.declared.Member.{Member}
use Rattle.coding.specs.declared.Cursor.{Cursor}
use Rattle.coding.specs.declared.Slot.{Slot}
use Rattle.coding.specs.declared.Placement.{Placement}
use Rattle.coding.specs.declared.Place.{Place}
use Rattle.coding.specs.declared.Place.TheVariants.{ByOffset, InPlace}
use Rattle.coding.specs.declared.Step.{Step}
use Rattle.coding.specs.declared.Step.TheVariants as St
use Rattle.coding.specs.declared.Content.{Content}
use Rattle.coding.specs.declared.Budget.{Budget}
use Rattle.coding.specs.declared.Spent.{Spent}
use Rattle.laws.specs.Lists.{pick_holds}

abbrev pub NumberSmall : Walked → Type 0
NumberSmall (Ok s) = Unit {0}
NumberSmall (Err (x, s)) = x.number < 256

abbrev StepNumber : Step → Type 0
StepNumber (St.Refused n) = n < 256
StepNumber St.Absent = Unit {0}
StepNumber (St.Value x) = Unit {0}
StepNumber (St.Unknown x) = Unit {0}
StepNumber (St.Struct i at) = Unit {0}
StepNumber (St.Object ob p) = Unit {0}
StepNumber (St.Choice c ob p) = Unit {0}

abbrev OpenNumber : Result Content ℕ → Type 0
OpenNumber (Err n) = n < 256
OpenNumber (Ok c) = Unit {0}

-- ---- opening
unless : (t : Bool) (k : ℕ) (g : Result Content ℕ) → k < 256 → OpenNumber g → OpenNumber (pick t g (Err k))
unless true k g l h = h
unless false k g l h = l

header-number : (o : ℕ) (S : Schema) (m : List ℕ) (ob : Object) (at : ℕ) (g : Result Content ℕ) → OpenNumber g → OpenNumber (W.header_tested o S m ob at g)
unfolding W.header_tested W.direct_header
header-number o S m O.Text at g h = h
header-number o S m O.Bytes at g h = h
header-number o S m (O.List i) at g h = h
header-number o S m (O.Table i) at g h = h
header-number o S m (O.DirectList t) at g h =
    unless (eqb (W.element_id o m at) (Sc.table_of S t).id) 7 (pick (leb (le m (at + 4) o) W.most_elements) g (Err 6)) (omega arith)
    (unless (leb (le m (at + 4) o) W.most_elements) 6 g (omega arith) h)

module _ (o : ℕ) (S : Schema) (m : List ℕ) (ob : Object) where
  content-number : (at start n : ℕ) → OpenNumber (W.fit_content o S m ob at start n)
  unfolding W.fit_content
  content-number at start n = by (leb (start + W.content_size o S m ob at n) (length m))
    where
      by : (t : Bool) → OpenNumber (pick t (Ok (W.content_at start n)) (Err 6))
      by true = tt
      by false = omega arith

  fit-number : (p : Place) → OpenNumber (W.fit_object o S m ob p)
  unfolding W.fit_object
  fit-number (ByOffset x) =
      by (leb (W.start_size o) x && leb (x + W.header_size o ob) (length m)) (eqb (le m x 4) (W.magic S ob)) _
      (header-number o S m ob x _ (content-number x (x + W.header_size o ob) (le m (x + 4) o)))
    where
      by : (t u : Bool) (g : Result Content ℕ) → OpenNumber g → OpenNumber (pick t (pick u g (Err 7)) (Err 6))
      by true true g h = h
      by true false g h = omega arith
      by false u g h = omega arith
  fit-number (InPlace a n) = unless (W.stands_in_place ob) 6 _ (omega arith) (content-number a a n)

  bytes-number : (g : Result Content ℕ) → OpenNumber g → OpenNumber (W.bytes_tested m ob g)
  unfolding W.bytes_tested
  bytes-number (Err n) h = h
  bytes-number (Ok c) h =
      unless (W.end_ok m ob c.start c.length) 10 (pick (W.text_ok m ob c.start c.length) (Ok c) (Err 16)) (omega arith)
      (unless (W.text_ok m ob c.start c.length) 16 (Ok c) (omega arith) h)

-- ---- steps
flat-number : (m : List ℕ) (k : Flat) (none : Bool) (at bit : ℕ) → StepNumber (T.flat_step m k none at bit)
unfolding T.flat_step T.float_step T.enum_step
flat-number m F.Boolean none at bit = tt
flat-number m (F.Integer s w) none at bit = tt
flat-number m (F.Float w) none at bit = by (none && is_nan w (le m at w))
  where
    by : (t : Bool) → StepNumber (pick t St.Absent (St.Value (le m at w)))
    by true = tt
    by false = tt
flat-number m (F.Enumerated n) none at bit = by (eqb (get_or m at 0) 255) (ltb (get_or m at 0) n)
  where
    by : (t u : Bool) → StepNumber (pick t St.Absent (pick u (St.Value (get_or m at 0)) (St.Unknown (get_or m at 0))))
    by true u = tt
    by false true = tt
    by false false = tt
flat-number m (F.Struct i) none at bit = tt

value-number : (o : ℕ) (S : Schema) (m : List ℕ) (k : Kind) (none inplace : Bool) (tail at bit : ℕ) → StepNumber (T.value_step o S m k none inplace tail at bit)
unfolding T.value_step T.object_step T.union_step
value-number o S m (OfFlat k) none inplace tail at bit = flat-number m k none at bit
value-number o S m (OfObject ob) none inplace tail at bit = by (eqb (le m at o) 0) (T.place_of inplace tail (le m at o))
  where
    by : (t : Bool) (p : Place) → StepNumber (pick t St.Absent (St.Object ob p))
    by true p = tt
    by false p = tt
value-number o S m (OfUnion i) none inplace tail at bit =
    by (eqb (le m at 2) 0) (leb (le m at 2) (length (Sc.cases_of S i))) (le m at 2) (Sc.case_of (Sc.cases_of S i) (le m at 2)) (T.place_of inplace tail (le m (at + 2) o))
  where
    by : (t u : Bool) (c : ℕ) (ob : Object) (p : Place) → StepNumber (pick t St.Absent (pick u (St.Choice c ob p) (St.Unknown c)))
    by true u c ob p = tt
    by false true c ob p = tt
    by false false c ob p = tt

struct-number : (S : Schema) (m : List ℕ) (step : Step) → StepNumber step → StepNumber (T.struct_tested S m step)
unfolding T.struct_tested
struct-number S m (St.Refused n) h = h
struct-number S m St.Absent h = tt
struct-number S m (St.Value x) h = tt
struct-number S m (St.Unknown x) h = tt
struct-number S m (St.Struct i at) h = by (struct_ok S m i at)
  where
    by : (t : Bool) → StepNumber (pick t (St.Struct i at) (St.Refused 10))
    by true = tt
    by false = omega arith
struct-number S m (St.Object ob p) h = tt
struct-number S m (St.Choice c ob p) h = tt

inside-number : (n : ℕ) (slot : Slot) (past here : Step) → StepNumber past → StepNumber here → StepNumber (T.inside n slot past here)
unfolding T.inside
inside-number n slot past here p h = by (leb n slot.at) (leb (slot.at + slot.size) n)
  where
    by : (t u : Bool) → StepNumber (pick t past (pick u here (St.Refused 8)))
    by true u = p
    by false true = h
    by false false = omega arith

among : (t u : Bool) (x y : Step) → StepNumber x → StepNumber y → StepNumber (pick t St.Absent (pick u x y))
among true u x y f g = tt
among false true x y f g = f
among false false x y f g = g

placed-number : (o : ℕ) (S : Schema) (m : List ℕ) (start n : ℕ) (p : Placement) (r : Member) → StepNumber (T.placed_step o S m start n p r)
unfolding T.placed_step T.flagged
placed-number o S m start n p r =
    by (L.has_flag r) p.flag p.value _ (value-number o S m r.kind r.optional r.inplace (start + n) (start + p.value.at) p.value.bit)
  where
    by : (f : Bool) (flag slot : Slot) (here : Step) → StepNumber here → StepNumber (pick f (T.flagged m start n flag slot here) (T.inside n slot St.Absent here))
    by true flag slot here h =
        among (leb n flag.at) (eqb (bit_at m (start + flag.at) flag.bit) 1) (T.inside n slot (St.Refused 8) here) (T.inside n slot St.Absent St.Absent)
        (inside-number n slot (St.Refused 8) here (omega arith) h) (inside-number n slot St.Absent St.Absent tt tt)
    by false flag slot here h = inside-number n slot St.Absent here tt h

member-number : (o : ℕ) (S : Schema) (m : List ℕ) (start n : ℕ) (c : Cursor) (r : Member) → StepNumber (T.member_step o S m start n c r)
unfolding T.member_step
member-number o S m start n c r = struct-number S m (T.placed_step o S m start n (L.placement_of o S r c) r) (placed-number o S m start n (L.placement_of o S r c) r)

element-number : (o : ℕ) (S : Schema) (m : List ℕ) (k : Kind) (start i : ℕ) → StepNumber (T.element_step o S m k start i)
unfolding T.element_step
element-number o S m k start i =
    struct-number S m (T.value_step o S m k true false 0 (T.element_place o S k start i) (i % 8)) (value-number o S m k true false 0 (T.element_place o S k start i) (i % 8))

-- ---- the walk
refuse_small : (n at : ℕ) (s : Spent) → n < 256 → NumberSmall (W.refuse n at s)
unfolding W.refuse
refuse_small n at s h = h

part_small : (n holder j : ℕ) (s : Spent) → n < 256 → NumberSmall (W.refuse_part n holder j s)
unfolding W.refuse_part
part_small n holder j s h = h

then_small : (w : Walked) (next : Spent → Walked) → NumberSmall w → ((s : Spent) → NumberSmall (next s)) → NumberSmall (W.and_then w next)
unfolding W.and_then
then_small (Ok s) next h f = f s
then_small (Err (x, s)) next h f = h

module _ (child : W.Child) (small : (ob : Object) (p : Place) (s : Spent) → NumberSmall (child ob p s)) where
  choice_small : (holder j : ℕ) (ob : Object) (p : Place) (s : Spent) → NumberSmall (W.follow_choice child holder j ob p s)
  unfolding W.follow_choice
  choice_small holder j ob (ByOffset x) s =
      pick_holds NumberSmall (eqb x 0) (W.refuse_part 9 holder j s) (child ob (ByOffset x) s) (λ _. part_small 9 holder j s (omega arith)) (λ _. small ob (ByOffset x) s)
  choice_small holder j ob (InPlace a n) s = small ob (InPlace a n) s

  follow_small : (holder j : ℕ) (step : Step) (s : Spent) → StepNumber step → NumberSmall (W.follow child holder j step s)
  unfolding W.follow
  follow_small holder j (St.Refused n) s h = part_small n holder j s h
  follow_small holder j St.Absent s h = tt
  follow_small holder j (St.Value x) s h = tt
  follow_small holder j (St.Unknown x) s h = tt
  follow_small holder j (St.Struct i at) s h = tt
  follow_small holder j (St.Object ob p) s h = small ob p s
  follow_small holder j (St.Choice c ob p) s h = choice_small holder j ob p s

  members_small : (o : ℕ) (S : Schema) (m : List ℕ) (holder start n : ℕ) (c : Cursor) (j : ℕ) (rs : List Member) (s : Spent)
      → NumberSmall (W.members child o S m holder start n c j rs s)
  unfolding W.members
  members_small o S m holder start n c j [] s = tt
  members_small o S m holder start n c j (r ∷ rs) s =
      then_small (W.follow child holder j (T.member_step o S m start n c r) s) (W.members child o S m holder start n (L.after_member o S r c) (j + 1) rs)
      (follow_small holder j (T.member_step o S m start n c r) s (member-number o S m start n c r)) (λ v. members_small o S m holder start n (L.after_member o S r c) (j + 1) rs v)

  elements_small : (o : ℕ) (S : Schema) (m : List ℕ) (holder start : ℕ) (k : Kind) (n i : ℕ) (s : Spent) → NumberSmall (W.elements child o S m holder start k n i s)
  unfolding W.elements
  elements_small o S m holder start k zero i s = tt
  elements_small o S m holder start k (suc n) i s =
      then_small (W.follow child holder i (T.element_step o S m k start i) s) (W.elements child o S m holder start k n (i + 1))
      (follow_small holder i (T.element_step o S m k start i) s (element-number o S m k start i)) (λ v. elements_small o S m holder start k n (i + 1) v)

  directs_small : (t w n at : ℕ) (s : Spent) → NumberSmall (W.directs child t w n at s)
  unfolding W.directs
  directs_small t w zero at s = tt
  directs_small t w (suc n) at s =
      then_small (child (O.Table t) (InPlace at w) s) (W.directs child t w n (at + w)) (small (O.Table t) (InPlace at w) s) (λ v. directs_small t w n (at + w) v)

  content_small : (o : ℕ) (S : Schema) (m : List ℕ) (ob : Object) (holder start n : ℕ) (s : Spent) → NumberSmall (W.content child o S m ob holder start n s)
  unfolding W.content
  content_small o S m O.Text holder start n s = tt
  content_small o S m O.Bytes holder start n s = tt
  content_small o S m (O.List i) holder start n s = elements_small o S m holder start (Sc.element_of S i) n 0 s
  content_small o S m (O.Table i) holder start n s = members_small o S m holder start n L.begin 0 (Sc.table_of S i).members s
  content_small o S m (O.DirectList t) holder start n s = directs_small t (W.element_size o m holder) n start s

  enter_small : (o : ℕ) (S : Schema) (m : List ℕ) (ob : Object) (holder : ℕ) (g : Result Content ℕ) (s : Spent) → OpenNumber g → NumberSmall (W.enter child o S m ob holder g s)
  unfolding W.enter
  enter_small o S m ob holder (Err n) s h = refuse_small n holder s h
  enter_small o S m ob holder (Ok c) s h = content_small o S m ob holder c.start c.length s

  admit_small : (o : ℕ) (S : Schema) (m : List ℕ) (b : Budget) (ob : Object) (holder : ℕ) (g : Result Content ℕ) (s : Spent) → OpenNumber g
      → NumberSmall (W.admit child o S m b ob holder g s)
  unfolding W.admit
  admit_small o S m b ob holder (Err n) s h = refuse_small n holder s h
  admit_small o S m b ob holder (Ok c) s h =
      pick_holds NumberSmall (leb (s.content + W.content_length o S ob c.length) b.content) _ (W.refuse 17 holder s)
      (λ _. enter_small o S m ob holder (W.bytes_tested m ob (Ok c)) _ (bytes-number o S m ob (Ok c) tt))
      (λ _. refuse_small 17 holder s (omega arith))

  arrive_small : (o : ℕ) (S : Schema) (m : List ℕ) (b : Budget) (ob : Object) (p : Place) (s : Spent) → NumberSmall (W.arrive child o S m b ob p s)
  unfolding W.arrive
  arrive_small o S m b ob p s = admit_small o S m b ob (W.placed p) (W.fit_object o S m ob p) s (fit-number o S m ob p)

  counted_small : (b : Budget) (ob : Object) (p : Place) (s : Spent) → NumberSmall (W.counted child b ob p s)
  unfolding W.counted
  counted_small b ob p s =
      pick_holds NumberSmall (ltb s.visits b.visits) (child ob p (W.one_more s)) (W.refuse 4 (W.placed p) s)
      (λ _. small ob p (W.one_more s)) (λ _. refuse_small 4 (W.placed p) s (omega arith))

deep_small : (ob : Object) (p : Place) (s : Spent) → NumberSmall (W.too_deep ob p s)
unfolding W.too_deep
deep_small ob p s = refuse_small 5 (W.placed p) s (omega arith)

visit_small : (o d : ℕ) (S : Schema) (m : List ℕ) (b : Budget) (ob : Object) (p : Place) (s : Spent) → NumberSmall (W.visit d o S m b ob p s)
unfolding W.visit
visit_small o zero S m b ob p s = counted_small W.too_deep deep_small b ob p s
visit_small o (suc d) S m b ob p s = counted_small (W.arrive (W.visit d o S m b) o S m b) (arrive_small (W.visit d o S m b) (visit_small o d S m b) o S m b) b ob p s

pub walk_small : (o : ℕ) (S : Schema) (m : List ℕ) (b : Budget) → NumberSmall (W.walk o S m b)
unfolding W.walk
walk_small o S m b = visit_small o deepest S m b (O.Table S.root) (W.root_place o m) W.nothing
