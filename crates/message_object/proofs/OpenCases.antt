-- What fits lies within the message, and the test of its bytes.
use Rattle.std.specs.Prelude.{Result, Ok, Err}
use mathlib.Core.Path.{◌≡◌, refl, sym, ap, ◌∙◌, subst}
use mathlib.Core.Bool.{Bool, true, false, ◌&&◌}
use mathlib.Core.List.{List}
use Prim.Native.Nat.{ℕ, ◌+◌, ◌^◌, ◌<◌, ◌≤◌}
use native.Mathlib.Omega.{arith}
use lib.ListN.{length}
use borrow.Author.Tests.{leb-true}
use lib.Dec.{leb, eqb}
use Rattle.coding.specs.Lists.{pick}
use Rattle.coding.specs.Bytes.{le}
use Rattle.coding.specs.Schema as Sc
use Rattle.coding.specs.Schema.{Schema}
use Rattle.coding.specs.Packed as P
use Rattle.coding.specs.Step as T
use Rattle.coding.specs.Walk as W
use Rattle.coding.specs.declared.Object.{Object}
use Rattle.coding.specs.declared.Object.TheVariants as O
use Rattle.coding.specs.declared.Place.{Place}
use Rattle.coding.specs.declared.Place.TheVariants.{ByOffset, InPlace}
use Rattle.coding.specs.declared.Content.{Content}
use Rattle.laws.specs.Sound.{ObjectSound, DirectSound, MemberSound}
use Rattle.laws.specs.SoundAt.{table_index, member_sound-at}
use Rattle.schema.specs.Directory.{Accepted, accepted_sound}
use Rattle.message_step.specs.Lead.{PlaceSmall}
use Rattle.coding.specs.declared.Member.{Member}
use Rattle.message_header.specs.Headers.{EndInside}
use Rattle.message_header.proofs.ContentCases.{list_there, table_there}
use Rattle.message_object.specs.Fit.{LengthSmall, test_bytes}

pub length_small : (g : Result Content ℕ) (start n : ℕ) → LengthSmall g → g ≡ Ok (W.content_at start n) → n < 2 ^ 48
length_small g start n h e = subst LengthSmall e h

-- ---- the bytes of content that fits
-- content, if the test of its bytes has passed
if_right : Content → Result (Unit {0}) ℕ → Result Content ℕ
if_right c (Ok u) = Ok c
if_right c (Err e) = Err e

module _ (m : List ℕ) (ob : Object) (c : Content) (t : Result (Unit {0}) ℕ) (et : t ≡ test_bytes m ob c.start c.length) where
  tested_is : W.bytes_tested m ob (Ok c) ≡ if_right c t
  unfolding W.bytes_tested test_bytes if_right
  tested_is = by (W.end_ok m ob c.start c.length) (W.text_ok m ob c.start c.length) ∙ ap (if_right c) (sym et)
    where
      by : (u v : Bool) → pick u (pick v (Ok c) (Err 16)) (Err 10) ≡ if_right c (pick u (pick v (Ok tt) (Err 16)) (Err 10))
      by true true = refl
      by true false = refl
      by false v = refl

  pub tested_good : (u : Unit {0}) → t ≡ Ok u → Ok c ≡ W.bytes_tested m ob (Ok c)
  unfolding if_right
  tested_good u e = sym (tested_is ∙ ap (if_right c) e)

  pub tested_bad : (k : ℕ) → t ≡ Err k → Err k ≡ W.bytes_tested m ob (Ok c)
  unfolding if_right
  tested_bad k e = sym (tested_is ∙ ap (if_right c) e)

-- ---- content that fits lies within the message
content_fits : (o : ℕ) (S : Schema) (m : List ℕ) (ob : Object) (at a k start n : ℕ) → W.fit_content o S m ob at a k ≡ Ok (W.content_at start n)
    → start + W.content_size o S m ob at n ≤ length m
unfolding W.fit_content
content_fits o S m ob at a k start n e = by (leb (a + W.content_size o S m ob at k) (length m)) refl e
  where
    by : (t : Bool) → leb (a + W.content_size o S m ob at k) (length m) ≡ t → pick {A = Result Content ℕ} t (Ok (W.content_at a k)) (Err 6) ≡ Ok (W.content_at start n)
        → start + W.content_size o S m ob at n ≤ length m
    by true l f =
        let w : W.content_at a k ≡ W.content_at start n = cc in
        let p : a ≡ start = ap (λ (c : Content). c.start) w in
        let q : k ≡ n = ap (λ (c : Content). c.length) w in
        subst (λ (x : ℕ). x + W.content_size o S m ob at n ≤ length m) p (subst (λ (x : ℕ). a + W.content_size o S m ob at x ≤ length m) q (leb-true _ _ l))
    by false l f = let z : ◌≡◌ {A = ℕ} 0 1 = cc in absurd (omega arith)

-- what is picked has content: the fit has
picked : (t : Bool) (fit : Result Content ℕ) (k start n : ℕ) → pick t fit (Err k) ≡ Ok (W.content_at start n) → fit ≡ Ok (W.content_at start n)
picked true fit k start n e = e
picked false fit k start n e = let z : ◌≡◌ {A = ℕ} 0 1 = cc in absurd (omega arith)

header_fits : (o : ℕ) (S : Schema) (m : List ℕ) (ob : Object) (at : ℕ) (fit : Result Content ℕ) (start n : ℕ) → W.header_tested o S m ob at fit ≡ Ok (W.content_at start n)
    → fit ≡ Ok (W.content_at start n)
unfolding W.header_tested W.direct_header
header_fits o S m O.Text at fit start n e = e
header_fits o S m O.Bytes at fit start n e = e
header_fits o S m (O.List i) at fit start n e = e
header_fits o S m (O.Table i) at fit start n e = e
header_fits o S m (O.DirectList t) at fit start n e = by (eqb (W.element_id o m at) (Sc.table_of S t).id) (leb (le m (at + 4) o) W.most_elements) e
  where
    by : (u v : Bool) → pick u (pick v fit (Err 6)) (Err 7) ≡ Ok (W.content_at start n) → fit ≡ Ok (W.content_at start n)
    by u v f = picked v fit 6 start n (picked u (pick v fit (Err 6)) 7 start n f)

object_fits : (o : ℕ) (S : Schema) (m : List ℕ) (ob : Object) (p : Place) (start n : ℕ) → W.fit_object o S m ob p ≡ Ok (W.content_at start n)
    → start + W.content_size o S m ob (W.placed p) n ≤ length m
unfolding W.fit_object W.placed
object_fits o S m ob (ByOffset x) start n e =
    content_fits o S m ob x (x + W.header_size o ob) (le m (x + 4) o) start n
    (header_fits o S m ob x (W.fit_content o S m ob x (x + W.header_size o ob) (le m (x + 4) o)) start n (by (leb (W.start_size o) x && leb (x + W.header_size o ob) (length m)) (eqb (le m x 4) (W.magic S ob)) e))
  where
    by : (u v : Bool) → pick u (pick v (W.header_tested o S m ob x (W.fit_content o S m ob x (x + W.header_size o ob) (le m (x + 4) o))) (Err 7)) (Err 6) ≡ Ok (W.content_at start n)
        → W.header_tested o S m ob x (W.fit_content o S m ob x (x + W.header_size o ob) (le m (x + 4) o)) ≡ Ok (W.content_at start n)
    by u v f = picked v (W.header_tested o S m ob x (W.fit_content o S m ob x (x + W.header_size o ob) (le m (x + 4) o))) 7 start n (picked u (pick v (W.header_tested o S m ob x (W.fit_content o S m ob x (x + W.header_size o ob) (le m (x + 4) o))) (Err 7)) 6 start n f)
object_fits o S m ob (InPlace a k) start n e = content_fits o S m ob a a k start n (picked (W.stands_in_place ob) (W.fit_content o S m ob a a k) 6 start n e)

pub fit_fits : (o : ℕ) (S : Schema) (m : List ℕ) (ob : Object) (p : Place) (g : Result Content ℕ) (start n : ℕ) → g ≡ W.fit_object o S m ob p → g ≡ Ok (W.content_at start n)
    → start + W.content_size o S m ob (W.placed p) n ≤ length m
fit_fits o S m ob p g start n eg e = object_fits o S m ob p start n (sym eg ∙ e)

pub text-found : (o : ℕ) (S : Schema) (m : List ℕ) (x : ℕ) (g : Result Content ℕ) (start n : ℕ) → g ≡ W.fit_object o S m O.Text (ByOffset x) → g ≡ Ok (W.content_at start n)
    → start + n < length m
unfolding W.content_size
text-found o S m x g start n eg e = let h : start + (n + 1) ≤ length m = fit_fits o S m O.Text (ByOffset x) g start n eg e in omega arith

pub table-found : (o : ℕ) (S : Schema) (m : List ℕ) (t x : ℕ) (g : Result Content ℕ) (start n : ℕ) → g ≡ W.fit_object o S m (O.Table t) (ByOffset x) → g ≡ Ok (W.content_at start n)
    → start + n ≤ length m
unfolding W.content_size
table-found o S m t x g start n eg e = fit_fits o S m (O.Table t) (ByOffset x) g start n eg e

-- the end byte of a text is there
ends-inside : (o : ℕ) (S : Schema) (m : List ℕ) (ob : Object) (at start n : ℕ) → start + W.content_size o S m ob at n ≤ length m → EndInside m ob start n
unfolding W.content_size
ends-inside o S m O.Text at start n h = omega arith
ends-inside o S m O.Bytes at start n h = tt
ends-inside o S m (O.List i) at start n h = tt
ends-inside o S m (O.Table i) at start n h = tt
ends-inside o S m (O.DirectList t) at start n h = tt

pub open_inside : (o : ℕ) (S : Schema) (m : List ℕ) (ob : Object) (p : Place) (g : Result Content ℕ) (start n : ℕ) → g ≡ W.fit_object o S m ob p → g ≡ Ok (W.content_at start n)
    → EndInside m ob start n
open_inside o S m ob p g start n eg e = ends-inside o S m ob (W.placed p) start n (fit_fits o S m ob p g start n eg e)

-- ---- content that is opened fits
tested-same : (m : List ℕ) (ob : Object) (fit : Result Content ℕ) (start n : ℕ) → W.bytes_tested m ob fit ≡ Ok (W.content_at start n) → fit ≡ Ok (W.content_at start n)
unfolding W.bytes_tested
tested-same m ob (Err k) start n e = e
tested-same m ob (Ok c) start n e =
    picked (W.text_ok m ob c.start c.length) (Ok c) 16 start n
    (picked (W.end_ok m ob c.start c.length) (pick (W.text_ok m ob c.start c.length) (Ok c) (Err 16)) 10 start n e)

pub opened_fits : (o : ℕ) (S : Schema) (m : List ℕ) (ob : Object) (p : Place) (g : Result Content ℕ) (start n : ℕ) → g ≡ W.open_object o S m ob p → g ≡ Ok (W.content_at start n)
    → start + W.content_size o S m ob (W.placed p) n ≤ length m
unfolding W.open_object
opened_fits o S m ob p g start n eg e = object_fits o S m ob p start n (tested-same m ob (W.fit_object o S m ob p) start n (sym eg ∙ e))

-- what the content of each object takes
pub text_fits : (o : ℕ) (S : Schema) (m : List ℕ) (ob : Object) (at start n c : ℕ) → ob ≡ O.Text → start + W.content_size o S m ob at n ≤ c → start + n < c
unfolding W.content_size
text_fits o S m ob at start n c e h = let z : start + (n + 1) ≤ c = subst (λ (y : Object). start + W.content_size o S m y at n ≤ c) e h in omega arith

pub list_fits : (o : ℕ) (S : Schema) (m : List ℕ) (ob : Object) (at start n c i j : ℕ) → ob ≡ O.List i → j ≡ i → start + W.content_size o S m ob at n ≤ c
    → start + T.elements_size o S (Sc.element_of S j) n ≤ c
unfolding W.content_size
list_fits o S m ob at start n c i j e ej h =
    subst (λ (k : ℕ). start + T.elements_size o S (Sc.element_of S k) n ≤ c) (sym ej) (subst (λ (y : Object). start + W.content_size o S m y at n ≤ c) e h)

pub table_fits : (o : ℕ) (S : Schema) (m : List ℕ) (ob : Object) (at start n c i : ℕ) → ob ≡ O.Table i → start + W.content_size o S m ob at n ≤ c → start + n ≤ c
unfolding W.content_size
table_fits o S m ob at start n c i e h = subst (λ (y : Object). start + W.content_size o S m y at n ≤ c) e h

-- ---- what an accepted schema gives
pub member_sound-of : (b dir : List ℕ) → Accepted b dir → (t j : ℕ) (r : Member) → r ≡ Sc.member_of (P.parse b) t j
    → j < length (Sc.table_of (P.parse b) t).members → MemberSound (P.parse b) r
member_sound-of b dir a t j r e h = rw e (member_sound-at (P.parse b) (accepted_sound b dir a) t j h)

-- ---- indices and places in range
pub list-counted-of : (b : List ℕ) (ob : Object) (i j : ℕ) → ObjectSound (P.parse b) ob → ob ≡ O.List i → j ≡ i → j < P.list_count b
list-counted-of b ob i j h f e = list_there b ob i j h f e

pub table-counted-of : (b : List ℕ) (ob : Object) (i j : ℕ) → ObjectSound (P.parse b) ob → ob ≡ O.Table i → j ≡ i → j < P.table_count b
table-counted-of b ob i j h f e = table_there b ob i j h f e

pub elements-counted-of : (b : List ℕ) (ob : Object) (t j : ℕ) → ObjectSound (P.parse b) ob → ob ≡ O.DirectList t → j ≡ t → j < P.table_count b
elements-counted-of b ob t j h f e = let k : DirectSound (P.parse b) t = subst (ObjectSound (P.parse b)) f h in rw e (table_index b t k.table)

module _ (p : Place) (small : PlaceSmall p) where
  pub offset_small : (x : ℕ) → p ≡ ByOffset x → x < 2 ^ 48
  offset_small x e = subst PlaceSmall e small

  pub inplace-first : (a n : ℕ) → p ≡ InPlace a n → a < 2 ^ 48
  inplace-first a n e = (subst PlaceSmall e small).0

  pub placed_small : (at : ℕ) → at ≡ W.placed p → at < 2 ^ 60
  unfolding W.placed
  placed_small at e = by p small e
    where
      by : (q : Place) → PlaceSmall q → at ≡ W.placed q → at < 2 ^ 60
      by (ByOffset x) h f = omega arith
      by (InPlace a n) h f = let k = h.0 in omega arith

  pub inplace-length : (a n : ℕ) → p ≡ InPlace a n → n < 2 ^ 48
  inplace-length a n e = (subst PlaceSmall e small).1
