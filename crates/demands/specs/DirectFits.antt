-- What is known of a direct list that fits, and of its elements: each of them fits then.
use Rattle.std.specs.Prelude.{◌≡◌, Bool, ◌&&◌, List, ltb, Result, Ok, Err}
use Rattle.std.proofs.Math.Path.{refl}
use Rattle.std.proofs.Math.Bool.{true, false}
use Prim.Native.Nat.{ℕ, suc, ◌+◌, ◌*◌, ◌<◌, ◌≤◌}
use Rattle.std.proofs.Common.{arith}
use Rattle.std.proofs.Math.ListN.{length}
use Rattle.std.proofs.Math.Dec.{leb, eqb}
use borrow.Author.Tests.{leb-true, le-leb, eqb-true}
use Rattle.coding.specs.Lists.{pick}
use Rattle.coding.specs.Bytes.{le}
use Rattle.coding.specs.Schema.{Schema, table_of}
use Rattle.coding.specs.Layout.{begin}
use Rattle.coding.specs.Walk as W
use Rattle.coding.specs.declared.Object.TheVariants as O
use Rattle.coding.specs.declared.Place.{Place}
use Rattle.coding.specs.declared.Place.TheVariants.{ByOffset, InPlace}
use Rattle.coding.specs.declared.Content.{Content}
use Rattle.coding.specs.declared.Budget.{Budget}
use Rattle.coding.specs.declared.Spent.{Spent}
use Rattle.laws.specs.DirectPlaces.{element_fits}

-- the header of the direct list at a place, and its content
pub record DirectFits (o : ℕ) (S : Schema) (m : List ℕ) (t x start n : ℕ) : Type 0 where
  pub behind : start ≡ x + W.header_size o (O.DirectList t)
  pub counted : n ≡ le m (x + 4) o
  pub id : W.element_id o m x ≡ (table_of S t).id
  pub few : n ≤ W.most_elements
  pub fits : start + n * W.element_size o m x ≤ length m

not-content : {A : Type 0} (k start n : ℕ) → Err k ≡ Ok (W.content_at start n) → A
not-content k start n e = let z : ◌≡◌ {A = ℕ} 0 1 = cc in absurd (omega arith)

-- ---- the list: it stands by offset
module _ (o : ℕ) (S : Schema) (m : List ℕ) (t : ℕ) where
  content_parts : (x s c start n : ℕ) → W.fit_content o S m (O.DirectList t) x s c ≡ Ok (W.content_at start n)
      → (s ≡ start) × (c ≡ n) × (s + c * W.element_size o m x ≤ length m)
  unfolding W.fit_content W.content_size
  content_parts x s c start n e = by (leb (s + c * W.element_size o m x) (length m)) refl e
    where
      by : (f : Bool) → leb (s + c * W.element_size o m x) (length m) ≡ f → pick {A = Result Content ℕ} f (Ok (W.content_at s c)) (Err 6) ≡ Ok (W.content_at start n)
          → (s ≡ start) × (c ≡ n) × (s + c * W.element_size o m x ≤ length m)
      by true h q = (grind arith, grind arith, leb-true _ _ h)
      by false h q = not-content 6 start n q

  header_parts : (x start n : ℕ) (fit : Result Content ℕ) → W.header_tested o S m (O.DirectList t) x fit ≡ Ok (W.content_at start n)
      → (W.element_id o m x ≡ (table_of S t).id) × (le m (x + 4) o ≤ W.most_elements) × (fit ≡ Ok (W.content_at start n))
  unfolding W.header_tested W.direct_header
  header_parts x start n fit e =
      by (eqb (W.element_id o m x) (table_of S t).id) (leb (le m (x + 4) o) W.most_elements) refl refl e
    where
      by : (f g : Bool) → eqb (W.element_id o m x) (table_of S t).id ≡ f → leb (le m (x + 4) o) W.most_elements ≡ g
          → pick f (pick g fit (Err 6)) (Err 7) ≡ Ok (W.content_at start n)
          → (W.element_id o m x ≡ (table_of S t).id) × (le m (x + 4) o ≤ W.most_elements) × (fit ≡ Ok (W.content_at start n))
      by true true h k q = (eqb-true _ _ h, leb-true _ _ k, q)
      by true false h k q = not-content 6 start n q
      by false g h k q = not-content 7 start n q

  offset_parts : (x start n : ℕ) → W.fit_object o S m (O.DirectList t) (ByOffset x) ≡ Ok (W.content_at start n) → DirectFits o S m t x start n
  unfolding W.fit_object
  offset_parts x start n e =
      by (leb (W.start_size o) x && leb (x + W.header_size o (O.DirectList t)) (length m)) (eqb (le m x 4) (W.magic S (O.DirectList t))) e
    where
      s : ℕ
      s = x + W.header_size o (O.DirectList t)

      fit : Result Content ℕ
      fit = W.fit_content o S m (O.DirectList t) x s (le m (x + 4) o)

      found : W.header_tested o S m (O.DirectList t) x fit ≡ Ok (W.content_at start n) → DirectFits o S m t x start n
      found q =
          let h = header_parts x start n fit q in
          let c = content_parts x s (le m (x + 4) o) start n h.2 in
          let a = c.0 in
          let b = c.1 in
          let f = c.2 in
          let k = h.1 in
          record { behind = omega arith; counted = omega arith; id = h.0; few = omega arith; fits = rw (← a, ← b) f }

      by : (f g : Bool) → pick f (pick g (W.header_tested o S m (O.DirectList t) x fit) (Err 7)) (Err 6) ≡ Ok (W.content_at start n)
          → DirectFits o S m t x start n
      by true true q = found q
      by true false q = not-content 7 start n q
      by false g q = not-content 6 start n q

  -- what a direct list that fits gives
  pub direct_fits : (p : Place) (start n : ℕ) → W.fit_object o S m (O.DirectList t) p ≡ Ok (W.content_at start n) → DirectFits o S m t (W.placed p) start n
  unfolding W.placed W.fit_object W.stands_in_place
  direct_fits (ByOffset x) start n e = offset_parts x start n e
  direct_fits (InPlace a k) start n e = not-content 6 start n e

  -- ---- an element
  pub element_fit : (a w : ℕ) → a + w ≤ length m → W.fit_object o S m (O.Table t) (InPlace a w) ≡ Ok (W.content_at a w)
  unfolding W.fit_object W.fit_content W.stands_in_place W.content_size
  element_fit a w h = rw (le-leb (a + w) (length m) h)

  -- element j of a direct list that fits fits: at its arrival there is no 6, and no 7
  pub element-of : (p : Place) (start n j : ℕ) → W.fit_object o S m (O.DirectList t) p ≡ Ok (W.content_at start n) → j < n
      → W.fit_object o S m (O.Table t) (InPlace (start + W.element_size o m (W.placed p) * j) (W.element_size o m (W.placed p)))
      ≡ Ok (W.content_at (start + W.element_size o m (W.placed p) * j) (W.element_size o m (W.placed p)))
  element-of p start n j e l =
      let w = W.element_size o m (W.placed p) in
      element_fit (start + w * j) w (element_fits start w j n (length m) l (direct_fits p start n e).fits)

-- ---- an arrival at an element that fits: its budget, its depth and the content allowance are all that is tested before its members
module _ (o : ℕ) (S : Schema) (m : List ℕ) (b : Budget) (t a w : ℕ) where
  pub element_deep : (s : Spent)
      → W.visit 0 o S m b (O.Table t) (InPlace a w) s
      ≡ pick (ltb s.visits b.visits) (W.refuse 5 a (W.one_more s)) (W.refuse 4 a s)
  unfolding W.visit W.counted W.too_deep W.placed
  element_deep s = refl

  pub element-visit : a + w ≤ length m → (d : ℕ) (s : Spent)
      → W.visit (suc d) o S m b (O.Table t) (InPlace a w) s
      ≡ pick (ltb s.visits b.visits)
      (pick (leb ((W.one_more s).content + w) b.content)
      (W.members (W.visit d o S m b) o S m a a w begin 0 (table_of S t).members (W.with_content w (W.one_more s)))
      (W.refuse 17 a (W.one_more s)))
      (W.refuse 4 a s)
  unfolding W.visit W.counted W.arrive W.admit W.enter W.content W.content_length W.bytes_tested W.end_ok W.text_ok W.placed
  element-visit h d s = rw (element_fit o S m t a w h)
