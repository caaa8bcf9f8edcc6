-- Elements that only count: how many the allowances have room for, and the arrivals at them.
use Rattle.std.specs.Prelude.{Ok, Err}
use mathlib.Core.Path.{◌≡◌, refl, sym, ap, ◌∙◌, subst}
use mathlib.Core.Bool.{Bool, true, false}
use mathlib.Core.List.{List}
use Prim.Native.Nat.{ℕ, zero, suc, ◌+◌, ◌-◌, ◌*◌, ◌/◌, ◌^◌, ◌<◌, ◌≤◌}
use native.Mathlib.Nat.{mul-zero, zero-mul, mul_comm, le-div_iff_mul-le, div-lt_iff_lt-mul, mul-le-mul_left}
use native.Mathlib.Omega.{arith}
use native.Mathlib.Numerals.{add-one}
use lib.ListN.{length}
use lib.Dec.{ltb, leb}
use borrow.Author.Tests.{lt-ltb, le-ltb, le-leb, lt-leb}
use Rattle.coding.specs.Lists.{pick}
use Rattle.coding.specs.Packed as P
use Rattle.coding.specs.Schema.{Schema}
use Rattle.coding.specs.Walk as W
use Rattle.coding.specs.Walk.{Walked}
use Rattle.coding.specs.declared.Object.TheVariants as O
use Rattle.coding.specs.declared.Place.TheVariants.{InPlace, ByOffset}
use Rattle.coding.specs.declared.Spent.{Spent}
use Rattle.wire.specs.Products.{times_more, times-within}
use Rattle.outcome.specs.Left as Left
use Rattle.outcome.specs.Answers.{within, charged}
use Rattle.judge_direct.specs.Direct.{pass, passes, Afforded, Silent}

-- ---- how many the content has room for
positive : (w : ℕ) → (w ≡ 0 → ⊥) → 0 < w
positive zero f = absurd (f refl)
positive (suc k) f = omega arith

module _ (w n c : ℕ) where
  pub afforded-empty : w ≡ 0 → Afforded w n c n
  afforded-empty z =
      let e : w * n ≡ 0 = ap (λ (k : ℕ). k * n) z ∙ zero-mul n in
      record { few = omega arith; room = omega arith; full = λ h. absurd (omega arith) }

  module _ (z : w ≡ 0 → ⊥) where
    under : w * (c / w) ≤ c
    under =
        let h : c / w ≤ c / w = omega arith in
        let k : c / w * w ≤ c = (le-div_iff_mul-le (positive w z)).0 h in
        omega (arith, mul_comm w (c / w))

    over : c < w * (c / w) + w
    over =
        let h : c / w < c / w + 1 = omega arith in
        let k : c < (c / w + 1) * w = (div-lt_iff_lt-mul (positive w z)).0 h in
        omega (arith, mul_comm w (c / w + 1), times_more w (c / w))

    pub afforded_some : c / w < n → Afforded w n c (c / w)
    afforded_some h = record { few = omega arith; room = under; full = λ l. over }

    pub afforded_all : n ≤ c / w → Afforded w n c n
    afforded_all h =
        let l : w * n ≤ w * (c / w) = mul-le-mul_left w h in
        record { few = omega arith; room = omega (arith, under); full = λ f. absurd (omega arith) }

-- ---- the elements
module _ (w at v c : ℕ) where
  pass_going : 0 < v → w ≤ c → pass w at (W.spending v c) ≡ Ok (W.spending (v - 1) (c - w))
  unfolding pass
  pass_going h l = simp (lt-ltb 0 v h, le-leb w c l)

  pass_many : 0 < v → c < w → pass w at (W.spending v c) ≡ W.refuse 17 at (W.spending (v - 1) c)
  unfolding pass
  pass_many h l = simp (lt-ltb 0 v h, lt-leb w c l)

  pass_none : v ≡ 0 → pass w at (W.spending v c) ≡ W.refuse 4 at (W.spending v c)
  unfolding pass
  pass_none h = simp (le-ltb 0 v (omega arith))

-- the first k of them
passes-first : (w k n i at v c : ℕ) → i ≡ k + n → k ≤ v → w * k ≤ c → passes w i at (W.spending v c) ≡ passes w n (at + w * k) (W.spending (v - k) (c - w * k))
unfolding passes W.and_then
passes-first w zero n i at v c e h l =
    let en : i ≡ n = omega arith in
    let z : w * 0 ≡ 0 = mul-zero w in
    let ea : at ≡ at + w * 0 = omega arith in
    let ev : v ≡ v - 0 = omega arith in
    let ec : c ≡ c - w * 0 = omega arith in
    ap (λ (i : ℕ). passes w i at (W.spending v c)) en
    ∙ ap (λ (i : ℕ). passes w n i (W.spending v c)) ea ∙ ap (λ (i : ℕ). passes w n (at + w * 0) (W.spending i c)) ev
    ∙ ap (λ (i : ℕ). passes w n (at + w * 0) (W.spending (v - 0) i)) ec
passes-first w (suc k) n i at v c e h l =
    let en : i ≡ suc (k + n) = omega arith in
    let t : w * suc k ≡ w * k + w = ap (λ (i : ℕ). w * i) (sym (add-one k)) ∙ times_more w k in
    let ea : at + w + w * k ≡ at + w * suc k = omega arith in
    let ev : v - 1 - k ≡ v - suc k = omega arith in
    let ec : c - w - w * k ≡ c - w * suc k = omega arith in
    ap (λ (i : ℕ). passes w i at (W.spending v c)) en
    ∙ ap (λ (q : Walked). W.and_then q (passes w (k + n) (at + w))) (pass_going w at v c (omega arith) (omega arith))
    ∙ passes-first w k n (k + n) (at + w) (v - 1) (c - w) refl (omega arith) (omega arith)
    ∙ ap (λ (i : ℕ). passes w n i (W.spending (v - 1 - k) (c - w - w * k))) ea
    ∙ ap (λ (i : ℕ). passes w n (at + w * suc k) (W.spending i (c - w - w * k))) ev
    ∙ ap (λ (i : ℕ). passes w n (at + w * suc k) (W.spending (v - suc k) i)) ec

module _ (w n at v c : ℕ) (r : Walked) where
  -- those from element k on
  from : (k l : ℕ) → n ≡ k + l → k ≤ v → w * k ≤ c → r ≡ passes w l (at + w * k) (W.spending (v - k) (c - w * k)) → r ≡ passes w n at (W.spending v c)
  from k l e h g f = f ∙ sym (passes-first w k l n at v c e h g)

  stopped : (k : ℕ) → k < n → k ≤ v → w * k ≤ c → (number : ℕ) (u : Spent) → pass w (at + w * k) (W.spending (v - k) (c - w * k)) ≡ W.refuse number (at + w * k) u
      → r ≡ W.refuse number (at + w * k) u → r ≡ passes w n at (W.spending v c)
  unfolding passes W.and_then W.refuse
  stopped k h hv hc number u e f =
      from k (suc (n - (k + 1))) (omega arith) hv hc
      (f ∙ sym (ap (λ (q : Walked). W.and_then q (passes w (n - (k + 1)) (at + w * k + w))) e))

  pub settle_all : (k : ℕ) → Afforded w n c k → n ≤ v → n ≤ k → (z : ℕ) → z ≡ c - w * n → r ≡ Ok (W.spending (v - n) z) → r ≡ passes w n at (W.spending v c)
  unfolding passes
  settle_all k a hv h z ez f =
      let e : k ≡ n = omega (arith, a.few) in
      from n 0 (omega arith) hv (subst (λ (q : ℕ). w * q ≤ c) e a.room) (f ∙ ap (λ (q : ℕ). Ok (W.spending (v - n) q)) ez)

  pub settle_visits : (k : ℕ) → Afforded w n c k → v < n → v ≤ k → (z : ℕ) → z ≡ c - w * v → r ≡ W.refuse 4 (at + w * v) (W.spending 0 z)
      → r ≡ passes w n at (W.spending v c)
  settle_visits k a h l z ez f =
      let g : w * v ≤ w * k = mul-le-mul_left w l in
      let ev : 0 ≡ v - v = omega arith in
      stopped v h (omega arith) (omega (arith, a.room)) 4 (W.spending (v - v) (c - w * v)) (pass_none w (at + w * v) (v - v) (c - w * v) (sym ev))
      (f ∙ ap (λ (q : ℕ). W.refuse 4 (at + w * v) (W.spending 0 q)) ez ∙ ap (λ (q : ℕ). W.refuse 4 (at + w * v) (W.spending q (c - w * v))) ev)

  over-content : (k : ℕ) → Afforded w n c k → k < n → k < v → r ≡ W.refuse 17 (at + w * k) (W.spending (v - k - 1) (c - w * k)) → r ≡ passes w n at (W.spending v c)
  over-content k a h l f =
      let g = a.full h in
      let o = a.room in
      stopped k h (omega arith) o 17 (W.spending (v - k - 1) (c - w * k)) (pass_many w (at + w * k) (v - k) (c - w * k) (omega arith) (omega arith)) f

  -- the content runs out before the visits do, or they would suffice
  pub settle-both : (k : ℕ) → Afforded w n c k → v < n → k < v → r ≡ W.refuse 17 (at + w * k) (W.spending (v - k - 1) (c - w * k))
      → r ≡ passes w n at (W.spending v c)
  settle-both k a h l f = over-content k a (omega arith) l f

  pub settle-content : (k : ℕ) → Afforded w n c k → n ≤ v → k < n → r ≡ W.refuse 17 (at + w * k) (W.spending (v - k - 1) (c - w * k))
      → r ≡ passes w n at (W.spending v c)
  settle-content k a h l f = over-content k a l (omega arith) f

pub exceed_is : (at w k v c z : ℕ) → z ≡ c - w * k → (r : Walked) → r ≡ W.refuse 17 (at + w * k) (W.spending (v - k - 1) z)
    → r ≡ W.refuse 17 (at + w * k) (W.spending (v - k - 1) (c - w * k))
exceed_is at w k v c z e r f = f ∙ ap (λ (q : ℕ). W.refuse 17 (at + w * k) (W.spending (v - k - 1) q)) e

-- the bytes of as many elements as there are visits
module _ (w n v at : ℕ) (l : v < n) (h : at + w * n < 2 ^ 60) where
  pub few-place : at + w * v < 2 ^ 64
  few-place = omega (arith, times-within w v n l)

  pub few_bytes : w * v < 2 ^ 64
  few_bytes = let g = few-place in omega arith

pub visits_room : (w n c k v : ℕ) → Afforded w n c k → v ≤ k → w * v ≤ c
visits_room w n c k v a l = let g : w * v ≤ w * k = mul-le-mul_left w l in omega (arith, a.room)

-- the bytes of fewer elements
pub size-within : (w n c k at : ℕ) → Afforded w n c k → at + w * n < 2 ^ 60 → at + w * k < 2 ^ 60
size-within w n c k at a h = let g : w * k ≤ w * n = mul-le-mul_left w a.few in omega arith

pub size_room : (w n c k : ℕ) → Afforded w n c k → w * k ≤ c
size_room w n c k a = a.room

-- ---- the arrivals at them
module _ (o : ℕ) (b m : List ℕ) (t w : ℕ) (silent : Silent o b t w) where
  fits_here : (at : ℕ) → at + w ≤ length m → (s : Spent) (child : W.Child)
      → Left.arrive child o (P.parse b) m (O.Table t) (InPlace at w) s
      ≡ pick (leb w s.content) (Ok (W.spending s.visits (s.content - w))) (W.refuse 17 at s)
  unfolding Left.arrive Left.admit Left.less_content W.fit_object W.stands_in_place W.fit_content W.content_size W.content_length W.placed W.bytes_tested W.end_ok W.text_ok W.enter W.content
  fits_here at h s child =
      simp (le-leb (at + w) (length m) h)
      (ap (λ (q : Walked). pick (leb w s.content) q (W.refuse 17 at s)) (silent.goes child m at at (W.spending s.visits (s.content - w))))

  visit-passes : (d at : ℕ) → at + w ≤ length m → (s : Spent) → Left.visit (suc d) o (P.parse b) m (O.Table t) (InPlace at w) s ≡ pass w at s
  unfolding Left.visit Left.counted Left.one_less pass W.placed
  visit-passes d at h s =
      ap (λ (q : Walked). pick (ltb 0 s.visits) q (W.refuse 4 at s)) (fits_here at h (W.spending (s.visits - 1) s.content) (Left.visit d o (P.parse b) m))

  then_same : (a : Walked) (f g : Spent → Walked) → ((s : Spent) → f s ≡ g s) → W.and_then a f ≡ W.and_then a g
  unfolding W.and_then
  then_same (Ok s) f g h = h s
  then_same (Err (r, s)) f g h = refl

  directs-pass : (d n at : ℕ) → at + w * n ≤ length m → (s : Spent) → W.directs (Left.visit (suc d) o (P.parse b) m) t w n at s ≡ passes w n at s
  unfolding W.directs passes
  directs-pass d zero at h s = refl
  directs-pass d (suc n) at h s =
      let e : w * suc n ≡ w * n + w = ap (λ (i : ℕ). w * i) (sym (add-one n)) ∙ times_more w n in
      ap (λ (q : Walked). W.and_then q (W.directs (Left.visit (suc d) o (P.parse b) m) t w n (at + w))) (visit-passes d at (omega arith) s)
      ∙ then_same (pass w at s) (W.directs (Left.visit (suc d) o (P.parse b) m) t w n (at + w)) (passes w n (at + w)) (directs-pass d n (at + w) (omega arith))

  pub count_settled : (d n at : ℕ) → at + w * n ≤ length m → (d ≡ 0 → ⊥) → (s : Spent) (r : Walked) → r ≡ passes w n at s → r ≡ W.directs (Left.visit d o (P.parse b) m) t w n at s
  count_settled d n at h z s r f = by d z
    where
      by : (k : ℕ) → (k ≡ 0 → ⊥) → r ≡ W.directs (Left.visit k o (P.parse b) m) t w n at s
      by zero y = absurd (y refl)
      by (suc k) y = f ∙ sym (directs-pass k n at h s)

module _ (child : W.Child) (t w n at : ℕ) (s : Spent) (r : Walked) where
  pub count_none : n ≡ 0 → r ≡ Ok s → r ≡ W.directs child t w n at s
  unfolding W.directs
  count_none e f = rw e f

-- too deep, or no visit is left
pub count_deep : (d o : ℕ) (S : Schema) (m : List ℕ) (t w n at : ℕ) (s : Spent) (r : Walked) → (n ≡ 0 → ⊥) → d ≡ 0 → r ≡ charged d at s
    → r ≡ W.directs (Left.visit d o S m) t w n at s
unfolding charged Left.visit Left.counted within W.too_deep W.refuse W.and_then W.placed W.directs
count_deep d o S m t w n at s r z e f = by n z (f ∙ ap (λ (k : ℕ). Left.counted (within k) O.Text (ByOffset at) s) e)
  where
    ends : (k : ℕ) (u : Bool) (next : Spent → Walked)
        → pick u (W.refuse 5 at (Left.one_less s)) (W.refuse 4 at s) ≡ W.and_then (pick u (W.refuse 5 at (Left.one_less s)) (W.refuse 4 at s)) next
    ends k true next = refl
    ends k false next = refl

    by : (k : ℕ) → (k ≡ 0 → ⊥) → r ≡ Left.counted (within 0) O.Text (ByOffset at) s → r ≡ W.directs (Left.visit d o S m) t w k at s
    by zero y g = absurd (y refl)
    by (suc k) y g =
        subst (λ (v : ℕ). r ≡ W.directs (Left.visit v o S m) t w (suc k) at s) (sym e) (g ∙ ends k (ltb 0 s.visits) (W.directs (Left.visit 0 o S m) t w k (at + w)))
