-- Bytes passed one by one or by a block of ASCII: the state to which they lead.
use Prim.Native.Nat.{ℕ, zero, suc, ◌+◌, ◌-◌, ◌%◌, ◌≤◌, ◌<◌}
use native.Mathlib.Omega.{arith}
use native.Mathlib.Nat.{add-zero, le_trans}
use mathlib.Core.Path.{◌≡◌, refl, ap, ap₂, sym, ◌∙◌, subst}
use mathlib.Core.Bool.{Bool, true, false}
use mathlib.Core.List.{List}
use lib.Dec.{ltb}
use lib.Bits.{bit_or, or_add_and, and_le_l, and_le_r}
use lib.ListN.{length, get_or, take, drop, take-append-drop, length-drop}
use lib.Seq.{drop-cons, drop-drop, take-add, take_all, length-take-le}
use Rattle.std.proofs.lemmas.List.{get_or-take, get_or-drop}
use borrow.Author.Count.{below_more}
use borrow.Author.Tests.{ltb-true}
use Rattle.coding.specs.Utf8.{TextState, Boundary, OneTail, TwoTails, ThreeTails, AfterE0, AfterED, AfterF0, AfterF4, NoText, after_octet, may_end, text_from, is_text}
use Rattle.utf8.specs.Table.{state_number}
use Rattle.utf8.specs.Steps.{state_of, state_in, HoldsState, StateAfter, after_octets, Leads, Onward, Skips}
use Rattle.utf8.proofs.TableLaws.{at_boundary, at_no-text}
use Rattle.utf8.proofs.OctetLaws.{octets-append, octets-end, ascii_stays, no-text_stays}

-- ---- a byte of the k bytes from i
pub byte_of_part : (s : List ℕ) (i k j : ℕ) → j < k → get_or (take (i + k - i) (drop i s)) j 0 ≡ get_or s (i + j) 0
byte_of_part s i k j h = get_or-take (i + k - i) (drop i s) j 0 (omega arith) ∙ get_or-drop i s j 0

pub part-length : (s : List ℕ) (i k : ℕ) → i + k ≤ length s → length (take (i + k - i) (drop i s)) ≡ k
part-length s i k h = let e : i + k - i ≡ k = omega arith in length-take-le (i + k - i) (drop i s) (omega (arith, length-drop i s)) ∙ e

-- ---- bytes that lead from a state to another
pub leads_none : (s : List ℕ) (i : ℕ) (q : TextState) → i ≤ length s → Leads s i i q q
unfolding after_octets
leads_none s i q h =
    let e : i - i ≡ 0 = omega arith in
    record { forth = omega arith; inside = h; is = ap (λ (n : ℕ). after_octets q (take n (drop i s))) e }

leads_one : (s : List ℕ) (i : ℕ) (q : TextState) → i < length s → Leads s i (i + 1) q (after_octet q (get_or s i 0))
unfolding after_octets
leads_one s i q h =
    let e : i + 1 - i ≡ 1 = omega arith in
    record {
      forth = omega arith;
      inside = omega arith;
      is = ap₂ (λ (n : ℕ) (xs : List ℕ). after_octets q (take n xs)) e (drop-cons s i 0 h);
    }

pub leads_then : (s : List ℕ) (i j k : ℕ) (q r t : TextState) → Leads s i j q r → Leads s j k r t → Leads s i k q t
leads_then s i j k q r t f g =
    let a = f.forth in
    let b = g.forth in
    let n : k - i ≡ j - i + (k - j) = omega arith in
    let p : i + (j - i) ≡ j = omega arith in
    record {
      forth = omega arith;
      inside = g.inside;
      is = ap (λ (m : ℕ). after_octets q (take m (drop i s))) n
          ∙ ap (after_octets q) (take-add (j - i) (k - j) (drop i s))
          ∙ octets-append q (take (j - i) (drop i s)) (take (k - j) (drop (j - i) (drop i s)))
          ∙ ap₂ (λ (x : TextState) (xs : List ℕ). after_octets x (take (k - j) xs)) f.is (drop-drop (j - i) i s ∙ ap (λ (m : ℕ). drop m s) p)
          ∙ g.is;
    }

-- those behind the bytes decide
leads-text : (s : List ℕ) (i j : ℕ) (q r : TextState) → Leads s i j q r → text_from q (drop i s) ≡ text_from r (drop j s)
leads-text s i j q r f =
    let a = f.forth in
    let p : i + (j - i) ≡ j = omega arith in
    let xs : List ℕ = drop i s in
    octets-end q xs
    ∙ ap (λ (l : List ℕ). may_end (after_octets q l)) (sym (take-append-drop (j - i) xs))
    ∙ ap may_end (octets-append q (take (j - i) xs) (drop (j - i) xs))
    ∙ ap₂ (λ (x : TextState) (l : List ℕ). may_end (after_octets x l)) f.is (drop-drop (j - i) i s ∙ ap (λ (m : ℕ). drop m s) p)
    ∙ sym (octets-end r (drop j s))

-- ---- is_ascii
ascii_skips : (s : List ℕ) (i k : ℕ) → i + k ≤ length s → ((t : ℕ) → t < k → get_or s (i + t) 0 < 128) → Skips s i (i + k)
ascii_skips s i zero h f = rw (add-zero i) (leads_none s i Boundary (omega arith))
ascii_skips s i (suc k) h f =
    let e : i + k + 1 ≡ i + suc k = omega arith in
    let stays : after_octet Boundary (get_or s (i + k) 0) ≡ Boundary = ascii_stays (get_or s (i + k) 0) (f k (omega arith)) in
    let one : Leads s (i + k) (i + k + 1) Boundary Boundary =
    subst (Leads s (i + k) (i + k + 1) Boundary) stays (leads_one s (i + k) Boundary (omega arith)) in
    subst (Skips s i) e (leads_then s i (i + k) (i + k + 1) Boundary Boundary Boundary (ascii_skips s i k (omega arith) (λ t p. f t (omega arith))) one)

pub or_left : (a b : ℕ) → a ≤ bit_or a b
or_left a b = omega (arith, or_add_and a b, and_le_r a b)

or_right : (a b : ℕ) → b ≤ bit_or a b
or_right a b = omega (arith, or_add_and a b, and_le_l a b)

-- none of the j bytes from i is above a
abbrev pub NoneAbove : List ℕ → ℕ → ℕ → ℕ → Type 0
NoneAbove s i j a = (t : ℕ) → t < j → get_or s (i + t) 0 ≤ a

pub none_above_more : (s : List ℕ) (i j a x : ℕ) → x ≡ get_or s (i + j) 0 → NoneAbove s i j a → NoneAbove s i (j + 1) (bit_or a x)
none_above_more s i j a x e f = below_more (λ t. get_or s (i + t) 0 ≤ bit_or a x) j (λ t h. le_trans (f t h) (or_left a x)) (rw (← e) (or_right a x))

pub ascii_done : (s : List ℕ) (i k j a : ℕ) → i + k ≤ length s → k ≤ j → NoneAbove s i j a → ltb a 128 ≡ true
    → Skips s i (i + k)
ascii_done s i k j a h g f e =
    let b = ltb-true a 128 e in
    ascii_skips s i k h (λ t p. let u = f t (omega arith) in omega arith)

pub skips_none : (s : List ℕ) (i : ℕ) → i ≤ length s → Skips s i i
skips_none s i h = leads_none s i Boundary h

pub skips_then : (s : List ℕ) (i j k : ℕ) → Skips s i j → Skips s j k → Skips s i k
skips_then s i j k f g = leads_then s i j k Boundary Boundary Boundary f g

pub skips_to : (s : List ℕ) (i j k : ℕ) → j ≡ k → Skips s i j → Skips s i k
skips_to s i j k e f = subst (Skips s i) e f

-- ---- after_bytes, after_block and past_eights
pub onward_none : (s : List ℕ) (i k w : ℕ) → HoldsState w → i + k ≤ length s → Onward s i (i + 0) w w
onward_none s i k w l h = rw (add-zero i) (record { holds = l; leads = leads_none s i (state_in w) (omega arith) })

pub onward_more : (s : List ℕ) (i j k w x y b : ℕ) → i + k ≤ length s → j < k → Onward s i (i + j) w x → b ≡ get_or s (i + j) 0
    → StateAfter x b y → Onward s i (i + (j + 1)) w y
onward_more s i j k w x y b h p f e₁ g₁ =
    let g : StateAfter x (get_or s (i + j) 0) y = subst (λ (n : ℕ). StateAfter x n y) e₁ g₁ in
    let e : i + j + 1 ≡ i + (j + 1) = omega arith in
    let one : Leads s (i + j) (i + j + 1) (state_in x) (state_in y) =
    subst (Leads s (i + j) (i + j + 1) (state_in x)) (sym g.is) (leads_one s (i + j) (state_in x) (omega arith)) in
    subst (λ (n : ℕ). Onward s i n w y) e
    (record { holds = g.holds; leads = leads_then s i (i + j) (i + j + 1) (state_in w) (state_in x) (state_in y) f.leads one })

pub onward_then : (s : List ℕ) (a b c w x y : ℕ) → Onward s a b w x → Onward s b c x y → Onward s a c w y
onward_then s a b c w x y f g =
    record { holds = g.holds; leads = leads_then s a b c (state_in w) (state_in x) (state_in y) f.leads g.leads }

boundary_only : (q : TextState) → true ≡ may_end q → q ≡ Boundary
unfolding may_end
boundary_only Boundary e = refl
boundary_only OneTail e = cc
boundary_only TwoTails e = cc
boundary_only ThreeTails e = cc
boundary_only AfterE0 e = cc
boundary_only AfterED e = cc
boundary_only AfterF0 e = cc
boundary_only AfterF4 e = cc
boundary_only NoText e = cc

pub onward_to : (s : List ℕ) (i j k w x : ℕ) → j ≡ k → Onward s i j w x → Onward s i k w x
onward_to s i j k w x e f = subst (λ (n : ℕ). Onward s i n w x) e f

pub onward_skips : (s : List ℕ) (i j w : ℕ) (r : Bool) → r ≡ true → r ≡ may_end (state_in w) → HoldsState w → Skips s i j → Onward s i j w w
onward_skips s i j w r t e l o = record { holds = l; leads = rw (boundary_only (state_in w) (sym t ∙ e)) o }

pub onward_stays : (s : List ℕ) (i w : ℕ) → HoldsState w → i ≤ length s → Onward s i i w w
onward_stays s i w l h = record { holds = l; leads = leads_none s i (state_in w) h }

-- ---- is_all_text
pub onward-begin : (s : List ℕ) → Onward s 0 0 0 0
unfolding HoldsState state_in state_number state_of
onward-begin s = record { holds = refl; leads = leads_none s 0 Boundary (omega arith) }

pub no_text : (s : List ℕ) (i j x y : ℕ) → Onward s 0 i 0 x → Onward s i j x y → y % 64 ≡ 48 → false ≡ is_text s
unfolding is_text
no_text s i j x y f g e =
    sym (no-text_stays (drop j s))
    ∙ ap (λ (q : TextState). text_from q (drop j s)) (sym (at_no-text y e))
    ∙ sym (leads-text s 0 j (state_in 0) (state_in y) (onward_then s 0 i j 0 x y f g).leads)
    ∙ ap (λ (q : TextState). text_from q s) (at_boundary 0 refl)

pub text-end : (s : List ℕ) (i x y : ℕ) (r : Bool) → i ≤ length s → Onward s 0 i 0 x → Onward s i (i + (length s - i)) x y → r ≡ may_end (state_in y) → r ≡ is_text s
unfolding is_text
text-end s i x y r h f g er =
    let e : i + (length s - i) - 0 ≡ length s = omega arith in
    let all = onward_then s 0 i (i + (length s - i)) 0 x y f g in
    er
    ∙ ap may_end (sym all.leads.is ∙ ap (λ (n : ℕ). after_octets (state_in 0) (take n s)) e ∙ ap (after_octets (state_in 0)) (take_all (length s) s (omega arith)))
    ∙ sym (octets-end (state_in 0) s)
    ∙ ap (λ (q : TextState). text_from q s) (at_boundary 0 refl)

-- ---- is_text
pub part_is : (m : List ℕ) (a n : ℕ) → is_text (take (a + n - a) (drop a m)) ≡ is_text (take n (drop a m))
part_is m a n = let e : a + n - a ≡ n = omega arith in ap (λ (k : ℕ). is_text (take k (drop a m))) e
