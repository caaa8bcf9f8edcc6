-- The test `is_text` against the grammar of RFC 3629: what the test takes the grammar has, and the other way.
use Rattle.std.specs.Prelude.{ℕ, ◌<◌, ◌≡◌, true, false, List, [], ◌∷◌, ◌++◌, leb, eqb}
use Rattle.std.proofs.Common.{arith, ◌∙◌}
use Rattle.std.proofs.Math.Path.{refl, ap}
use Rattle.std.proofs.Math.Bool.{and-false}
use borrow.Author.Tests.{leb-true, le-leb, lt-leb, eqb-true, ne_eqb}
use Rattle.coding.specs.Lists.{pick}
use Rattle.coding.specs.Utf8.{Within, Tail, OneOctet, TwoOctets, ThreeOctets, FourOctets, Character, Characters, one, two, three-E0, three-E1, three-ED, three-EE, four-F0, four-F1, four-F4, of_one, of_two, of_three, of_four, none, more, TextState, Boundary, OneTail, TwoTails, ThreeTails, AfterE0, AfterED, AfterF0, AfterF4, NoText, within, after_first, after_octet, may_end, text_from}
use Rattle.laws.specs.Lists.{never, both_left, both_right, pick_holds}

-- ---- the test of a range
module _ (low high x : ℕ) where
  within_true : Within low high x → within low high x ≡ true
  unfolding within
  within_true r = simp (le-leb low x r.least, le-leb x high r.most)

  within_above : high < x → within low high x ≡ false
  unfolding within
  within_above h = simp (lt-leb x high h, and-false)

  true-within : within low high x ≡ true → Within low high x
  unfolding within
  true-within e =
      record {
        least = leb-true low x (both_left (leb low x) (leb x high) e);
        most = leb-true x high (both_right (leb low x) (leb x high) e);
      }

other : (k x : ℕ) → k < x → eqb x k ≡ false
other k x h = ne_eqb x k (λ e. omega arith)

-- ---- what may follow in a state, in the grammar's words
-- an octet in a range, then what has Q
record Then (low high : ℕ) (Q : List ℕ → Type 0) (xs : List ℕ) : Type 0 where
  pub octet : ℕ
  pub rest : List ℕ
  pub is : xs ≡ octet ∷ rest
  pub fits : Within low high octet
  pub then : Q rest

abbrev One : List ℕ → Type 0
One = Then 0x80 0xBF Characters

abbrev Two : List ℕ → Type 0
Two = Then 0x80 0xBF One

abbrev Follows : TextState → List ℕ → Type 0
Follows Boundary xs = Characters xs
Follows OneTail xs = One xs
Follows TwoTails xs = Two xs
Follows ThreeTails xs = Then 0x80 0xBF Two xs
Follows AfterE0 xs = Then 0xA0 0xBF One xs
Follows AfterED xs = Then 0x80 0x9F One xs
Follows AfterF0 xs = Then 0x90 0xBF Two xs
Follows AfterF4 xs = Then 0x80 0x8F Two xs
Follows NoText xs = ⊥

-- ---- what the test takes has the grammar
module _ (x : ℕ) (xs : List ℕ) where
  two_more : Within 0xC2 0xDF x → One xs → Characters (x ∷ xs)
  two_more r t = rw t.is (more (of_two (two r t.fits)) t.then)

  three_more : (low high : ℕ) → ((b c : ℕ) → Within low high b → Tail c → ThreeOctets (x ∷ b ∷ c ∷ []))
      → Then low high One xs → Characters (x ∷ xs)
  three_more low high f t =
      rw (t.is, t.then.is) (more (of_three (f _ _ t.fits t.then.fits)) t.then.then)

  four_more : (low high : ℕ) → ((b c d : ℕ) → Within low high b → Tail c → Tail d → FourOctets (x ∷ b ∷ c ∷ d ∷ []))
      → Then low high Two xs → Characters (x ∷ xs)
  four_more low high f t =
      rw (t.is, t.then.is, t.then.then.is)
      (more (of_four (f _ _ _ t.fits t.then.fits t.then.then.fits)) t.then.then.then)

  abbrev From : TextState → Type 0
  From q = Follows q xs → Characters (x ∷ xs)

  -- a choice of the state by a range, and by one octet
  by_range : (low high : ℕ) (y n : TextState) → (Within low high x → From y) → From n → From (pick (within low high x) y n)
  by_range low high y n f g = pick_holds From (within low high x) y n (λ e. f (true-within low high x e)) (λ e. g)

  by_octet : (k : ℕ) (y n : TextState) → (x ≡ k → From y) → From n → From (pick (eqb x k) y n)
  by_octet k y n f g = pick_holds From (eqb x k) y n (λ e. f (eqb-true x k e)) (λ e. g)

  first_back : From (after_first x)
  unfolding after_first
  first_back =
      by_range 0x00 0x7F _ _ (λ r t. more (of_one (one r)) t)
      (by_range 0xC2 0xDF _ _ (λ r t. two_more r t)
      (by_octet 0xE0 _ _ (λ e t. three_more 0xA0 0xBF (λ b c r s. rw e (three-E0 r s)) t)
      (by_range 0xE1 0xEC _ _ (λ r t. three_more 0x80 0xBF (λ b c. three-E1 r) t)
      (by_octet 0xED _ _ (λ e t. three_more 0x80 0x9F (λ b c r s. rw e (three-ED r s)) t)
      (by_range 0xEE 0xEF _ _ (λ r t. three_more 0x80 0xBF (λ b c. three-EE r) t)
      (by_octet 0xF0 _ _ (λ e t. four_more 0x90 0xBF (λ b c d r s u. rw e (four-F0 r s u)) t)
      (by_range 0xF1 0xF3 _ _ (λ r t. four_more 0x80 0xBF (λ b c d. four-F1 r) t)
      (by_octet 0xF4 _ _ (λ e t. four_more 0x80 0x8F (λ b c d r s u. rw e (four-F4 r s u)) t)
      (λ t. absurd t)))))))))

  tail_back : (low high : ℕ) (q : TextState) → Follows (pick (within low high x) q NoText) xs → Then low high (Follows q) (x ∷ xs)
  tail_back low high q =
      pick_holds (λ (s : TextState). Follows s xs → Then low high (Follows q) (x ∷ xs)) (within low high x) q NoText
      (λ e t. record { octet = x; rest = xs; is = refl; fits = true-within low high x e; then = t })
      (λ e t. absurd t)

  octet_back : (q : TextState) → Follows (after_octet q x) xs → Follows q (x ∷ xs)
  unfolding after_octet
  octet_back Boundary t = first_back t
  octet_back OneTail t = tail_back 0x80 0xBF Boundary t
  octet_back TwoTails t = tail_back 0x80 0xBF OneTail t
  octet_back ThreeTails t = tail_back 0x80 0xBF TwoTails t
  octet_back AfterE0 t = tail_back 0xA0 0xBF OneTail t
  octet_back AfterED t = tail_back 0x80 0x9F OneTail t
  octet_back AfterF0 t = tail_back 0x90 0xBF TwoTails t
  octet_back AfterF4 t = tail_back 0x80 0x8F TwoTails t
  octet_back NoText t = t

taken_follows : (q : TextState) (xs : List ℕ) → text_from q xs ≡ true → Follows q xs
unfolding text_from may_end
taken_follows Boundary [] h = none
taken_follows OneTail [] h = never h
taken_follows TwoTails [] h = never h
taken_follows ThreeTails [] h = never h
taken_follows AfterE0 [] h = never h
taken_follows AfterED [] h = never h
taken_follows AfterF0 [] h = never h
taken_follows AfterF4 [] h = never h
taken_follows NoText [] h = never h
taken_follows q (x ∷ xs) h = octet_back x xs q (taken_follows (after_octet q x) xs h)

pub taken_characters : (xs : List ℕ) → text_from Boundary xs ≡ true → Characters xs
taken_characters xs h = taken_follows Boundary xs h

-- ---- what has the grammar the test takes
module _ (x : ℕ) where
  first_00 : Within 0x00 0x7F x → after_first x ≡ Boundary
  unfolding after_first
  first_00 r = simp (within_true 0x00 0x7F x r)

  first-C2 : Within 0xC2 0xDF x → after_first x ≡ OneTail
  unfolding after_first
  first-C2 r = simp (within_above 0x00 0x7F x (omega arith), within_true 0xC2 0xDF x r)

  first-E1 : Within 0xE1 0xEC x → after_first x ≡ TwoTails
  unfolding after_first
  first-E1 r =
      simp (
        within_above 0x00 0x7F x (omega arith),
        within_above 0xC2 0xDF x (omega arith),
        other 0xE0 x (omega arith),
        within_true 0xE1 0xEC x r,
      )

  first-EE : Within 0xEE 0xEF x → after_first x ≡ TwoTails
  unfolding after_first
  first-EE r =
      simp (
        within_above 0x00 0x7F x (omega arith),
        within_above 0xC2 0xDF x (omega arith),
        other 0xE0 x (omega arith),
        within_above 0xE1 0xEC x (omega arith),
        other 0xED x (omega arith),
        within_true 0xEE 0xEF x r,
      )

  first-F1 : Within 0xF1 0xF3 x → after_first x ≡ ThreeTails
  unfolding after_first
  first-F1 r =
      simp (
        within_above 0x00 0x7F x (omega arith),
        within_above 0xC2 0xDF x (omega arith),
        other 0xE0 x (omega arith),
        within_above 0xE1 0xEC x (omega arith),
        other 0xED x (omega arith),
        within_above 0xEE 0xEF x (omega arith),
        other 0xF0 x (omega arith),
        within_true 0xF1 0xF3 x r,
      )

-- the octets behind a character's first, from the state after it: they lead to a boundary
module _ (rest : List ℕ) where
  then_none : {b : ℕ} → Tail b → text_from (after_octet OneTail b) rest ≡ text_from Boundary rest
  unfolding after_octet
  then_none {b} r = simp (within_true 0x80 0xBF b r)

  then_one : (q : TextState) (b c low high : ℕ) → after_octet q b ≡ pick (within low high b) OneTail NoText
      → Within low high b → Tail c → text_from (after_octet (after_octet q b) c) rest ≡ text_from Boundary rest
  then_one q b c low high e r t = rw (e, within_true low high b r) (then_none t)

  then-two : (q : TextState) (b c d low high : ℕ) → after_octet q b ≡ pick (within low high b) TwoTails NoText
      → Within low high b → Tail c → Tail d
      → text_from (after_octet (after_octet (after_octet q b) c) d) rest ≡ text_from Boundary rest
  unfolding after_octet
  then-two q b c d low high e r t u = rw (e, within_true low high b r) (then_one TwoTails c d 0x80 0xBF refl t u)

  one_on : {c : List ℕ} → OneOctet c → text_from Boundary (c ++ rest) ≡ text_from Boundary rest
  unfolding text_from after_octet
  one_on (one {a} r) = ap (λ (q : TextState). text_from q rest) (first_00 a r)

  two_on : {c : List ℕ} → TwoOctets c → text_from Boundary (c ++ rest) ≡ text_from Boundary rest
  unfolding text_from after_octet
  two_on (two {a} {b} r t) = ap (λ (q : TextState). text_from (after_octet q b) rest) (first-C2 a r) ∙ then_none t

  three_on : {c : List ℕ} → ThreeOctets c → text_from Boundary (c ++ rest) ≡ text_from Boundary rest
  unfolding text_from after_octet after_first within
  three_on (three-E0 {b} {c} t u) = then_one AfterE0 b c 0xA0 0xBF refl t u
  three_on (three-E1 {a} {b} {c} r t u) =
      ap (λ (q : TextState). text_from (after_octet (after_octet q b) c) rest) (first-E1 a r)
      ∙ then_one TwoTails b c 0x80 0xBF refl t u
  three_on (three-ED {b} {c} t u) = then_one AfterED b c 0x80 0x9F refl t u
  three_on (three-EE {a} {b} {c} r t u) =
      ap (λ (q : TextState). text_from (after_octet (after_octet q b) c) rest) (first-EE a r)
      ∙ then_one TwoTails b c 0x80 0xBF refl t u

  four_on : {c : List ℕ} → FourOctets c → text_from Boundary (c ++ rest) ≡ text_from Boundary rest
  unfolding text_from after_octet after_first within
  four_on (four-F0 {b} {c} {d} t u v) = then-two AfterF0 b c d 0x90 0xBF refl t u v
  four_on (four-F1 {a} {b} {c} {d} r t u v) =
      ap (λ (q : TextState). text_from (after_octet (after_octet (after_octet q b) c) d) rest) (first-F1 a r)
      ∙ then-two ThreeTails b c d 0x80 0xBF refl t u v
  four_on (four-F4 {b} {c} {d} t u v) = then-two AfterF4 b c d 0x80 0x8F refl t u v

  character_on : {c : List ℕ} → Character c → text_from Boundary (c ++ rest) ≡ text_from Boundary rest
  character_on (of_one h) = one_on h
  character_on (of_two h) = two_on h
  character_on (of_three h) = three_on h
  character_on (of_four h) = four_on h

pub characters_taken : {xs : List ℕ} → Characters xs → text_from Boundary xs ≡ true
unfolding text_from may_end
characters_taken none = refl
characters_taken (more {c} {rest} h r) = character_on rest h ∙ characters_taken r
