-- The encoding of a scalar value, by the table of RFC 3629, section 3, which the grammar of section 4 does not mention; and
-- what joins the two: each character of the grammar encodes one scalar value, and each scalar value's encoding is one.
use Rattle.std.specs.Prelude.{ℕ, ◌+◌, ◌-◌, ◌*◌, ◌/◌, ◌%◌, ◌≤◌, ◌<◌, ◌≡◌, refl, Bool, true, false, List, [], ◌∷◌, ◌++◌, ltb}
use native.Mathlib.Omega.{arith}
use Rattle.std.proofs.Common.{sym, subst}
use borrow.Author.Tests.{ltb-true, ltb-false, lt-ltb, le-ltb}
use Rattle.coding.specs.Lists.{pick}
use Rattle.coding.specs.Utf8.{Within, Tail, OneOctet, TwoOctets, ThreeOctets, FourOctets, Character, Characters, one, two, three-E0, three-E1, three-ED, three-EE, four-F0, four-F1, four-F4, of_one, of_two, of_three, of_four, none, more}
use Rattle.laws.specs.Lists.{pick_holds}
use Rattle.laws.specs.Sound.{All}

-- ---- what the claims speak of
-- a scalar value: 0 to 10FFFF without the surrogates D800 to DFFF
pub data Scalar : ℕ → Type 0 where
  below_surrogates : {v : ℕ} → v ≤ 0xD7FF → Scalar v
  above_surrogates : {v : ℕ} → 0xE000 ≤ v → v ≤ 0x10FFFF → Scalar v

-- the octets of a scalar value: the first row of the table whose range has it, so its shortest form. The x are the value's
-- bits, six to a tail:
--   0000 0000-0000 007F | 0xxxxxxx
--   0000 0080-0000 07FF | 110xxxxx 10xxxxxx
--   0000 0800-0000 FFFF | 1110xxxx 10xxxxxx 10xxxxxx
--   0001 0000-0010 FFFF | 11110xxx 10xxxxxx 10xxxxxx 10xxxxxx
unfoldable pub encode : ℕ → List ℕ
encode v =
    pick (ltb v 0x80) (v ∷ [])
    (pick (ltb v 0x800) ((0xC0 + v / 64) ∷ (0x80 + v % 64) ∷ [])
    (pick (ltb v 0x10000) ((0xE0 + v / 64 / 64) ∷ (0x80 + v / 64 % 64) ∷ (0x80 + v % 64) ∷ [])
    ((0xF0 + v / 64 / 64 / 64) ∷ (0x80 + v / 64 / 64 % 64) ∷ (0x80 + v / 64 % 64) ∷ (0x80 + v % 64) ∷ [])))

-- the octets of values one after the other
unfoldable pub encode_all : List ℕ → List ℕ
encode_all [] = []
encode_all (v ∷ vs) = encode v ++ encode_all vs

-- a reading of octets: scalar values that they are the encodings of
pub record Reading (xs : List ℕ) : Type 0 where
  pub values : List ℕ
  pub scalars : All Scalar values
  pub encodes : encode_all values ≡ xs

-- ---- a character is a scalar value's encoding
in_range : (low high x : ℕ) → low ≤ x → x ≤ high → Within low high x
in_range low high x h k = record { least = h; most = k }

low_scalar : (v : ℕ) → v ≤ 0xD7FF → Scalar v
low_scalar v h = below_surrogates h

high_scalar : (v : ℕ) → 0xE000 ≤ v → v ≤ 0x10FFFF → Scalar v
high_scalar v h k = above_surrogates h k

-- a scalar value whose encoding is c
record Value (c : List ℕ) : Type 0 where
  pub value : ℕ
  pub scalar : Scalar value
  pub encodes : encode value ≡ c

module _ (v : ℕ) where
  encode-two : (a b : ℕ) → 0x80 ≤ v → v < 0x800 → 0xC0 + v / 64 ≡ a → 0x80 + v % 64 ≡ b → encode v ≡ a ∷ b ∷ []
  unfolding encode
  encode-two a b h k p q = simp (le-ltb v 0x80 h, lt-ltb v 0x800 k, p, q)

  encode-three : (a b c : ℕ) → 0x800 ≤ v → v < 0x10000
      → 0xE0 + v / 64 / 64 ≡ a → 0x80 + v / 64 % 64 ≡ b → 0x80 + v % 64 ≡ c → encode v ≡ a ∷ b ∷ c ∷ []
  unfolding encode
  encode-three a b c h k p q r =
      let l : 0x80 ≤ v = omega arith in
      simp (le-ltb v 0x80 l, le-ltb v 0x800 h, lt-ltb v 0x10000 k, p, q, r)

  encode_four : (a b c d : ℕ) → 0x10000 ≤ v
      → 0xF0 + v / 64 / 64 / 64 ≡ a → 0x80 + v / 64 / 64 % 64 ≡ b → 0x80 + v / 64 % 64 ≡ c → 0x80 + v % 64 ≡ d
      → encode v ≡ a ∷ b ∷ c ∷ d ∷ []
  unfolding encode
  encode_four a b c d h p q r s =
      let l : 0x80 ≤ v = omega arith in
      let m : 0x800 ≤ v = omega arith in
      simp (le-ltb v 0x80 l, le-ltb v 0x800 m, le-ltb v 0x10000 h, p, q, r, s)

one_value : {c : List ℕ} → OneOctet c → Value c
unfolding encode
one_value (one {a} r) =
    let h : a < 0x80 = omega arith in
    record { value = a; scalar = low_scalar a (omega arith); encodes = simp (lt-ltb a 0x80 h) }

two-value : {c : List ℕ} → TwoOctets c → Value c
two-value (two {a} {b} r t) =
    let v = 64 * (a - 0xC0) + (b - 0x80) in
    record {
      value = v;
      scalar = low_scalar v (omega arith);
      encodes = encode-two v a b (omega arith) (omega arith) (omega arith) (omega arith);
    }

-- the value of three octets, and of four
abbrev three_value : ℕ → ℕ → ℕ → ℕ
three_value a b c = 64 * (64 * (a - 0xE0) + (b - 0x80)) + (c - 0x80)

abbrev four_value : ℕ → ℕ → ℕ → ℕ → ℕ
four_value a b c d = 64 * (64 * (64 * (a - 0xF0) + (b - 0x80)) + (c - 0x80)) + (d - 0x80)

-- six bits joined to what is before them
join-rest : (x y : ℕ) → y < 64 → (64 * x + y) / 64 ≡ x
join-rest x y h = omega arith

join_last : (x y : ℕ) → y < 64 → (64 * x + y) % 64 ≡ y
join_last x y h = omega arith

as-three : (a b c : ℕ) → Within 0xE0 0xEF a → Tail b → Tail c → 0x800 ≤ three_value a b c → Scalar (three_value a b c)
    → Value (a ∷ b ∷ c ∷ [])
as-three a b c r s t h k =
    record {
      value = three_value a b c;
      scalar = k;
      encodes = encode-three (three_value a b c) a b c h (omega arith) (omega arith) (omega arith) (omega arith);
    }

as_four : (a b c d : ℕ) → Within 0xF0 0xF4 a → Tail b → Tail c → Tail d → 0x10000 ≤ four_value a b c d
    → four_value a b c d ≤ 0x10FFFF → Value (a ∷ b ∷ c ∷ d ∷ [])
as_four a b c d r s t u h k =
    let v = four_value a b c d in
    let x = 64 * (a - 0xF0) + (b - 0x80) in
    let y = 64 * x + (c - 0x80) in
    let first : v / 64 ≡ y = join-rest y (d - 0x80) (omega arith) in
    let second : y / 64 ≡ x = join-rest x (c - 0x80) (omega arith) in
    let third : x / 64 ≡ a - 0xF0 = join-rest (a - 0xF0) (b - 0x80) (omega arith) in
    let last : x % 64 ≡ b - 0x80 = join_last (a - 0xF0) (b - 0x80) (omega arith) in
    let last_2 : y % 64 ≡ c - 0x80 = join_last x (c - 0x80) (omega arith) in
    let last_3 : v % 64 ≡ d - 0x80 = join_last y (d - 0x80) (omega arith) in
    record {
      value = v;
      scalar = high_scalar v (omega arith) k;
      encodes =
          encode_four v a b c d h
          (rw (first, second, third) (omega arith))
          (rw (first, second, last) (omega arith))
          (rw (first, last_2) (omega arith))
          (rw last_3 (omega arith));
    }

three-value : {c : List ℕ} → ThreeOctets c → Value c
three-value (three-E0 {b} {c} s t) =
    as-three 0xE0 b c (in_range 0xE0 0xEF 0xE0 (omega arith) (omega arith)) (in_range 0x80 0xBF b (omega arith) (omega arith)) t
    (omega arith) (low_scalar (three_value 0xE0 b c) (omega arith))
three-value (three-E1 {a} {b} {c} r s t) =
    as-three a b c (in_range 0xE0 0xEF a (omega arith) (omega arith)) s t
    (omega arith) (low_scalar (three_value a b c) (omega arith))
three-value (three-ED {b} {c} s t) =
    as-three 0xED b c (in_range 0xE0 0xEF 0xED (omega arith) (omega arith)) (in_range 0x80 0xBF b (omega arith) (omega arith)) t
    (omega arith) (low_scalar (three_value 0xED b c) (omega arith))
three-value (three-EE {a} {b} {c} r s t) =
    as-three a b c (in_range 0xE0 0xEF a (omega arith) (omega arith)) s t
    (omega arith) (high_scalar (three_value a b c) (omega arith) (omega arith))

four-value : {c : List ℕ} → FourOctets c → Value c
four-value (four-F0 {b} {c} {d} s t u) =
    as_four 0xF0 b c d (in_range 0xF0 0xF4 0xF0 (omega arith) (omega arith)) (in_range 0x80 0xBF b (omega arith) (omega arith)) t u
    (omega arith) (omega arith)
four-value (four-F1 {a} {b} {c} {d} r s t u) =
    as_four a b c d (in_range 0xF0 0xF4 a (omega arith) (omega arith)) s t u (omega arith) (omega arith)
four-value (four-F4 {b} {c} {d} s t u) =
    as_four 0xF4 b c d (in_range 0xF0 0xF4 0xF4 (omega arith) (omega arith)) (in_range 0x80 0xBF b (omega arith) (omega arith)) t u
    (omega arith) (omega arith)

character-value : {c : List ℕ} → Character c → Value c
character-value (of_one h) = one_value h
character-value (of_two h) = two-value h
character-value (of_three h) = three-value h
character-value (of_four h) = four-value h

pub characters_reading : {xs : List ℕ} → Characters xs → Reading xs
unfolding encode_all
characters_reading none = record { values = []; scalars = tt; encodes = refl }
characters_reading (more {c} {rest} h r) =
    let v = character-value h in
    let s = characters_reading r in
    record { values = v.value ∷ s.values; scalars = (v.scalar, s.scalars); encodes = rw (v.encodes, s.encodes) }

-- ---- a scalar value's encoding is a character
by_less : {P : Type 0} (v k : ℕ) → (v < k → P) → (k ≤ v → P) → P
by_less {P} v k f g = go (ltb v k) (ltb-true v k) (ltb-false v k)
  where
    go : (t : Bool) → (t ≡ true → v < k) → (t ≡ false → k ≤ v) → P
    go true p q = f (p refl)
    go false p q = g (q refl)

tail_of : (x : ℕ) → Tail (0x80 + x % 64)
tail_of x = in_range 0x80 0xBF (0x80 + x % 64) (omega arith) (omega arith)

module _ (v : ℕ) where
  -- the octets of the table's third row, and of its fourth
  abbrev three_row : List ℕ
  three_row = (0xE0 + v / 64 / 64) ∷ (0x80 + v / 64 % 64) ∷ (0x80 + v % 64) ∷ []

  abbrev four_row : List ℕ
  four_row = (0xF0 + v / 64 / 64 / 64) ∷ (0x80 + v / 64 / 64 % 64) ∷ (0x80 + v / 64 % 64) ∷ (0x80 + v % 64) ∷ []

  two-of : 0x80 ≤ v → v < 0x800 → TwoOctets ((0xC0 + v / 64) ∷ (0x80 + v % 64) ∷ [])
  two-of h k = two (in_range 0xC2 0xDF (0xC0 + v / 64) (omega arith) (omega arith)) (tail_of v)

  three-at-E0 : 0x800 ≤ v → v < 0x1000 → ThreeOctets three_row
  three-at-E0 h k =
      let z : v / 64 / 64 ≡ 0 = omega arith in
      rw z (three-E0 (in_range 0xA0 0xBF (0x80 + v / 64 % 64) (omega arith) (omega arith)) (tail_of v))

  three-at-E1 : 0x1000 ≤ v → v < 0xD000 → ThreeOctets three_row
  three-at-E1 h k =
      three-E1 (in_range 0xE1 0xEC (0xE0 + v / 64 / 64) (omega arith) (omega arith)) (tail_of (v / 64)) (tail_of v)

  three-at-ED : 0xD000 ≤ v → v ≤ 0xD7FF → ThreeOctets three_row
  three-at-ED h k =
      let z : v / 64 / 64 ≡ 13 = omega arith in
      rw z (three-ED (in_range 0x80 0x9F (0x80 + v / 64 % 64) (omega arith) (omega arith)) (tail_of v))

  three-at-EE : 0xE000 ≤ v → v < 0x10000 → ThreeOctets three_row
  three-at-EE h k =
      three-EE (in_range 0xEE 0xEF (0xE0 + v / 64 / 64) (omega arith) (omega arith)) (tail_of (v / 64)) (tail_of v)

  three-of : Scalar v → 0x800 ≤ v → v < 0x10000 → ThreeOctets three_row
  three-of (below_surrogates m) h k =
      by_less v 0x1000 (three-at-E0 h) (λ p. by_less v 0xD000 (three-at-E1 p) (λ q. three-at-ED q m))
  three-of (above_surrogates l m) h k = three-at-EE l k

  four-at-F0 : 0x10000 ≤ v → v < 0x40000 → FourOctets four_row
  four-at-F0 h k =
      let z : v / 64 / 64 / 64 ≡ 0 = omega arith in
      rw z
      (four-F0 (in_range 0x90 0xBF (0x80 + v / 64 / 64 % 64) (omega arith) (omega arith)) (tail_of (v / 64)) (tail_of v))

  four-at-F1 : 0x40000 ≤ v → v < 0x100000 → FourOctets four_row
  four-at-F1 h k =
      four-F1 (in_range 0xF1 0xF3 (0xF0 + v / 64 / 64 / 64) (omega arith) (omega arith))
      (tail_of (v / 64 / 64)) (tail_of (v / 64)) (tail_of v)

  four-at-F4 : 0x100000 ≤ v → v ≤ 0x10FFFF → FourOctets four_row
  four-at-F4 h k =
      let z : v / 64 / 64 / 64 ≡ 4 = omega arith in
      rw z
      (four-F4 (in_range 0x80 0x8F (0x80 + v / 64 / 64 % 64) (omega arith) (omega arith)) (tail_of (v / 64)) (tail_of v))

  highest : Scalar v → v ≤ 0x10FFFF
  highest (below_surrogates m) = omega arith
  highest (above_surrogates l m) = m

  four-of : v ≤ 0x10FFFF → 0x10000 ≤ v → FourOctets four_row
  four-of m h = by_less v 0x40000 (four-at-F0 h) (λ p. by_less v 0x100000 (four-at-F1 p) (λ q. four-at-F4 q m))

  encode_character : Scalar v → Character (encode v)
  unfolding encode
  encode_character s =
      pick_holds Character (ltb v 0x80) _ _
      (λ e. let h = ltb-true v 0x80 e in of_one (one (in_range 0x00 0x7F v (omega arith) (omega arith))))
      (λ e. pick_holds Character (ltb v 0x800) _ _
      (λ f. of_two (two-of (ltb-false v 0x80 e) (ltb-true v 0x800 f)))
      (λ f. pick_holds Character (ltb v 0x10000) _ _
      (λ g. of_three (three-of s (ltb-false v 0x800 f) (ltb-true v 0x10000 g)))
      (λ g. of_four (four-of (highest s) (ltb-false v 0x10000 g)))))

encoded_characters : (vs : List ℕ) → All Scalar vs → Characters (encode_all vs)
unfolding encode_all
encoded_characters [] s = none
encoded_characters (v ∷ vs) s = more (encode_character v s.0) (encoded_characters vs s.1)

pub reading_characters : (xs : List ℕ) → Reading xs → Characters xs
reading_characters xs r = subst Characters r.encodes (encoded_characters r.values r.scalars)

-- ---- no octets have two readings
-- the four rows of the table
data Row : ℕ → List ℕ → Type 0 where
  row_one : {v : ℕ} → v < 0x80 → Row v (v ∷ [])
  row-two : {v : ℕ} → 0x80 ≤ v → v < 0x800 → Row v ((0xC0 + v / 64) ∷ (0x80 + v % 64) ∷ [])
  row-three : {v : ℕ} → 0x800 ≤ v → v < 0x10000 → Row v ((0xE0 + v / 64 / 64) ∷ (0x80 + v / 64 % 64) ∷ (0x80 + v % 64) ∷ [])
  row_four : {v : ℕ} → 0x10000 ≤ v
      → Row v ((0xF0 + v / 64 / 64 / 64) ∷ (0x80 + v / 64 / 64 % 64) ∷ (0x80 + v / 64 % 64) ∷ (0x80 + v % 64) ∷ [])

row_of : (v : ℕ) → Row v (encode v)
unfolding encode
row_of v =
    pick_holds (Row v) (ltb v 0x80) _ _ (λ e. row_one (ltb-true v 0x80 e))
    (λ e. pick_holds (Row v) (ltb v 0x800) _ _ (λ f. row-two (ltb-false v 0x80 e) (ltb-true v 0x800 f))
    (λ f. pick_holds (Row v) (ltb v 0x10000) _ _ (λ g. row-three (ltb-false v 0x800 f) (ltb-true v 0x10000 g))
    (λ g. row_four (ltb-false v 0x10000 g))))

-- the same value, and the same after it
record Same (v w : ℕ) (r s : List ℕ) : Type 0 where
  pub value : v ≡ w
  pub rest : r ≡ s

parts : {a b : ℕ} {r s : List ℕ} → (a ∷ r) ≡ (b ∷ s) → Same a b r s
parts e = record { value = cc; rest = cc }

-- where octets begin with the encodings of two values, these are one value
row_same : {v w : ℕ} {c d : List ℕ} (r s : List ℕ) → Row v c → Row w d → c ++ r ≡ d ++ s → Same v w r s
row_same r s (row_one h) (row_one k) e = parts e
row_same r s (row_one h) (row-two k l) e = let p = parts e in absurd (omega arith)
row_same r s (row_one h) (row-three k l) e = let p = parts e in absurd (omega arith)
row_same r s (row_one h) (row_four k) e = let p = parts e in absurd (omega arith)
row_same r s (row-two h i) (row_one k) e = let p = parts e in absurd (omega arith)
row_same r s (row-two h i) (row-two k l) e =
    let p = parts e in
    let q = parts p.rest in
    record { value = omega arith; rest = q.rest }
row_same r s (row-two h i) (row-three k l) e = let p = parts e in absurd (omega arith)
row_same r s (row-two h i) (row_four k) e = let p = parts e in absurd (omega arith)
row_same r s (row-three h i) (row_one k) e = let p = parts e in absurd (omega arith)
row_same r s (row-three h i) (row-two k l) e = let p = parts e in absurd (omega arith)
row_same r s (row-three h i) (row-three k l) e =
    let p = parts e in
    let q = parts p.rest in
    let u = parts q.rest in
    record { value = omega arith; rest = u.rest }
row_same r s (row-three h i) (row_four k) e = let p = parts e in absurd (omega arith)
row_same r s (row_four h) (row_one k) e = let p = parts e in absurd (omega arith)
row_same r s (row_four h) (row-two k l) e = let p = parts e in absurd (omega arith)
row_same r s (row_four h) (row-three k l) e = let p = parts e in absurd (omega arith)
row_same r s (row_four h) (row_four k) e =
    let p = parts e in
    let q = parts p.rest in
    let u = parts q.rest in
    let z = parts u.rest in
    record { value = omega arith; rest = z.rest }

row_some : {v : ℕ} {c : List ℕ} (r : List ℕ) → Row v c → c ++ r ≡ [] → ⊥
row_some r (row_one h) e = let z : ◌≡◌ {A = ℕ} 0 1 = cc in omega arith
row_some r (row-two h i) e = let z : ◌≡◌ {A = ℕ} 0 1 = cc in omega arith
row_some r (row-three h i) e = let z : ◌≡◌ {A = ℕ} 0 1 = cc in omega arith
row_some r (row_four h) e = let z : ◌≡◌ {A = ℕ} 0 1 = cc in omega arith

pub values_same : (vs ws : List ℕ) → encode_all vs ≡ encode_all ws → vs ≡ ws
unfolding encode_all
values_same [] [] e = refl
values_same [] (w ∷ ws) e = absurd (row_some (encode_all ws) (row_of w) (sym e))
values_same (v ∷ vs) [] e = absurd (row_some (encode_all vs) (row_of v) e)
values_same (v ∷ vs) (w ∷ ws) e =
    let p = row_same (encode_all vs) (encode_all ws) (row_of v) (row_of w) e in
    rw (p.value, values_same vs ws p.rest)
