-- The ways out of what counts extents and sizes, one lemma for each, in the words of the survey.
use mathlib.Core.Path.{◌≡◌, refl, sym, ap, ap₂, ◌∙◌}
use mathlib.Core.Bool.{Bool, true, false, ◌&&◌, not}
use mathlib.Core.List.{List}
use Prim.Native.Nat.{ℕ, suc, ◌+◌, ◌*◌, ◌^◌, ◌<◌, ◌≤◌}
use native.Mathlib.Omega.{arith}
use native.Mathlib.Nat.{mul-le-mul_left}
use native.Mathlib.Numerals.{add-one}
use lib.ListN.{length, drop, drop_of_length-le}
use lib.Seq.{drop-cons}
use lib.Dec.{ltb, leb, eqb}
use borrow.Author.Tests.{le-leb, lt-leb, lt-ltb, le-ltb, leb-true, leb-false}
use Rattle.coding.specs.Lists.{pick}
use Rattle.coding.specs.Bytes.{largest, u48}
use Rattle.coding.specs.Schema as Sc
use Rattle.coding.specs.Schema.{Schema}
use Rattle.coding.specs.Packed as P
use Rattle.coding.specs.Layout as L
use Rattle.coding.specs.Message.{keeps_unions}
use Rattle.coding.specs.declared.Member.{Member}
use Rattle.coding.specs.declared.Cursor.{Cursor}
use Rattle.coding.specs.declared.Slot.{Slot}
use Rattle.laws.specs.Sound.{MemberSound}
use Rattle.laws.specs.SoundAt.{member_sound-at}
use Rattle.schema.specs.Directory.{Accepted, accepted_sound}
use Rattle.message_layout.specs.Bounds.{Laid, Stands}
use Rattle.write_text.specs.Texts.{blob_fine}
use Rattle.write_measure.specs.Survey.{capped, head_size, plain, opened, blob_opened, joined, referred}
use Rattle.write_measure.specs.Surveyed.{Small, Fits}
use Rattle.write_measure.specs.declared.Extent.{Extent}

-- ---- extents
pub plain_fits : (fine : Bool) → Fits (plain fine) (record { writable = fine; length = 0; width = 0; chain = 0; below = 0 })
unfolding plain
plain_fits fine = record { is = refl; small = record { length = omega arith; width = omega arith; chain = omega arith; below = omega arith } }

pub opened_fits : (n w : ℕ) → n < 2 ^ 40 → w < 2 ^ 54 → Fits (opened n w) (record { writable = true; length = n; width = w; chain = 0; below = 0 })
unfolding opened
opened_fits n w h l = record { is = refl; small = record { length = h; width = l; chain = omega arith; below = omega arith } }

pub blob_fits : (more n : ℕ) (l : List ℕ) → n < 2 ^ 32 → more ≤ 1 → (t : Bool) → t ≡ blob_fine more l
    → Fits (blob_opened more n l) (record { writable = t; length = n; width = n + more; chain = 0; below = 0 })
unfolding blob_opened
blob_fits more n l h k t e =
    record {
      is = ap (λ (u : Bool). record { writable = u; length = n; width = n + more; chain = 0; below = 0 }) e;
      small = record { length = omega arith; width = omega arith; chain = omega arith; below = omega arith };
    }

pub fits_small : (x r : Extent) → Fits x r → Small r
fits_small x r f = f.small

pub capped_short : (n : ℕ) → n ≤ 16777215 → n ≡ capped n
unfolding capped largest
capped_short n h = simp (le-leb _ _ h)

pub capped_past : (n : ℕ) → 16777215 < n → 16777216 ≡ capped n
unfolding capped largest
capped_past n h = simp (lt-leb _ _ h)

extent-same : (t u : Bool) (n w c c' b b' : ℕ) → t ≡ u → c ≡ c' → b ≡ b'
    → ◌≡◌ {A = Extent} (record { writable = t; length = n; width = w; chain = c; below = b }) (record { writable = u; length = n; width = w; chain = c'; below = b' })
extent-same t u n w c c' b b' e f g =
    ap (λ (p : Bool). record { writable = p; length = n; width = w; chain = c; below = b }) e
    ∙ ap₂ (λ (p q : ℕ). record { writable = u; length = n; width = w; chain = p; below = q }) f g

pub joined_fits : (a e : Extent) → Small a → (t : Bool) → t ≡ (a.writable && e.writable) → (c : ℕ) → c ≡ capped (a.chain + e.chain) → c ≤ 16777216
    → (b : ℕ) → b ≡ capped (a.below + e.below) → b ≤ 16777216
    → Fits (joined a e) (record { writable = t; length = a.length; width = a.width; chain = c; below = b })
unfolding joined
joined_fits a e s t et c ec lc b eb lb =
    record {
      is = extent-same t (a.writable && e.writable) a.length a.width c (capped (a.chain + e.chain)) b (capped (a.below + e.below)) et ec eb;
      small = record { length = s.length; width = s.width; chain = lc; below = lb };
    }

capped_same : (n : ℕ) → n ≤ 16777216 → n ≡ capped n
capped_same n h = by (leb n 16777215) refl
  where
    by : (t : Bool) → leb n 16777215 ≡ t → n ≡ capped n
    by true e = capped_short n (leb-true n 16777215 e)
    by false e =
        let l = leb-false n 16777215 e in
        let z : n ≡ 16777216 = omega arith in
        z ∙ capped_past n l

capped_more : (n : ℕ) → n ≤ 16777216 → n ≡ capped (n + 0)
capped_more n h = let z : n ≡ n + 0 = omega arith in capped_same n h ∙ ap capped z

-- with what leads to no object only whether it can be written changes
pub plain-joined : (a : Extent) → Small a → (fine t : Bool) → t ≡ (a.writable && fine)
    → Fits (joined a (plain fine)) (record { writable = t; length = a.length; width = a.width; chain = a.chain; below = a.below })
unfolding joined plain
plain-joined a s fine t et =
    record {
      is = extent-same t (a.writable && fine) a.length a.width a.chain (capped (a.chain + 0)) a.below (capped (a.below + 0)) et
          (capped_more a.chain s.chain) (capped_more a.below s.below);
      small = record { length = s.length; width = s.width; chain = s.chain; below = s.below };
    }

pub keeps-unions : (o : ℕ) (k : Bool) → k ≡ not (eqb o 6) → k ≡ keeps_unions o
unfolding keeps_unions u48
keeps-unions o k e = e

module _ (union : Bool) (n : ℕ) (fine : Bool) (o : ℕ) where
  pub fine-union : union ≡ true → (k : Bool) → k ≡ keeps_unions o → (t : Bool) → t ≡ (k && fine) → t ≡ (pick union (keeps_unions o) (ltb 0 n) && fine)
  fine-union e k ek t et = et ∙ rw e (rw ek)

  pub fine_some : union ≡ false → 0 < n → fine ≡ (pick union (keeps_unions o) (ltb 0 n) && fine)
  fine_some e h = rw e (simp (lt-ltb 0 n h))

  pub fine_none : union ≡ false → n ≤ 0 → false ≡ (pick union (keeps_unions o) (ltb 0 n) && fine)
  fine_none e h = rw e (simp (le-ltb 0 n h))

module _ (inplace union : Bool) (e : Extent) (small : Small e) where
  pub referred_in : (o : ℕ) → inplace ≡ true → (t : Bool) → t ≡ (pick union (keeps_unions o) (ltb 0 e.length) && e.writable) → (c : ℕ) → c ≡ capped (e.width + e.chain)
      → c ≤ 16777216 → Fits (referred o inplace union e) (record { writable = t; length = 0; width = 0; chain = c; below = e.below })
  unfolding referred
  referred_in o i t et c ec lc =
      rw i (record {
        is = extent-same t (pick union (keeps_unions o) (ltb 0 e.length) && e.writable) 0 0 c (capped (e.width + e.chain)) e.below e.below et ec refl;
        small = record { length = omega arith; width = omega arith; chain = lc; below = small.below };
      })

  pub referred_out : (o : ℕ) → inplace ≡ false → (h : ℕ) → h ≡ 4 + o → (b : ℕ) → b ≡ capped (h + (e.width + e.chain) + e.below) → b ≤ 16777216
      → Fits (referred o inplace union e) (record { writable = e.writable; length = 0; width = 0; chain = 0; below = b })
  unfolding referred head_size
  referred_out o i h eh b eb lb =
      let z : h + (e.width + e.chain) + e.below ≡ 4 + o + e.width + e.chain + e.below = omega arith in
      rw i (record {
        is = extent-same e.writable e.writable 0 0 0 0 b (capped (4 + o + e.width + e.chain + e.below)) refl refl (eb ∙ ap capped z);
        small = record { length = omega arith; width = omega arith; chain = omega arith; below = lb };
      })

-- the elements of a list take few bytes
pub size_short : (n r : ℕ) → r ≤ 4096 * n → n < 2 ^ 32 → r < 2 ^ 48
size_short n r h l = omega arith

-- the elements of a direct list take bytes that can be counted
pub direct_short : (z n : ℕ) → z < 2 ^ 21 → n < 2 ^ 32 → 8 + n * z < 2 ^ 54
direct_short z n h l = let m : n * z ≤ n * 2097152 = mul-le-mul_left n (omega arith) in omega arith

-- ---- a table's full fixed part, from member j on
pub member_sound-of : (b dir : List ℕ) → Accepted b dir → (t j : ℕ) (r : Member) → r ≡ Sc.member_of (P.parse b) t j → (count : ℕ) → count ≡ length (Sc.table_of (P.parse b) t).members
    → j < count → MemberSound (P.parse b) r
member_sound-of b dir a t j r e count ec h = rw e (member_sound-at (P.parse b) (accepted_sound b dir a) t j (omega arith))

module _ (o : ℕ) (S : Schema) (t : ℕ) where
  pub fixed_start : (c : Cursor) → c ≡ L.begin → L.after_members o S (Sc.table_of S t).members L.begin ≡ L.after_members o S (drop 0 (Sc.table_of S t).members) c
  fixed_start c e = ap (L.after_members o S (Sc.table_of S t).members) (sym e)

  module _ (c : Cursor) (j count : ℕ) (ec : count ≡ length (Sc.table_of S t).members)
      (inv : L.after_members o S (Sc.table_of S t).members L.begin ≡ L.after_members o S (drop j (Sc.table_of S t).members) c) where
    pub fixed_done : count ≤ j → c.end ≡ L.fixed_size o S (Sc.table_of S t).members
    unfolding L.fixed_size L.after_members
    fixed_done h =
        let l : length (Sc.table_of S t).members ≤ j = omega arith in
        sym (ap (λ (k : Cursor). k.end) (inv ∙ ap (λ (ms : List Member). L.after_members o S ms c) (drop_of_length-le (Sc.table_of S t).members l)))

    pub fixed_turn : j < count → (next : Cursor) → next ≡ L.after_member o S (Sc.member_of S t j) c
        → L.after_members o S (Sc.table_of S t).members L.begin ≡ L.after_members o S (drop (j + 1) (Sc.table_of S t).members) next
    unfolding L.after_members Sc.member_of
    fixed_turn h next en =
        let l : j < length (Sc.table_of S t).members = omega arith in
        inv ∙ ap (λ (ms : List Member). L.after_members o S ms c) (drop-cons (Sc.table_of S t).members j Sc.plain_bool l)
        ∙ ap (L.after_members o S (drop (suc j) (Sc.table_of S t).members)) (sym en)
        ∙ ap (λ (k : ℕ). L.after_members o S (drop k (Sc.table_of S t).members) next) (sym (add-one j))

pub laid_next : (c next : Cursor) (j : ℕ) (x : Slot) (y : Cursor) (slot : Slot) → Laid (4097 * j) c → Stands x y (c.end + 1) slot next → Laid (4097 * (j + 1)) next
laid_next c next j x y slot l st =
    let p = l.end in
    let q = st.laid in
    let e = q.end in
    record { end = omega arith; byte = q.byte; bit = q.bit }
