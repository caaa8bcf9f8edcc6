-- A part of a slice: its bits, its bytes got, and the part replaced.
use Rattle.std.specs.Prelude.{◌≡◌, List, ◌++◌, ℕ, ◌+◌, ◌*◌, ◌≤◌, length, get_or, take, drop}
use Rattle.std.proofs.Common.{sym, ap, ◌∙◌, Fits, w8, arith, length-drop, length-take-le, take-append-drop}
use borrow.Rule.Slice.PartMut.{put_mid}
use Rattle.coding.specs.Bits.{bits}
use Rattle.laws.specs.All.{all_take, all_drop, all_index}
use Rattle.laws.specs.Bits.{Byte, bits-length, bits-append}
use Rattle.laws.specs.BitLists.{bits-drop}
use Rattle.laws.specs.Sound.{All}
use Rattle.bitio.specs.Splice.{splice}
use Rattle.bitio.specs.SpliceLaws.{splice_at}

module _ (s : List ℕ) (i n : ℕ) (h : i + n ≤ length s) where
  abbrev part : List ℕ
  part = take n (drop i s)

  abbrev rest : List ℕ
  rest = drop n (drop i s)

  pub part-length : length part ≡ n
  part-length = length-take-le n (drop i s) (omega (arith, length-drop i s))

  pub part-bits : drop (8 * i) (bits s) ≡ bits part ++ bits rest
  part-bits = sym (bits-drop i s) ∙ ap bits (sym (take-append-drop n (drop i s))) ∙ bits-append part rest

  -- the part replaced
  pub part_put : (ys : List ℕ) → length ys ≡ n → bits (put_mid i n s ys) ≡ splice (bits s) (8 * i) (bits ys)
  part_put ys e =
      let front : length (bits (take i s)) ≡ 8 * i = bits-length (take i s) ∙ ap (λ (k : ℕ). 8 * k) (length-take-le i s (omega arith)) in
      let middle : length (bits part) ≡ length (bits ys) = bits-length part ∙ ap (λ (k : ℕ). 8 * k) (part-length ∙ sym e) ∙ sym (bits-length ys) in
      let all : bits s ≡ bits (take i s) ++ (bits part ++ bits rest) =
      ap bits (sym (take-append-drop i s)) ∙ bits-append (take i s) (drop i s) ∙ ap (λ (l : List ℕ). bits (take i s) ++ l) (bits-drop i s ∙ part-bits) in
      bits-append (take i s) (ys ++ rest)
      ∙ ap (λ (l : List ℕ). bits (take i s) ++ l) (bits-append ys rest)
      ∙ sym (splice_at (bits (take i s)) (bits part) (bits rest) (bits ys) (8 * i) front middle)
      ∙ ap (λ (l : List ℕ). splice l (8 * i) (bits ys)) (sym all)

  module _ (bytes : (k : ℕ) → Fits w8 (get_or s k 0)) where
    pub part_all : All Byte part
    part_all = all_take Byte n (drop i s) (all_drop Byte i s (all_index Byte 0 s (λ k. (bytes k).fits)))
