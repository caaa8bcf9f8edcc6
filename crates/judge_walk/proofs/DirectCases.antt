-- The elements of a direct list, from one of them on.
use Rattle.std.specs.Prelude.{Ok}
use mathlib.Core.Path.{◌≡◌, sym, ap, ◌∙◌, subst}
use mathlib.Core.List.{List}
use Prim.Native.Nat.{ℕ, suc, ◌+◌, ◌-◌, ◌*◌, ◌^◌, ◌<◌, ◌≤◌}
use native.Mathlib.Nat.{mul_comm}
use native.Mathlib.Omega.{arith}
use Rattle.coding.specs.Packed as P
use Rattle.coding.specs.Walk as W
use Rattle.coding.specs.Walk.{Walked}
use Rattle.coding.specs.declared.Object.{Object}
use Rattle.coding.specs.declared.Object.TheVariants as O
use Rattle.coding.specs.declared.Place.TheVariants.{InPlace}
use Rattle.coding.specs.declared.Spent.{Spent}
use Rattle.laws.specs.Sound.{ObjectSound}
use Rattle.outcome.specs.declared.Outcome.{Outcome}
use Rattle.outcome.specs.Answers.{walked_of, left_of}
use Rattle.outcome.proofs.AnswerCases.{goes, stops}
use Rattle.judge_text.proofs.ElementCases.{value_there}

-- ---- from element j on
module _ (child : W.Child) (t w n start : ℕ) (s : Spent) where
  pub directs_start : W.directs child t w n start s ≡ W.directs child t w (n - 0) start s
  directs_start =
      let z : n ≡ n - 0 = omega arith in
      ap (λ (l : ℕ). W.directs child t w l start s) z

  module _ (j at : ℕ) (v : Spent) (inv : W.directs child t w n start s ≡ W.directs child t w (n - j) at v) where
    pub directs_done : n ≤ j → (r : Walked) → r ≡ Ok v → r ≡ W.directs child t w n start s
    unfolding W.directs
    directs_done h r f =
        let z : n - j ≡ 0 = omega arith in
        f ∙ sym (inv ∙ ap (λ (l : ℕ). W.directs child t w l at v) z)

    module _ (h : j < n) (g : Outcome) (eg : walked_of g ≡ child (O.Table t) (InPlace at w) v) where
      abbrev rest : Spent → Walked
      rest = W.directs child t w (n - (j + 1)) (at + w)

      turned : W.directs child t w n start s ≡ W.and_then (walked_of g) rest
      unfolding W.directs
      turned =
          let z : n - j ≡ suc (n - (j + 1)) = omega arith in
          inv ∙ ap (λ (l : ℕ). W.directs child t w l at v) z ∙ ap (λ (q : Walked). W.and_then q rest) (sym eg)

      pub directs_stopped : (g.code ≡ 0 → ⊥) → walked_of g ≡ W.directs child t w n start s
      directs_stopped f = sym (turned ∙ stops g rest f)

      pub directs_turn : g.code ≡ 0 → W.directs child t w n start s ≡ W.directs child t w (n - (j + 1)) (at + w) (left_of g)
      directs_turn f = turned ∙ goes g rest f

-- ---- the size that the header gives
pub directs_sized : (child : W.Child) (o : ℕ) (m : List ℕ) (holder t w n start : ℕ) (s : Spent) → w ≡ W.element_size o m holder → (r : Walked) → r ≡ W.directs child t w n start s
    → r ≡ W.directs child t (W.element_size o m holder) n start s
directs_sized child o m holder t w n start s e r f = f ∙ ap (λ (k : ℕ). W.directs child t k n start s) e

-- ---- where they stand
pub directs_there : (o : ℕ) (m : List ℕ) (holder w start n c : ℕ) → w ≡ W.element_size o m holder → start + n * W.element_size o m holder ≤ c → start + w * n ≤ c
directs_there o m holder w start n c e h = let k : start + n * w ≤ c = subst (λ (i : ℕ). start + n * i ≤ c) (sym e) h in omega (arith, mul_comm w n)

pub direct-place : (w start n j at c : ℕ) → at ≡ start + w * j → j < n → start + w * n ≤ c → c ≤ 16777215 → at < 2 ^ 48
direct-place w start n j at c e h l small = let k = value_there w start n j at c e h l in omega arith

pub direct-size : (w : ℕ) → w < 2 ^ 32 → w < 2 ^ 48
direct-size w h = omega arith

-- ---- the table of the elements
pub direct-table : (b : List ℕ) (t : ℕ) → ObjectSound (P.parse b) (O.DirectList t) → ObjectSound (P.parse b) (O.Table t)
direct-table b t h = h.table

pub direct_sound : (b : List ℕ) (ob : Object) (t : ℕ) → ObjectSound (P.parse b) ob → ob ≡ O.DirectList t → ObjectSound (P.parse b) (O.DirectList t)
direct_sound b ob t h e = subst (ObjectSound (P.parse b)) e h

pub direct-held : (o : ℕ) (b m : List ℕ) (ob : Object) (t holder start n c : ℕ) → ob ≡ O.DirectList t → start + W.content_size o (P.parse b) m ob holder n ≤ c
    → start + n * W.element_size o m holder ≤ c
unfolding W.content_size
direct-held o b m ob t holder start n c e h = subst (λ (y : Object). start + W.content_size o (P.parse b) m y holder n ≤ c) e h
