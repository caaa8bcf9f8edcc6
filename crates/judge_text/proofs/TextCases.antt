-- The test for a text, and of its bytes.
use Rattle.std.specs.Prelude.{Result, Ok, Err}
use mathlib.Core.Path.{◌≡◌, refl, sym, ap, ◌∙◌}
use mathlib.Core.Bool.{Bool, true, false}
use mathlib.Core.List.{List, []}
use Prim.Native.Nat.{ℕ}
use native.Mathlib.Omega.{arith}
use Rattle.coding.specs.Packed as P
use Rattle.coding.specs.Walk as W
use Rattle.coding.specs.Walk.{Walked}
use Rattle.coding.specs.declared.Object.{Object}
use Rattle.coding.specs.declared.Object.TheVariants as O
use Rattle.coding.specs.declared.Content.{Content}
use Rattle.coding.specs.declared.Spent.{Spent}
use Rattle.outcome.specs.Answers.{text_tested}
use Rattle.outcome.proofs.ArrivalCases.{text_entered}
use Rattle.message_object.specs.Fit.{test_bytes}
use Rattle.message_object.proofs.OpenCases.{tested_good, tested_bad}
use Rattle.judge_text.specs.Texts.{is_text}

pub text_only : (ob : Object) (t : Bool) → t ≡ is_text ob → t ≡ true → ob ≡ O.Text
unfolding is_text
text_only O.Text t e h = refl
text_only O.Bytes t e h = let z : ◌≡◌ {A = Bool} false true = sym e ∙ h in let y : ◌≡◌ {A = ℕ} 0 1 = cc in absurd (omega arith)
text_only (O.List i) t e h = let z : ◌≡◌ {A = Bool} false true = sym e ∙ h in let y : ◌≡◌ {A = ℕ} 0 1 = cc in absurd (omega arith)
text_only (O.Table i) t e h = let z : ◌≡◌ {A = Bool} false true = sym e ∙ h in let y : ◌≡◌ {A = ℕ} 0 1 = cc in absurd (omega arith)
text_only (O.DirectList i) t e h = let z : ◌≡◌ {A = Bool} false true = sym e ∙ h in let y : ◌≡◌ {A = ℕ} 0 1 = cc in absurd (omega arith)

-- ---- the test of its bytes
module _ (m : List ℕ) (holder start n : ℕ) (s : Spent) (x : Result (Unit {0}) ℕ) (ex : x ≡ test_bytes m O.Text start n) (r : Walked) where
  tested : (q : Result Content ℕ) → q ≡ W.bytes_tested m O.Text (Ok (W.content_at start n)) → W.enter W.too_deep 0 (P.parse []) m O.Text holder q s ≡ text_tested m holder start n s
  tested q e =
      ap (λ (k : Result Content ℕ). W.enter W.too_deep 0 (P.parse []) m O.Text holder k s) e
      ∙ sym (text_entered W.too_deep 0 (P.parse []) m holder start n s)

  pub text_bad : (k : ℕ) → x ≡ Err k → r ≡ W.refuse k holder s → r ≡ text_tested m holder start n s
  unfolding W.enter
  text_bad k z f = f ∙ tested (Err k) (tested_bad m O.Text (W.content_at start n) x ex k z)

  pub text_good : (u : Unit {0}) → x ≡ Ok u → r ≡ Ok s → r ≡ text_tested m holder start n s
  unfolding W.enter W.content
  text_good u z f = f ∙ tested (Ok (W.content_at start n)) (tested_good m O.Text (W.content_at start n) x ex u z)
