use Rattle.std.proofs.Common.{◌≡◌, ℕ, Bool, true, false, refl, ◌∙◌, min, arith}
use lib.Dec.{leb}
use borrow.Author.Tests.{leb-true, leb-false}
use Rattle.bitio.specs.Puts.{saturated}
use Rattle.bitio.specs.PutsLaws.{count_in, count_over}
use Rattle.sheet_values.proofs.counted.Goals as goal

least : (n : ℕ) → min 134217721 n ≡ saturated n
least n = by (leb n 134217720) refl
  where
    by : (b : Bool) → leb n 134217720 ≡ b → min 134217721 n ≡ saturated n
    by true e =
        let l = leb-true n 134217720 e in
        let z : min 134217721 n ≡ n = omega arith in
        z ∙ count_in n l
    by false e =
        let l = leb-false n 134217720 e in
        let z : min 134217721 n ≡ 134217721 = omega arith in
        z ∙ count_over n l

pub returns : goal.returns
returns c = c.min.ensures ∙ least _
