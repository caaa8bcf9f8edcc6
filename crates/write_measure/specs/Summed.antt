-- Extents as sums of bytes, cut at one past the size.
use Rattle.std.specs.Prelude.{◌≡◌, refl, Bool, true, false, ◌&&◌, List, ℕ, suc, ◌+◌, ◌≤◌, ◌<◌, ltb, leb}
use Rattle.std.proofs.Common.{sym, ap, ap₂, ◌∙◌, arith, le-leb, leb-true, leb-false}
use Rattle.std.proofs.lemmas.Bool.{lt-leb}
use Rattle.coding.specs.Lists.{pick}
use Rattle.coding.specs.Bytes.{largest}
use Rattle.coding.specs.Message.{keeps_unions}
use Rattle.write_text.specs.Texts.{blob_fine}
use Rattle.write_measure.specs.Survey.{capped, head_size, plain, opened, blob_opened, joined, referred}
use Rattle.write_measure.specs.declared.Extent.{Extent}

-- ---- the cut count
pub capped_in : (n : ℕ) → n ≤ largest → capped n ≡ n
unfolding capped
capped_in n h = simp (le-leb n largest h)

pub capped_over : (n : ℕ) → largest < n → capped n ≡ suc largest
unfolding capped
capped_over n h = simp (lt-leb n largest h)

pub capped_most : (n : ℕ) → capped n ≤ suc largest
unfolding capped
capped_most n = by (leb n largest) refl
  where
    by : (t : Bool) → leb n largest ≡ t → pick t n (suc largest) ≤ suc largest
    by true e = omega (arith, leb-true n largest e)
    by false e = omega arith

-- cut or not, the sum is cut in the same place
pub capped_left : (n k : ℕ) → capped (capped n + k) ≡ capped (n + k)
capped_left n k = by (leb n largest) refl
  where
    by : (t : Bool) → leb n largest ≡ t → capped (capped n + k) ≡ capped (n + k)
    by true e = ap (λ (x : ℕ). capped (x + k)) (capped_in n (leb-true n largest e))
    by false e =
        let h = leb-false n largest e in
        let c = capped_over n h in
        capped_over (capped n + k) (omega arith) ∙ sym (capped_over (n + k) (omega arith))

pub capped-right : (n k : ℕ) → capped (n + capped k) ≡ capped (n + k)
capped-right n k =
    let a : n + capped k ≡ capped k + n = omega arith in
    let b : k + n ≡ n + k = omega arith in
    ap capped a ∙ capped_left k n ∙ ap capped b

pub capped-both : (n k : ℕ) → capped (capped n + capped k) ≡ capped (n + k)
capped-both n k = capped_left n (capped k) ∙ capped-right n k

-- ---- extents
abbrev pub summed : Bool → ℕ → ℕ → ℕ → ℕ → Extent
summed t n w x y = record { writable = t; length = n; width = w; chain = capped x; below = capped y }

capped-zero : capped 0 ≡ 0
capped-zero = capped_in 0 (unfold largest in omega arith)

sum_same : (t u : Bool) (n w a b c d : ℕ) → t ≡ u → a ≡ b → c ≡ d
    → ◌≡◌ {A = Extent} (record { writable = t; length = n; width = w; chain = a; below = c }) (record { writable = u; length = n; width = w; chain = b; below = d })
sum_same t u n w a b c d e f g =
    ap (λ (p : Bool). record { writable = p; length = n; width = w; chain = a; below = c }) e
    ∙ ap₂ (λ (p q : ℕ). record { writable = u; length = n; width = w; chain = p; below = q }) f g

pub plain-summed : (t : Bool) → plain t ≡ summed t 0 0 0 0
unfolding plain
plain-summed t = sum_same t t 0 0 0 (capped 0) 0 (capped 0) refl (sym capped-zero) (sym capped-zero)

pub opened-summed : (n w : ℕ) → opened n w ≡ summed true n w 0 0
unfolding opened
opened-summed n w = sum_same true true n w 0 (capped 0) 0 (capped 0) refl (sym capped-zero) (sym capped-zero)

pub blob-summed : (more n : ℕ) (l : List ℕ) → blob_opened more n l ≡ summed (blob_fine more l) n (n + more) 0 0
unfolding blob_opened
blob-summed more n l =
    sum_same (blob_fine more l) (blob_fine more l) n (n + more) 0 (capped 0) 0 (capped 0) refl (sym capped-zero) (sym capped-zero)

pub joined-summed : (t u : Bool) (n w x y n' w' x' y' : ℕ)
    → joined (summed t n w x y) (summed u n' w' x' y') ≡ summed (t && u) n w (x + x') (y + y')
unfolding joined
joined-summed t u n w x y n' w' x' y' =
    sum_same (t && u) (t && u) n w (capped (capped x + capped x')) (capped (x + x')) (capped (capped y + capped y')) (capped (y + y'))
    refl (capped-both x x') (capped-both y y')

-- what an object adds, by offset or in place
abbrev pub refer_chain : Bool → ℕ → ℕ → ℕ
refer_chain inplace w x = pick inplace (w + x) 0

abbrev pub refer_below : ℕ → Bool → ℕ → ℕ → ℕ → ℕ
refer_below o inplace w x y = pick inplace y (head_size o + w + x + y)

abbrev pub refer_fine : ℕ → Bool → Bool → ℕ → Bool → Bool
refer_fine o inplace union n t = pick inplace (pick union (keeps_unions o) (ltb 0 n) && t) t

pub referred-summed : (o : ℕ) (inplace union t : Bool) (n w x y : ℕ)
    → referred o inplace union (summed t n w x y) ≡ summed (refer_fine o inplace union n t) 0 0 (refer_chain inplace w x) (refer_below o inplace w x y)
unfolding referred
referred-summed o true union t n w x y =
    sum_same (pick union (keeps_unions o) (ltb 0 n) && t) (pick union (keeps_unions o) (ltb 0 n) && t) 0 0 (capped (w + capped x)) (capped (w + x)) (capped y) (capped y)
    refl (capped-right w x) refl
referred-summed o false union t n w x y =
    let a = head_size o + w in
    let e : a + capped x + capped y ≡ capped x + (a + capped y) = omega arith in
    let f : x + (a + capped y) ≡ x + a + capped y = omega arith in
    let g : x + a + y ≡ a + x + y = omega arith in
    sum_same t t 0 0 0 (capped 0) (capped (a + capped x + capped y)) (capped (a + x + y)) refl (sym capped-zero)
    (ap capped e ∙ capped_left x (a + capped y) ∙ ap capped f ∙ capped-right (x + a) y ∙ ap capped g)
