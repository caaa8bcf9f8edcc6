-- "texts and bytes can be had as a part of the message": there is a part exactly where the field's answer is a text or bytes, and
-- it has the answer's length. Which bytes they are on an accepted message is said in Fields.
-- `o` is the width of an offset in bytes.
use Rattle.std.specs.Prelude.{◌≡◌, refl, List, ◌⊎◌, ℕ, Some}
use Rattle.std.proofs.Common.{sym, ap, ◌∙◌, inl, inr, arith}
use Rattle.std.proofs.lemmas.Option.{none-some}
use Rattle.coding.specs.Field as Field
use Rattle.coding.specs.Field.{field_found, field, field_span}
use Rattle.coding.specs.Walk.{content_at}
use Rattle.coding.specs.declared.Content.{Content}
use Rattle.coding.specs.declared.Flat.{Flat}
use Rattle.coding.specs.declared.Flat.TheVariants as F
use Rattle.coding.specs.declared.Kind.{Kind}
use Rattle.coding.specs.declared.Kind.TheVariants.{OfFlat, OfObject, OfUnion}
use Rattle.coding.specs.declared.Object.{Object}
use Rattle.coding.specs.declared.Object.TheVariants as O
use Rattle.coding.specs.declared.Found.{Found}
use Rattle.coding.specs.declared.Found.TheVariants as Fd
use Rattle.coding.specs.declared.Answer.TheVariants as A

-- the record kinds of text and bytes
abbrev pub IsText : ℕ → Type 0
IsText k = (k ≡ 13) ⊎ (k ≡ 14)

nothing : {X : Type 0} → ◌≡◌ {A = ℕ} 0 1 → X
nothing z = absurd (omega arith)

no_text : (k : ℕ) → k ≡ 15 → IsText k → ⊥
no_text k e (inl f) = omega arith
no_text k e (inr f) = omega arith

no-text-table : (k : ℕ) → k ≡ 16 → IsText k → ⊥
no-text-table k e (inl f) = omega arith
no-text-table k e (inr f) = omega arith

no-text-direct : (k : ℕ) → k ≡ 18 → IsText k → ⊥
no-text-direct k e (inl f) = omega arith
no-text-direct k e (inr f) = omega arith

-- ---- where there is a part, the answer is a text or bytes
object_there : (ob : Object) (start n : ℕ) (c : Content) → Field.object_span ob start n ≡ Some c
    → IsText (Field.record_kind ob) × (c.length ≡ n)
unfolding Field.object_span Field.record_kind
object_there O.Text start n c h = (inl refl, cc)
object_there O.Bytes start n c h = (inr refl, cc)
object_there (O.List i) start n c h = absurd (none-some c h)
object_there (O.Table i) start n c h = absurd (none-some c h)
object_there (O.DirectList t) start n c h = absurd (none-some c h)

found_there : (f : Found) (c : Content) → Field.found_span f ≡ Some c
    → (k at : ℕ) × (Field.answer_of f ≡ A.Object k at c.length) × IsText k
unfolding Field.found_span Field.answer_of
found_there (Fd.Refused r) c h = absurd (none-some c h)
found_there Fd.Absent c h = absurd (none-some c h)
found_there (Fd.Unknown x) c h = absurd (none-some c h)
found_there (Fd.Value k x holder) c h = absurd (none-some c h)
found_there (Fd.Struct i at holder) c h = absurd (none-some c h)
found_there (Fd.Object ob at start n d) c h =
    let y = object_there ob start n c h in
    (Field.record_kind ob, at, ap (A.Object (Field.record_kind ob) at) (sym y.1), y.0)

-- ---- where the answer is a text or bytes, there is a part
object-text : (ob : Object) (start n k : ℕ) → Field.record_kind ob ≡ k → IsText k
    → Field.object_span ob start n ≡ Some (content_at start n)
unfolding Field.object_span Field.record_kind
object-text O.Text start n k e t = refl
object-text O.Bytes start n k e t = refl
object-text (O.List i) start n k e t = absurd (no_text k (sym e) t)
object-text (O.Table i) start n k e t = absurd (no-text-table k (sym e) t)
object-text (O.DirectList r) start n k e t = absurd (no-text-direct k (sym e) t)

flat-object : (f : Flat) (x k at n : ℕ) → Field.flat_answer f x ≡ A.Object k at n → ◌≡◌ {A = ℕ} 0 1
unfolding Field.flat_answer
flat-object F.Boolean x k at n e = cc
flat-object (F.Integer s w) x k at n e = cc
flat-object (F.Float w) x k at n e = cc
flat-object (F.Enumerated c) x k at n e = cc
flat-object (F.Struct i) x k at n e = cc

pub value-object : (q : Kind) (x k at n : ℕ) → Field.value_answer q x ≡ A.Object k at n → ◌≡◌ {A = ℕ} 0 1
unfolding Field.value_answer
value-object (OfFlat f) x k at n e = flat-object f x k at n e
value-object (OfObject ob) x k at n e = cc
value-object (OfUnion i) x k at n e = cc

found-text : (f : Found) (k at n : ℕ) → Field.answer_of f ≡ A.Object k at n → IsText k
    → (start : ℕ) × (Field.found_span f ≡ Some (content_at start n))
unfolding Field.found_span Field.answer_of
found-text (Fd.Refused r) k at n e t = nothing (cc)
found-text Fd.Absent k at n e t = nothing (cc)
found-text (Fd.Unknown x) k at n e t = nothing (cc)
found-text (Fd.Value q x holder) k at n e t = nothing (value-object q x k at n e)
found-text (Fd.Struct i p holder) k at n e t = nothing (cc)
found-text (Fd.Object ob p start z d) k at n e t =
    let a : Field.record_kind ob ≡ k = cc in
    let b : z ≡ n = cc in
    (start, object-text ob start z k a t ∙ ap (λ (length : ℕ). Some (content_at start length)) b)

-- THE CLAIM
module _ (o : ℕ) (b m path : List ℕ) where
  pub part_answers : (c : Content) → field_span o b m path ≡ Some c
      → (k at : ℕ) × (field o b m path ≡ A.Object k at c.length) × IsText k
  unfolding field field_span
  part_answers c h = found_there (field_found o b m path) c h

  pub text-part : (k at n : ℕ) → field o b m path ≡ A.Object k at n → IsText k
      → (start : ℕ) × (field_span o b m path ≡ Some (content_at start n))
  unfolding field field_span
  text-part k at n e t = found-text (field_found o b m path) k at n e t
