-- A text or bytes that is referred to, or stands in place: the survey of such an object without the walk to it.
use Rattle.std.specs.Prelude.{◌≡◌, Bool, List}
use Rattle.std.proofs.Math.Path.{refl}
use Rattle.std.proofs.Common.{ap, ◌∙◌, arith}
use Prim.Native.Nat.{ℕ, zero, suc, ◌<◌}
use Rattle.coding.specs.Schema.{Schema}
use Rattle.coding.specs.Sheet.{Parsed, fail, got, bind}
use Rattle.coding.specs.declared.Object.{Object}
use Rattle.coding.specs.declared.Object.TheVariants as O
use Rattle.write_measure.specs.Survey.{referred, survey_object, survey_blob, survey_content, survey}
use Rattle.write_measure.specs.declared.Extent.{Extent}

-- a text or bytes with `more` bytes behind its own, where d objects may stand below each other, this one counted
unfoldable pub blob_referred : ℕ → ℕ → Bool → Bool → ℕ → List ℕ → Parsed Extent
blob_referred zero o inplace union more xs = fail
blob_referred (suc d) o inplace union more xs = bind (survey_blob more xs) (λ e ys. got (referred o inplace union e) ys)

-- the number of bytes behind its own says which object it is
pub record BlobEnd (ob : Object) (more : ℕ) : Type 0 where
  pub bytes : more ≡ 0 → ob ≡ O.Bytes
  pub text : more ≡ 1 → ob ≡ O.Text

module _ (o : ℕ) (S : Schema) (inplace union : Bool) (xs : List ℕ) where
  text_is : (d : ℕ) → survey_object (survey d o S) o inplace union O.Text xs ≡ blob_referred d o inplace union 1 xs
  unfolding survey_object survey survey_content blob_referred bind
  text_is zero = refl
  text_is (suc d) = refl

  bytes_is : (d : ℕ) → survey_object (survey d o S) o inplace union O.Bytes xs ≡ blob_referred d o inplace union 0 xs
  unfolding survey_object survey survey_content blob_referred bind
  bytes_is zero = refl
  bytes_is (suc d) = refl

  pub blob_is : (d : ℕ) (ob : Object) (more : ℕ) → BlobEnd ob more → more < 2 → survey_object (survey d o S) o inplace union ob xs ≡ blob_referred d o inplace union more xs
  blob_is d ob zero b h = ap (λ (q : Object). survey_object (survey d o S) o inplace union q xs) (b.bytes refl) ∙ bytes_is d
  blob_is d ob (suc zero) b h = ap (λ (q : Object). survey_object (survey d o S) o inplace union q xs) (b.text refl) ∙ text_is d
  blob_is d ob (suc (suc n)) b h = absurd (omega arith)
