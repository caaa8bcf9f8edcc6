-- The pass over an object stores what the plan of its decoded tree says.
use Rattle.std.specs.Prelude.{◌≡◌, List, Bool, true, false}
use Rattle.std.proofs.Math.Path.{refl}
use Rattle.std.proofs.Common.{sym, ap, ◌∙◌}
use Prim.Native.Nat.{ℕ, zero, suc}
use Rattle.coding.specs.Schema.{Schema}
use Rattle.coding.specs.Sheet.{Parsed, fail, got, decode}
use Rattle.coding.specs.Message.{writable, plan}
use Rattle.coding.specs.declared.Object.{Object}
use Rattle.laws.specs.Sound.{Sound}
use Rattle.laws.specs.Lists.{never}
use Rattle.write_measure.specs.Survey.{survey}
use Rattle.write_measure.specs.Mapped.{mapped}
use Rattle.write_measure.specs.SurveyObjects.{extent_of, object_surveyed, survey_is}
use Rattle.write_store.specs.State.{State}
use Rattle.write_pass.specs.Emit.{emit_slots}
use Rattle.write_pass.specs.EmitSheet.{emit}
use Rattle.write_pass.specs.EmitParts.{content_emitted}

-- ---- what was got, through a function
abbrev pub is_got : {A : Type 0} → Parsed A → Bool
is_got fail = false
is_got (got a xs) = true

pub mapped_fail_is : {A B : Type 0} (f : A → B) (p : Parsed A) → mapped f p ≡ fail → p ≡ fail
mapped_fail_is f fail e = refl
mapped_fail_is f (got a xs) e = never (sym (ap is_got e))

-- ---- the pass over an object
module _ (o : ℕ) (S : Schema) (sound : Sound S) where
  pub emit_is : (d : ℕ) (ob : Object) (st : State) (xs : List ℕ) → emit d o S ob st xs ≡ mapped (λ v. emit_slots o st (plan d o S ob v)) (decode d S ob xs)
  unfolding emit decode plan
  emit_is zero ob st xs = refl
  emit_is (suc d) ob st xs =
      content_emitted o S sound (emit d o S) (survey d o S) (decode d S) (plan d o S) (writable d o S)
      (λ ob' ys. object_surveyed o S sound d ob' ys) (λ ob' st' ys. emit_is d ob' st' ys) ob st xs

  -- where the survey finds what is not lawful, so does the pass
  pub emit_fails : (d : ℕ) (ob : Object) (st : State) (xs : List ℕ) → survey d o S ob xs ≡ fail → emit d o S ob st xs ≡ fail
  emit_fails d ob st xs h =
      emit_is d ob st xs
      ∙ ap (mapped (λ v. emit_slots o st (plan d o S ob v))) (mapped_fail_is (extent_of o S sound d ob) (decode d S ob xs) (sym (survey_is o S sound d ob xs) ∙ h))
