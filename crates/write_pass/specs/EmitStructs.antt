-- A struct of the pass is its members in turn, each inner struct by its own index.
use Prim.Native.Nat.{ℕ, ◌<◌}
use Rattle.std.specs.Prelude.{◌≡◌}
use Rattle.std.proofs.Math.Path.{refl, ap}
use Rattle.std.proofs.Common.{◌∙◌}
use mathlib.Core.List.{List, [], ◌∷◌}
use Rattle.coding.specs.Schema.{Schema, struct_of}
use Rattle.coding.specs.Structs.{lower, by_index}
use Rattle.coding.specs.Sheet.{Parsed, bind}
use Rattle.coding.specs.declared.Flat.{Flat}
use Rattle.coding.specs.declared.Flat.TheVariants.{Boolean, Integer, Float, Enumerated, Struct}
use Rattle.laws.specs.Structs.{lower_is}
use Rattle.laws.specs.Sound.{All, FlatSound, Sound}
use Rattle.write_measure.specs.Mapped.{bind-same}
use Rattle.write_store.specs.State.{State}
use Rattle.write_pass.specs.EmitSheet.{emit_field, emit_fields, emit_by, emit_nothing, emit_struct}

module _ (i : ℕ) (f g : ℕ → State → List ℕ → Parsed State) (same : (j : ℕ) → j < i → f j ≡ g j) where
  field-same : (k : Flat) → FlatSound i k → (st : State) (xs : List ℕ) → emit_field f k st xs ≡ emit_field g k st xs
  unfolding emit_field
  field-same Boolean h st xs = refl
  field-same (Integer s w) h st xs = refl
  field-same (Float w) h st xs = refl
  field-same (Enumerated n) h st xs = refl
  field-same (Struct j) h st xs = ap (λ (k : State → List ℕ → Parsed State). k st xs) (same j h)

  fields-same : (ks : List Flat) → All (FlatSound i) ks → (st : State) (xs : List ℕ) → emit_fields f ks st xs ≡ emit_fields g ks st xs
  unfolding emit_fields bind
  fields-same [] h st xs = refl
  fields-same (k ∷ ks) h st xs =
      ap (λ p. bind p (λ u ys. emit_fields f ks u ys)) (field-same k h.0 st xs) ∙ bind-same (emit_field g k st xs) _ _ (λ u ys. fields-same ks h.1 u ys)

pub struct_is : (S : Schema) → Sound S → (i : ℕ) (st : State) (xs : List ℕ) → emit_struct S i st xs ≡ emit_fields (emit_struct S) (struct_of S i) st xs
unfolding emit_struct by_index emit_by
struct_is S sound i st xs =
    fields-same i (lower emit_nothing (emit_by S) i) (emit_struct S) (λ j h. lower_is emit_nothing (emit_by S) i j h) (struct_of S i)
    (sound.structs i).members st xs
