-- A text as a part of the message: it lies within it, and its bytes.
use Rattle.std.specs.Prelude.{Option, Some, None, IfSome}
use mathlib.Core.Path.{◌≡◌, sym, ap, ◌∙◌, subst}
use mathlib.Core.List.{List, []}
use Prim.Native.Nat.{ℕ, ◌+◌, ◌-◌, ◌≤◌}
use native.Mathlib.Omega.{arith}
use lib.ListN.{length, take, drop}
use Rattle.coding.specs.Schema.{Schema}
use Rattle.coding.specs.Walk as W
use Rattle.coding.specs.Field as Field
use Rattle.coding.specs.declared.Object.{Object}
use Rattle.coding.specs.declared.Object.TheVariants as O
use Rattle.coding.specs.declared.Found.{Found}
use Rattle.coding.specs.declared.Found.TheVariants as Fd
use Rattle.coding.specs.declared.Content.{Content}
use Rattle.field_arrival.specs.Within.{FoundWithin}

-- ---- where it stands
module _ (o : ℕ) (S : Schema) (m : List ℕ) where
  object-inside : (ob : Object) (at start n : ℕ) → start + W.content_size o S m ob at n ≤ length m → IfSome (Field.object_span ob start n) (λ c. c.start + c.length ≤ length m)
  unfolding Field.object_span W.content_size
  object-inside O.Text at start n h = omega arith
  object-inside O.Bytes at start n h = h
  object-inside (O.List i) at start n h = tt
  object-inside (O.Table i) at start n h = tt
  object-inside (O.DirectList t) at start n h = tt

  found_inside : (f : Found) → FoundWithin o S m f → IfSome (Field.found_span f) (λ c. c.start + c.length ≤ length m)
  unfolding Field.found_span
  found_inside (Fd.Refused r) h = tt
  found_inside Fd.Absent h = tt
  found_inside (Fd.Unknown x) h = tt
  found_inside (Fd.Value k x holder) h = tt
  found_inside (Fd.Struct i at holder) h = tt
  found_inside (Fd.Object ob at start n d) h = object-inside ob at start n h.1

  pub span-inside : (f : Found) → FoundWithin o S m f → (r : Option Content) → r ≡ Field.found_span f → IfSome r (λ c. c.start + c.length ≤ length m)
  span-inside f h r e = subst (λ (x : Option Content). IfSome x (λ c. c.start + c.length ≤ length m)) (sym e) (found_inside f h)

-- ---- its bytes
module _ (o : ℕ) (b m path : List ℕ) where
  pub text-part : (c : Content) → Some c ≡ Field.field_span o b m path → take (c.start + c.length - c.start) (drop c.start m) ≡ Field.field_text o b m path
  unfolding Field.field_text Field.text_of
  text-part c e =
      let z : c.start + c.length - c.start ≡ c.length = omega arith in
      ap (λ (k : ℕ). take k (drop c.start m)) z ∙ ap (Field.text_of m) e

  pub text_none : None ≡ Field.field_span o b m path → [] ≡ Field.field_text o b m path
  unfolding Field.field_text Field.text_of
  text_none e = ap (Field.text_of m) e
