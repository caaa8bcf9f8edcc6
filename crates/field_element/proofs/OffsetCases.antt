-- The answer of an element that is an offset, which is followed at once.
use mathlib.Core.Path.{◌≡◌, refl, sym, ap, ◌∙◌, subst}
use mathlib.Core.Bool.{Bool, true, false}
use mathlib.Core.List.{List}
use Prim.Native.Nat.{ℕ, ◌+◌, ◌*◌, ◌^◌, ◌<◌, ◌≤◌}
use native.Mathlib.Omega.{arith}
use borrow.Author.Tests.{lt-ltb, le-ltb}
use lib.ListN.{length}
use lib.Dec.{eqb}
use Rattle.coding.specs.Lists.{pick}
use Rattle.coding.specs.Bytes.{le}
use Rattle.coding.specs.Schema as Sc
use Rattle.coding.specs.Schema.{Schema}
use Rattle.coding.specs.Packed as P
use Rattle.coding.specs.Layout as L
use Rattle.coding.specs.Step as T
use Rattle.coding.specs.Walk as W
use Rattle.coding.specs.Field as Field
use Rattle.coding.specs.declared.Object.{Object}
use Rattle.coding.specs.declared.Object.TheVariants as O
use Rattle.coding.specs.declared.Kind.{Kind}
use Rattle.coding.specs.declared.Kind.TheVariants.{OfObject}
use Rattle.coding.specs.declared.Place.TheVariants.{ByOffset}
use Rattle.coding.specs.declared.Step.TheVariants as St
use Rattle.coding.specs.declared.Answer.{Answer}
use Rattle.coding.specs.declared.Refusal.{Refusal}
use Rattle.coding.specs.declared.Answer.TheVariants as A
use Rattle.laws.specs.Sound.{ObjectSound, KindSound}
use Rattle.wire.specs.Products.{times-within}
use Rattle.wire.specs.Sizes.{WithinSize}
use Rattle.schema.specs.Directory.{Accepted, accepted_sound}
use Rattle.schema.specs.declared.held.Reading.{Reading}
use Rattle.schema.specs.Parsed.{parsed}
use Rattle.field_arrival.specs.declared.Arrival.{Arrival}
use Rattle.field_arrival.specs.Parts.{object_part_by}
use Rattle.field_element.specs.declared.list.Elements.{Elements}
use Rattle.field_element.specs.declared.list.Elements.TheVariants as E
use Rattle.field_element.specs.Elements.{object_of}
use Rattle.field_element.specs.Listed.{offset_gives}
use Rattle.field_element.proofs.ElementCases.{list_inside}

module _ (o : ℕ) (S : Schema) (m : List ℕ) (i at start n d j : ℕ) (r : Answer) where
  offset_answers : (ob : Object) (x : ℕ)
      → offset_gives d o S m ob x ≡ Field.answer_of (Field.stepped d o S m at j (OfObject ob) (T.struct_tested S m (T.object_step ob false 0 x)))
  unfolding offset_gives T.object_step T.place_of T.struct_tested Field.stepped Field.answer_of
  offset_answers ob x = by (eqb x 0)
    where
      by : (t : Bool) → pick t A.Absent (Field.answer_of (Field.arrived d o S m ob (ByOffset x)))
          ≡ Field.answer_of (Field.stepped d o S m at j (OfObject ob) (T.struct_tested S m (pick t St.Absent (St.Object ob (ByOffset x)))))
      by true = refl
      by false = refl

  element_offset : j < n → (k : Kind) → k ≡ Sc.element_of S i → (ob : Object) → k ≡ OfObject ob
      → r ≡ offset_gives d o S m ob (le m (start + o * j) o) → r ≡ Field.answer_of (Field.object_part o S m (O.List i) at start n d j)
  unfolding Field.object_part T.element_step T.element_place T.value_step L.width L.is_bool
  element_offset h k ek ob eo e =
      simp (lt-ltb _ _ h, ← ek, eo) (e ∙ offset_answers ob (le m (start + o * j) o))

-- of the elements that a list reader goes over
pub offset_listed : (r : Reading) (a : Arrival) (j : ℕ) (e : Elements) (i : ℕ) → e ≡ E.List i → j < a.length → (k : Kind) → k ≡ Sc.element_of (parsed r.schema) i
    → (ob : Object) → k ≡ OfObject ob → (g : Answer)
    → g ≡ offset_gives a.left r.schema.width (parsed r.schema) r.message.now ob (le r.message.now (a.start + r.schema.width * j) r.schema.width)
    → g ≡ Field.answer_of (object_part_by r (object_of e) a j)
offset_listed r a j e i z h k ek ob eo g q =
    element_offset r.schema.width (parsed r.schema) r.message.now i a.place a.start a.length a.left j g h k ek ob eo q
    ∙ ap (λ (x : Elements). Field.answer_of (object_part_by r (object_of x) a j)) (sym z)

-- behind the last element
pub past_listed : (r : Reading) (a : Arrival) (j : ℕ) (e : Elements) (i : ℕ) → e ≡ E.List i → a.length ≤ j → (q : Refusal) → q ≡ W.refusal 15 a.place
    → A.Refused q ≡ Field.answer_of (object_part_by r (object_of e) a j)
unfolding Field.object_part Field.no_part Field.answer_of
past_listed r a j e i z h q eq = rw z (simp (le-ltb _ _ h) (ap A.Refused eq))

-- the offset stands in the message
module _ (o : ℕ) (S : Schema) (m : List ℕ) (i start n j : ℕ) (h : start + T.elements_size o S (Sc.element_of S i) n ≤ length m) (l : j < n) where
  pub offset_fits : (k : Kind) → k ≡ Sc.element_of S i → (ob : Object) → k ≡ OfObject ob → start + o * j + o ≤ length m
  unfolding T.elements_size L.width L.is_bool
  offset_fits k ek ob eo =
      let z : start + o * n ≤ length m = subst (λ (q : Kind). start + T.elements_size o S q n ≤ length m) (sym ek ∙ eo) h in omega (arith, times-within o j n l)

-- and its place is a small number
module _ (o : ℕ) (S : Schema) (m : List ℕ) (e : Elements) (a : Arrival) (h : a.start + W.content_size o S m (object_of e) a.place a.length ≤ length m)
    (size : WithinSize m) (i j : ℕ) (z : e ≡ E.List i) (l : j < a.length) (k : Kind) (ek : k ≡ Sc.element_of S i) (ob : Object) (eo : k ≡ OfObject ob) where
  pub offset_there : a.start + o * j + o ≤ length m
  offset_there = offset_fits o S m i a.start a.length j (list_inside o S m e a h i i z refl) l k ek ob eo

  pub offset_steps : o * j < 2 ^ 64
  offset_steps = omega (arith, offset_there, size)

  pub offset_start : a.start + o * j < 2 ^ 64
  offset_start = omega (arith, offset_there, size)

pub offset_sound : (b dir : List ℕ) → Accepted b dir → (i : ℕ) (k : Kind) → k ≡ Sc.element_of (P.parse b) i → (ob : Object) → k ≡ OfObject ob
    → ObjectSound (P.parse b) ob
offset_sound b dir a i k ek ob eo = subst (KindSound (P.parse b)) (sym ek ∙ eo) ((accepted_sound b dir a).lists i).kind
