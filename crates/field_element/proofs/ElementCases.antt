-- The elements that a list reader goes over, and where they stand.
use Rattle.std.specs.Prelude.{Option, Some, None}
use mathlib.Core.Path.{◌≡◌, refl, sym, ap, ◌∙◌, subst}
use mathlib.Core.Bool.{Bool, true, false}
use mathlib.Core.List.{List}
use Prim.Native.Nat.{ℕ, ◌+◌, ◌*◌, ◌<◌, ◌≤◌}
use lib.ListN.{length}
use Rattle.coding.specs.Lists.{pick}
use Rattle.coding.specs.Schema.{Schema, element_of}
use Rattle.coding.specs.Packed as P
use Rattle.coding.specs.Walk as W
use Rattle.coding.specs.Field as Field
use Rattle.coding.specs.Step as T
use Rattle.coding.specs.declared.Object.{Object}
use Rattle.coding.specs.declared.Object.TheVariants as O
use Rattle.coding.specs.declared.Found.{Found}
use Rattle.coding.specs.declared.Found.TheVariants as Fd
use Rattle.laws.specs.Sound.{ObjectSound}
use Rattle.schema.specs.Directory.{Accepted}
use Rattle.field_arrival.specs.Within.{Readable, FoundShort, within_short}
use Rattle.field_part.proofs.FoundsWithin.{element-found-within, direct-found-within}
use Rattle.schema.specs.declared.held.Reading.{Reading}
use Rattle.field_arrival.specs.declared.Arrival.{Arrival}
use Rattle.field_arrival.specs.Parts.{object_part_by}
use Rattle.field_element.specs.declared.list.Elements.{Elements}
use Rattle.field_element.specs.declared.list.Elements.TheVariants as E
use Rattle.field_element.specs.Elements.{object_of, elements_of}
use Rattle.field_element.specs.Listed.{object_found}

-- ---- an object that has elements is the list of them
list-is : (S : Schema) (ob : Object) (e : Elements) (a : Arrival) → Some e ≡ elements_of S ob
    → object_found (object_of e) a ≡ Field.list_found S ob a.place a.start a.length a.left
unfolding Field.list_found Field.before
list-is S O.Text e a h = cc
list-is S O.Bytes e a h = cc
list-is S (O.List i) e a h = by (Field.leads (element_of S i)) h
  where
    by : (t : Bool) → Some e ≡ pick t (Some (E.List i)) None
        → object_found (object_of e) a ≡ pick t (Fd.Object (O.List i) a.place a.start a.length a.left) (Fd.Refused (W.refusal 15 0))
    by true q = let z : e ≡ E.List i = cc in ap (λ (x : Elements). object_found (object_of x) a) z
    by false q = cc
list-is S (O.Table i) e a h = cc
list-is S (O.DirectList t) e a h = let z : e ≡ E.Direct t = cc in ap (λ (x : Elements). object_found (object_of x) a) z

no_list : (S : Schema) (ob : Object) (a : Arrival) → None ≡ elements_of S ob → Fd.Refused (W.refusal 15 0) ≡ Field.list_found S ob a.place a.start a.length a.left
unfolding Field.list_found Field.before
no_list S O.Text a h = refl
no_list S O.Bytes a h = refl
no_list S (O.List i) a h = by (Field.leads (element_of S i)) h
  where
    by : (t : Bool) → None ≡ pick t (Some (E.List i)) None
        → Fd.Refused (W.refusal 15 0) ≡ pick t (Fd.Object (O.List i) a.place a.start a.length a.left) (Fd.Refused (W.refusal 15 0))
    by true q = cc
    by false q = refl
no_list S (O.Table i) a h = refl
no_list S (O.DirectList t) a h = cc

module _ (S : Schema) (ob : Object) (h : Option Elements) (is : h ≡ elements_of S ob) (a : Arrival) where
  pub found-list : (e : Elements) → h ≡ Some e → object_found (object_of e) a ≡ Field.list_found S ob a.place a.start a.length a.left
  found-list e q = list-is S ob e a (sym q ∙ is)

  pub found-none : h ≡ None → Fd.Refused (W.refusal 15 0) ≡ Field.list_found S ob a.place a.start a.length a.left
  found-none q = no_list S ob a (sym q ∙ is)

-- ---- the elements of a list lie in the message
module _ (o : ℕ) (S : Schema) (m : List ℕ) (e : Elements) (a : Arrival) (h : a.start + W.content_size o S m (object_of e) a.place a.length ≤ length m) where
  pub list_inside : (i k : ℕ) → e ≡ E.List i → k ≡ i → a.start + T.elements_size o S (element_of S k) a.length ≤ length m
  unfolding W.content_size
  list_inside i k z q =
      subst (λ (x : Elements). a.start + W.content_size o S m (object_of x) a.place a.length ≤ length m) (z ∙ ap E.List (sym q)) h

  pub direct_inside : (t : ℕ) → e ≡ E.Direct t → a.start + a.length * W.element_size o m a.place ≤ length m
  unfolding W.content_size
  direct_inside t z = subst (λ (x : Elements). a.start + W.content_size o S m (object_of x) a.place a.length ≤ length m) z h

-- ---- what stands at one of them
module _ (r : Reading) (e : Elements) (a : Arrival) (j : ℕ) (g : Found) where
  pub at_list : (i k : ℕ) → e ≡ E.List i → k ≡ i → g ≡ object_part_by r (O.List k) a j → g ≡ object_part_by r (object_of e) a j
  at_list i k z q h = h ∙ ap (λ (x : Elements). object_part_by r (object_of x) a j) (ap E.List q ∙ sym z)

  pub at_direct : (t : ℕ) → e ≡ E.Direct t → g ≡ object_part_by r (O.DirectList t) a j → g ≡ object_part_by r (object_of e) a j
  at_direct t z h = h ∙ ap (λ (x : Elements). object_part_by r (object_of x) a j) (sym z)

-- a value is short
module _ (o : ℕ) (b dir m : List ℕ) (most : o ≤ 6) (accepted : Accepted b dir) (readable : Readable m) (at start n d j : ℕ) (g : Found) where
  pub list_short : (i : ℕ) → start + T.elements_size o (P.parse b) (element_of (P.parse b) i) n ≤ length m
      → g ≡ Field.object_part o (P.parse b) m (O.List i) at start n d j → FoundShort g
  list_short i h e = within_short o (P.parse b) m g (element-found-within o b dir m most accepted readable i at start n d j h g e)

  pub direct_short : (t : ℕ) → ObjectSound (P.parse b) (O.Table t) → start + n * W.element_size o m at ≤ length m
      → g ≡ Field.object_part o (P.parse b) m (O.DirectList t) at start n d j → FoundShort g
  direct_short t s h e = within_short o (P.parse b) m g (direct-found-within o b dir m most accepted readable t at start n d j s h g e)
