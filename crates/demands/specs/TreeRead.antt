-- A message that holds a tree reads as that tree.
use Rattle.std.specs.Prelude.{◌≡◌, List, ℕ, zero, suc}
use Rattle.std.proofs.Math.Path.{refl, ap, ap₂}
use Rattle.std.proofs.Common.{sym, ◌∙◌}
use Rattle.coding.specs.Schema.{Schema, element_of}
use Rattle.coding.specs.Value.{Value, Values, blob, row, chosen, ◌then◌, count}
use Rattle.coding.specs.Walk.{element_size}
use Rattle.coding.specs.Read.{Child, step_read, struct_read, members_read, elements_read, directs_read, content_read, place_read, read}
use Rattle.coding.specs.declared.Object.{Object}
use Rattle.coding.specs.declared.Object.TheVariants as O
use Rattle.coding.specs.declared.Kind.{Kind}
use Rattle.coding.specs.declared.Member.{Member}
use Rattle.coding.specs.declared.Cursor.{Cursor}
use Rattle.coding.specs.declared.Place.{Place}
use Rattle.coding.specs.declared.Place.TheVariants.{InPlace}
use Rattle.coding.specs.declared.Step.{Step}
use Rattle.demands.specs.TreeHold.{Below, Shows, nothing, scalar, struct, object, choice, MembersHold, no_member, members, ElementsHold, no-element, elements, DirectsHold, no-direct, directs, ContentHolds, text, bytes, list, table, direct_list, PlaceHolds, by_offset, in_place, HoldsTree}

module _ (below : Below) (o : ℕ) (S : Schema) (m : List ℕ) (child : Child)
    (inner : (ob : Object) (v : Value) (p : Place) → below ob v p → child ob p ≡ v) where
  step-read : {k : Kind} {v : Value} {st : Step} → Shows below S m k v st → step_read (struct_read S m) child st ≡ v
  unfolding step_read
  step-read nothing = refl
  step-read scalar = refl
  step-read (struct h e) = h
  step-read (object {ob = ob} {v = v} {p = p} e h) = inner ob v p h
  step-read (choice {c = c} {ob = ob} {v = v} {p = p} e l g w h) = ap (chosen c) (inner ob v p h)

  members-read : {start n : ℕ} {c : Cursor} {rs : List Member} {vs : Values} → MembersHold below o S m start n c rs vs
      → members_read child o S m start n c rs ≡ vs
  unfolding members_read
  members-read (no_member f u) = refl
  members-read (members h hs) = ap₂ (λ (x : Value) (xs : Values). x then xs) (step-read h) (members-read hs)

  elements-read : {start : ℕ} {k : Kind} {i : ℕ} {vs : Values} → ElementsHold below o S m start k i vs
      → elements_read child o S m start k (count vs) i ≡ vs
  unfolding elements_read count
  elements-read no-element = refl
  elements-read (elements h hs) = ap₂ (λ (x : Value) (xs : Values). x then xs) (step-read h) (elements-read hs)

  directs-read : {t w at : ℕ} {vs : Values} → DirectsHold below t w at vs → directs_read child t w (count vs) at ≡ vs
  unfolding directs_read count
  directs-read no-direct = refl
  directs-read {t} {w} (directs {at = at} {v = v} h hs) =
      ap₂ (λ (x : Value) (xs : Values). x then xs) (inner (O.Table t) v (InPlace at w) h) (directs-read hs)

  content-read : {ob : Object} {v : Value} {at start n : ℕ} → ContentHolds below o S m ob v at start n
      → content_read child o S m ob at start n ≡ v
  unfolding content_read
  content-read (text h f e t) = ap blob h
  content-read (bytes h f) = ap blob h
  content-read (list {i = i} {start = start} {n = n} {vs = vs} e f h) =
      ap (λ (x : ℕ). row (elements_read child o S m start (element_of S i) x 0)) (sym e) ∙ ap row (elements-read h)
  content-read (table e f h) = ap row (members-read h)
  content-read (direct_list {t = t} {at = at} {start = start} e i l f h) =
      ap (λ (x : ℕ). row (directs_read child t (element_size o m at) x start)) (sym e) ∙ ap row (directs-read h)

  place_read_lem : {ob : Object} {v : Value} {p : Place} → PlaceHolds below o S m ob v p → place_read child o S m ob p ≡ v
  unfolding place_read
  place_read_lem (by_offset l f e h) = content-read h
  place_read_lem (in_place e h) = content-read h

pub tree-read : (o : ℕ) (S : Schema) (m : List ℕ) (d : ℕ) (ob : Object) (v : Value) (p : Place) → HoldsTree d o S m ob v p
    → read d o S m ob p ≡ v
unfolding read
tree-read o S m zero ob v p h = absurd h
tree-read o S m (suc d) ob v p h = place_read_lem (HoldsTree d o S m) o S m (read d o S m) (tree-read o S m d) h
