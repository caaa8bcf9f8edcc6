-- A path that comes to a text has judged it, whatever else the message holds: the bytes that it comes to are in order.
use Rattle.std.specs.Prelude.{◌≡◌, Bool, length, take, ltb, leb, eqb, Result, Ok, Err}
use Rattle.std.proofs.Math.Path.{refl}
use Rattle.std.proofs.Math.Bool.{true, false}
use mathlib.Core.List.{List, [], ◌∷◌}
use Prim.Native.Nat.{ℕ, zero, suc, ◌+◌, ◌*◌}
use Rattle.coding.specs.Lists.{pick}
use Rattle.coding.specs.Bytes.{deepest}
use Rattle.coding.specs.Schema.{Schema, struct_of, field_of, element_of, table_of, member_of}
use Rattle.coding.specs.Structs.{total, struct_size}
use Rattle.coding.specs.Packed.{parse}
use Rattle.coding.specs.Lawful.{lawful}
use Rattle.coding.specs.Layout.{begin, after_members}
use Rattle.coding.specs.Step.{field_step, member_step, element_step}
use Rattle.coding.specs.Walk.{placed, element_size, end_ok, text_ok, fit_object, bytes_tested, open_object, root_place, size_ok, start_ok}
use Rattle.coding.specs.Field as Field
use Rattle.coding.specs.declared.Object.{Object}
use Rattle.coding.specs.declared.Object.TheVariants as O
use Rattle.coding.specs.declared.Kind.{Kind}
use Rattle.coding.specs.declared.Kind.TheVariants.{OfFlat}
use Rattle.coding.specs.declared.Place.{Place}
use Rattle.coding.specs.declared.Place.TheVariants.{ByOffset, InPlace}
use Rattle.coding.specs.declared.Step.{Step}
use Rattle.coding.specs.declared.Step.TheVariants as St
use Rattle.coding.specs.declared.Content.{Content}
use Rattle.coding.specs.declared.Found.{Found}
use Rattle.coding.specs.declared.Found.TheVariants as Fd

-- the bytes of an object that a path has come to are in order
abbrev pub Tested : List ℕ → Found → Type 0
Tested m (Fd.Refused r) = Unit {0}
Tested m Fd.Absent = Unit {0}
Tested m (Fd.Unknown x) = Unit {0}
Tested m (Fd.Value k x holder) = Unit {0}
Tested m (Fd.Struct i at holder) = Unit {0}
Tested m (Fd.Object ob at start n d) = text_ok m ob start n ≡ true

module _ (o : ℕ) (S : Schema) (m : List ℕ) where
  picked : (t : Bool) (f g : Found) → Tested m f → Tested m g → Tested m (pick t f g)
  picked true f g h k = h
  picked false f g h k = k

  no-part : (at : ℕ) → Tested m (Field.no_part at)
  unfolding Field.no_part
  no-part at = tt

  opened_tested : (ob : Object) (at d : ℕ) (fit : Result Content ℕ) → Tested m (Field.opened ob at d (bytes_tested m ob fit))
  unfolding Field.opened bytes_tested
  opened_tested ob at d (Err n) = tt
  opened_tested ob at d (Ok c) = by (end_ok m ob c.start c.length) (text_ok m ob c.start c.length) refl
    where
      by : (f g : Bool) → text_ok m ob c.start c.length ≡ g
          → Tested m (Field.opened ob at d (pick f (pick g (Ok c) (Err 16)) (Err 10)))
      by true true h = h
      by true false h = tt
      by false g h = tt

  arrived_tested : (d : ℕ) (ob : Object) (p : Place) → Tested m (Field.arrived d o S m ob p)
  unfolding Field.arrived open_object
  arrived_tested zero ob p = tt
  arrived_tested (suc d) ob p = opened_tested ob (placed p) d (fit_object o S m ob p)

  chosen_tested : (d holder j : ℕ) (ob : Object) (p : Place) → Tested m (Field.chosen d o S m holder j ob p)
  unfolding Field.chosen Field.part_refused
  chosen_tested d holder j ob (ByOffset x) = picked (eqb x 0) _ _ tt (arrived_tested d ob (ByOffset x))
  chosen_tested d holder j ob (InPlace a n) = arrived_tested d ob (InPlace a n)

  step_tested : (d holder j : ℕ) (k : Kind) (step : Step) → Tested m (Field.stepped d o S m holder j k step)
  unfolding Field.stepped Field.part_refused
  step_tested d holder j k (St.Refused n) = tt
  step_tested d holder j k St.Absent = tt
  step_tested d holder j k (St.Value x) = tt
  step_tested d holder j k (St.Unknown x) = tt
  step_tested d holder j k (St.Struct i at) = tt
  step_tested d holder j k (St.Object ob p) = arrived_tested d ob p
  step_tested d holder j k (St.Choice c ob p) = chosen_tested d holder j ob p

  struct_tested_lem : (i at holder j : ℕ) → Tested m (Field.struct_part o S m i at holder j)
  unfolding Field.struct_part
  struct_tested_lem i at holder j =
      picked (ltb j (length (struct_of S i))) _ _
      (step_tested 0 holder j (OfFlat (field_of S i j)) (field_step m (field_of S i j) (at + total (struct_size S) (take j (struct_of S i)))))
      (no-part holder)

  object_tested : (ob : Object) (at start n d j : ℕ) → Tested m (Field.object_part o S m ob at start n d j)
  unfolding Field.object_part
  object_tested O.Text at start n d j = no-part at
  object_tested O.Bytes at start n d j = no-part at
  object_tested (O.List i) at start n d j =
      picked (ltb j n) _ _ (step_tested d at j (element_of S i) (element_step o S m (element_of S i) start j)) (no-part at)
  object_tested (O.Table i) at start n d j =
      picked (ltb j (length (table_of S i).members)) _ _
      (step_tested d at j (member_of S i j).kind
      (member_step o S m start n (after_members o S (take j (table_of S i).members) begin) (member_of S i j)))
      (no-part at)
  object_tested (O.DirectList t) at start n d j =
      picked (ltb j n) _ _
      (arrived_tested d (O.Table t) (InPlace (start + element_size o m at * j) (element_size o m at))) (no-part at)

  part_tested : (f : Found) (j : ℕ) → Tested m (Field.part_of o S m f j)
  unfolding Field.part_of
  part_tested (Fd.Refused r) j = tt
  part_tested Fd.Absent j = tt
  part_tested (Fd.Unknown x) j = tt
  part_tested (Fd.Value k x holder) j = no-part holder
  part_tested (Fd.Struct i at holder) j = struct_tested_lem i at holder j
  part_tested (Fd.Object ob at start n d) j = object_tested ob at start n d j

  along_tested : (path : List ℕ) (f : Found) → Tested m f → Tested m (Field.along o S m f path)
  unfolding Field.along
  along_tested [] f h = h
  along_tested (j ∷ js) f h = along_tested js (Field.part_of o S m f j) (part_tested f j)

  found_tested : (path : List ℕ) → Tested m (Field.found o S m path)
  unfolding Field.found
  found_tested path =
      along_tested path (Field.arrived deepest o S m (O.Table S.root) (root_place o m))
      (arrived_tested deepest (O.Table S.root) (root_place o m))

pub field_tested : (o : ℕ) (b m path : List ℕ) → Tested m (Field.field_found o b m path)
unfolding Field.field_found Field.before
field_tested o b m path =
    picked o (parse b) m (lawful o b) _ _
    (picked o (parse b) m (leb (length path) 96) _ _
    (picked o (parse b) m (size_ok o m) _ _
    (picked o (parse b) m (start_ok m) _ _ (found_tested o (parse b) m path) tt)
    tt)
    tt)
    tt
