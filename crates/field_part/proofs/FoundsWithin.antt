-- What a path comes to lies within the message.
use Rattle.std.specs.Prelude.{Result, Ok, Err}
use mathlib.Core.Path.{◌≡◌, refl}
use mathlib.Core.List.{List}
use Prim.Native.Nat.{ℕ, zero, suc, ◌+◌, ◌*◌, ◌^◌, ◌<◌, ◌≤◌}
use lib.ListN.{length, take}
use lib.Dec.{ltb, eqb}
use borrow.Author.Tests.{ltb-true}
use Rattle.coding.specs.Schema as Sc
use Rattle.coding.specs.Schema.{Schema}
use Rattle.coding.specs.Packed as P
use Rattle.coding.specs.Layout as L
use Rattle.coding.specs.Step as T
use Rattle.coding.specs.Structs.{total, struct_size}
use Rattle.coding.specs.Walk as W
use Rattle.coding.specs.Field as Field
use Rattle.coding.specs.declared.Object.{Object}
use Rattle.coding.specs.declared.Object.TheVariants as O
use Rattle.coding.specs.declared.Kind.{Kind}
use Rattle.coding.specs.declared.Kind.TheVariants.{OfFlat}
use Rattle.coding.specs.declared.Place.{Place}
use Rattle.coding.specs.declared.Place.TheVariants.{ByOffset, InPlace}
use Rattle.coding.specs.declared.Step.{Step}
use Rattle.coding.specs.declared.Step.TheVariants as St
use Rattle.coding.specs.declared.Content.{Content}
use Rattle.coding.specs.declared.Found.{Found}
use Rattle.coding.specs.declared.Found.TheVariants as Fd
use Rattle.laws.specs.Sound.{Sound, ObjectSound, KindSound}
use Rattle.laws.specs.SoundAt.{member_sound-at}
use Rattle.laws.specs.Lists.{pick_holds}
use Rattle.message_step.specs.Lead.{PlaceSmall}
use Rattle.message_object.proofs.OpenCases.{opened_fits, placed_small}
use Rattle.schema.specs.Directory.{Accepted, accepted_sound}
use Rattle.field_arrival.specs.Within.{Readable, StepWithin, FoundWithin}
use Rattle.field_part.proofs.DirectCases.{direct_small}
use Rattle.field_part.proofs.StepsWithin.{member-within, element-within, field-within, field_sound}

module _ (o : ℕ) (S : Schema) (m : List ℕ) (size : length m ≤ 16777215) where
  opened-within : (ob : Object) (at d : ℕ) (w : Result Content ℕ) → ObjectSound S ob → at < 2 ^ 60
      → ((start n : ℕ) → w ≡ Ok (W.content_at start n) → start + W.content_size o S m ob at n ≤ length m) → FoundWithin o S m (Field.opened ob at d w)
  unfolding Field.opened
  opened-within ob at d (Err n) s l h = tt
  opened-within ob at d (Ok c) s l h = (s, h c.start c.length refl, size, l)

  arrived-within : (d : ℕ) (ob : Object) (p : Place) → ObjectSound S ob → PlaceSmall p → FoundWithin o S m (Field.arrived d o S m ob p)
  unfolding Field.arrived
  arrived-within zero ob p s l = tt
  arrived-within (suc d) ob p s l =
      opened-within ob (W.placed p) d (W.open_object o S m ob p) s (placed_small p l (W.placed p) refl)
      (λ start n e. opened_fits o S m ob p (W.open_object o S m ob p) start n refl e)

  chosen-within : (d holder j : ℕ) (ob : Object) (p : Place) → ObjectSound S ob → PlaceSmall p → FoundWithin o S m (Field.chosen d o S m holder j ob p)
  unfolding Field.chosen Field.part_refused
  chosen-within d holder j ob (ByOffset x) s l =
      pick_holds (FoundWithin o S m) (eqb x 0) (Field.part_refused 9 holder j) (Field.arrived d o S m ob (ByOffset x)) (λ e. tt)
      (λ e. arrived-within d ob (ByOffset x) s l)
  chosen-within d holder j ob (InPlace a n) s l = arrived-within d ob (InPlace a n) s l

  stepped_within : (d holder j : ℕ) (k : Kind) → KindSound S k → (step : Step) → StepWithin S m step
      → FoundWithin o S m (Field.stepped d o S m holder j k step)
  unfolding Field.stepped Field.part_refused
  stepped_within d holder j k s (St.Refused n) h = tt
  stepped_within d holder j k s St.Absent h = tt
  stepped_within d holder j k s (St.Value x) h = s
  stepped_within d holder j k s (St.Unknown x) h = tt
  stepped_within d holder j k s (St.Struct i at) h = h
  stepped_within d holder j k s (St.Object ob p) h = arrived-within d ob p h.0 h.1
  stepped_within d holder j k s (St.Choice c ob p) h = chosen-within d holder j ob p h.0 h.1

module _ (o : ℕ) (most : o ≤ 6) (S : Schema) (sound : Sound S) (m : List ℕ) (readable : Readable m) where
  struct-within : (i at holder j : ℕ) → i < length S.structs → at + struct_size S i ≤ length m → FoundWithin o S m (Field.struct_part o S m i at holder j)
  unfolding Field.struct_part Field.no_part
  struct-within i at holder j l h =
      pick_holds (FoundWithin o S m) (ltb j (length (Sc.struct_of S i)))
      (Field.stepped 0 o S m holder j (OfFlat (Sc.field_of S i j))
      (T.field_step m (Sc.field_of S i j) (at + total (struct_size S) (take j (Sc.struct_of S i)))))
      (Fd.Refused (W.refusal 15 holder))
      (λ e. let g = ltb-true j (length (Sc.struct_of S i)) e in
      stepped_within o S m readable.size 0 holder j (OfFlat (Sc.field_of S i j)) (field_sound S sound m readable i j l g) _ (field-within S sound m readable i at j l h g))
      (λ e. tt)

  list-within : (i at start n d j : ℕ) → start + T.elements_size o S (Sc.element_of S i) n ≤ length m
      → FoundWithin o S m (Field.object_part o S m (O.List i) at start n d j)
  unfolding Field.object_part Field.no_part
  list-within i at start n d j h =
      pick_holds (FoundWithin o S m) (ltb j n)
      (Field.stepped d o S m at j (Sc.element_of S i) (T.element_step o S m (Sc.element_of S i) start j))
      (Fd.Refused (W.refusal 15 at))
      (λ e. stepped_within o S m readable.size d at j (Sc.element_of S i) (sound.lists i).kind _
      (element-within S sound m readable o most (Sc.element_of S i) (sound.lists i).kind start n j h (ltb-true j n e)))
      (λ e. tt)

  direct-within : (t at start n d j : ℕ) → ObjectSound S (O.Table t) → start + n * W.element_size o m at ≤ length m
      → FoundWithin o S m (Field.object_part o S m (O.DirectList t) at start n d j)
  unfolding Field.object_part Field.no_part
  direct-within t at start n d j s h =
      pick_holds (FoundWithin o S m) (ltb j n)
      (Field.arrived d o S m (O.Table t) (InPlace (start + W.element_size o m at * j) (W.element_size o m at)))
      (Fd.Refused (W.refusal 15 at))
      (λ e. arrived-within o S m readable.size d (O.Table t) (InPlace (start + W.element_size o m at * j) (W.element_size o m at)) s
      (direct_small m readable start n (W.element_size o m at) j h (ltb-true j n e)))
      (λ e. tt)

  object-within : (ob : Object) (at start n d j : ℕ) → ObjectSound S ob → start + W.content_size o S m ob at n ≤ length m
      → FoundWithin o S m (Field.object_part o S m ob at start n d j)
  unfolding Field.object_part Field.no_part W.content_size
  object-within O.Text at start n d j s h = tt
  object-within O.Bytes at start n d j s h = tt
  object-within (O.List i) at start n d j s h = list-within i at start n d j h
  object-within (O.Table i) at start n d j s h =
      pick_holds (FoundWithin o S m) (ltb j (length (Sc.table_of S i).members))
      (Field.stepped d o S m at j (Sc.member_of S i j).kind
      (T.member_step o S m start n (L.after_members o S (take j (Sc.table_of S i).members) L.begin) (Sc.member_of S i j)))
      (Fd.Refused (W.refusal 15 at))
      (λ e. let g = member_sound-at S sound i j (ltb-true j (length (Sc.table_of S i).members) e) in
      stepped_within o S m readable.size d at j (Sc.member_of S i j).kind g.kind _
      (member-within S sound m readable o most (Sc.member_of S i j) g start n (L.after_members o S (take j (Sc.table_of S i).members) L.begin) h))
      (λ e. tt)
  object-within (O.DirectList t) at start n d j s h = direct-within t at start n d j s.table h

  part-within : (f : Found) (j : ℕ) → FoundWithin o S m f → FoundWithin o S m (Field.part_of o S m f j)
  unfolding Field.part_of Field.no_part
  part-within (Fd.Refused r) j h = tt
  part-within Fd.Absent j h = tt
  part-within (Fd.Unknown x) j h = tt
  part-within (Fd.Value k x holder) j h = tt
  part-within (Fd.Struct i at holder) j h = struct-within i at holder j h.0 h.1
  part-within (Fd.Object ob at start n d) j h = object-within ob at start n d j h.0 h.1

-- ---- as the code has it
pub arrival-within : (o : ℕ) (b : List ℕ) (m : List ℕ) → Readable m → (d : ℕ) (ob : Object) (p : Place) (f : Found) → ObjectSound (P.parse b) ob → PlaceSmall p
    → f ≡ Field.arrived d o (P.parse b) m ob p → FoundWithin o (P.parse b) m f
arrival-within o b m r d ob p f s l e = rw e (arrived-within o (P.parse b) m r.size d ob p s l)

pub next-within : (o : ℕ) (b dir m : List ℕ) → o ≤ 6 → Accepted b dir → Readable m → (f : Found) → FoundWithin o (P.parse b) m f → (j : ℕ) (g : Found)
    → g ≡ Field.part_of o (P.parse b) m f j → FoundWithin o (P.parse b) m g
next-within o b dir m most a r f h j g e = rw e (part-within o most (P.parse b) (accepted_sound b dir a) m r f j h)

pub element-found-within : (o : ℕ) (b dir m : List ℕ) → o ≤ 6 → Accepted b dir → Readable m → (i at start n d j : ℕ)
    → start + T.elements_size o (P.parse b) (Sc.element_of (P.parse b) i) n ≤ length m → (g : Found)
    → g ≡ Field.object_part o (P.parse b) m (O.List i) at start n d j → FoundWithin o (P.parse b) m g
element-found-within o b dir m most a r i at start n d j h g e = rw e (list-within o most (P.parse b) (accepted_sound b dir a) m r i at start n d j h)

pub direct-found-within : (o : ℕ) (b dir m : List ℕ) → o ≤ 6 → Accepted b dir → Readable m → (t at start n d j : ℕ) → ObjectSound (P.parse b) (O.Table t)
    → start + n * W.element_size o m at ≤ length m → (g : Found) → g ≡ Field.object_part o (P.parse b) m (O.DirectList t) at start n d j
    → FoundWithin o (P.parse b) m g
direct-found-within o b dir m most a r t at start n d j s h g e = rw e (direct-within o most (P.parse b) (accepted_sound b dir a) m r t at start n d j s h)
