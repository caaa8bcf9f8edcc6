-- The message of a tree that can be written holds that tree.
use Rattle.std.specs.Prelude.{◌≡◌, List, [], ◌∷◌, Bool, true, false}
use Rattle.std.proofs.Math.Path.{refl, sym, subst}
use Rattle.std.proofs.Common.{◌∙◌, mul_comm, le-mul_of_pos_right}
use Prim.Native.Nat.{ℕ, zero, suc, ◌+◌, ◌*◌, ◌/◌, ◌^◌, ◌<◌, ◌≤◌}
use native.Mathlib.Omega.{arith}
use Rattle.std.proofs.Math.ListN.{length}
use Rattle.coding.specs.Bytes.{le, le_bytes}
use Rattle.coding.specs.Schema.{Schema, element_of, table_of}
use Rattle.coding.specs.Layout as L
use Rattle.coding.specs.Layout.{begin, after_bytes, is_bool, fixed_size}
use Rattle.coding.specs.Step.{elements_size}
use Rattle.coding.specs.Walk.{start_size, header_size, stands_in_place, magic}
use Rattle.coding.specs.Value.{Value, Values, row, as_blob, as_row, count}
use Rattle.coding.specs.Cells.{Slots}
use Rattle.coding.specs.Cells.Slots.{end, bytes}
use Rattle.coding.specs.Message.{length_of, Planner, object_slots, members_slots, elements_slots, content_slots, plan}
use Rattle.coding.specs.declared.Object.{Object}
use Rattle.coding.specs.declared.Object.TheVariants as O
use Rattle.coding.specs.declared.Kind.{Kind}
use Rattle.coding.specs.declared.Place.TheVariants.{ByOffset, InPlace}
use Rattle.laws.specs.Sound.{Sound, inplace_count}
use Rattle.laws.specs.Lists.{never}
use Rattle.laws.specs.FixedSizes.{kind-wide}
use Rattle.demands.specs.Holds.{Holds, length-le_bytes, holds-le, holds-take}
use Rattle.demands.specs.AtCursor.{At, at_fits, at_bytes, at_rebase}
use Rattle.demands.specs.Writes.{Objects, MembersWrite, ContentWrites, text, list, table, Writes}
use Rattle.demands.specs.Writes as W
use Rattle.demands.specs.TreeHold.{Below, ContentHolds, HoldsTree}
use Rattle.demands.specs.TreeHold as T
use Rattle.demands.specs.WrittenParts.{Inner}
use Rattle.demands.specs.WrittenTables.{members-end, members_hold}
use Rattle.demands.specs.WrittenLists.{element-begin, elements-end, elements_hold}
use Rattle.demands.specs.WrittenDirects.{direct_holds}

-- a list's elements take at least a bit each
count_fits_by : (o : ℕ) (S : Schema) (k : Kind) (n l : ℕ) (t : Bool) → is_bool k ≡ t → 0 < L.width o S k → elements_size o S k n ≤ l
    → n ≤ 8 * l
unfolding elements_size
count_fits_by o S k n l true e w h = let g : (n + 7) / 8 ≤ l = rw e at h in omega arith
count_fits_by o S k n l false e w h =
    let g : L.width o S k * n ≤ l = rw e at h in
    omega (arith, le-mul_of_pos_right n w, mul_comm (L.width o S k) n)

module _ (o : ℕ) (m : List ℕ) (small : 8 * length m < 256 ^ o) where
  within : (n : ℕ) → n ≤ length m → n < 256 ^ o
  within n h = omega arith

  behind : (x z : ℕ) (s : Slots) → At o m (x + (4 + o)) begin z z s → x + (4 + o) ≤ length m
  unfolding begin
  behind x z s a = let h = at_fits o m (x + (4 + o)) begin z z s a in omega arith

module _ (o : ℕ) (S : Schema) (sound : Sound S) (wide : 0 < o) (m : List ℕ) (small : 8 * length m < 256 ^ o) where
  module _ (P : Planner) (G : Objects) (below : Below) (inner : Inner o S m P G below) where
    -- a table, where its members in place stand behind it, if it has one
    table_holds : {vs : Values} (i at start z e : ℕ) → MembersWrite G o S (table_of S i).members vs
        → (0 < inplace_count (table_of S i).members → e ≡ z) → At o m start begin z e (members_slots P o S (table_of S i).members vs)
        → ContentHolds below o S m (O.Table i) (row vs) at start (fixed_size o S (table_of S i).members)
        × (start + fixed_size o S (table_of S i).members ≡ z)
    unfolding begin fixed_size
    table_holds {vs} i at start z e h same a =
        let rs = (table_of S i).members in
        let fit = (at_fits o m start begin z e (members_slots P o S rs vs) a).1 in
        let ends = members-end o S sound m P start z rs vs begin e a in
        let n = fixed_size o S rs in
        let b : At o m start begin (start + n) e (members_slots P o S rs vs) =
        subst (λ (y : ℕ). At o m start begin y e (members_slots P o S rs vs)) (sym ends) a in
        let fits : start + n ≤ length m = omega arith in (
          T.table refl fits
              (members_hold o S sound wide m P G below inner start n begin e (sound.tables i).members (sound.tables i).one (λ l. same l ∙ sym ends) h b),
          ends,
        )

    -- what may stand in place: its slots are its content
    content_holds : {ob : Object} {v : Value} (at start z : ℕ) → stands_in_place ob ≡ true → ContentWrites G o S ob v
        → At o m start begin z z (content_slots P o S ob v)
        → ContentHolds below o S m ob v at start (length_of o S ob v) × (length_of o S ob v < 256 ^ o)
    unfolding content_slots length_of as_blob as_row begin after_bytes fixed_size stands_in_place
    content_holds at start z stands (text {l = l} h t) a =
        let s : start + 0 ≡ start = omega arith in
        let s' : start + (0 + length l) ≡ start + length l = omega arith in
        let b = at_bytes o m start begin z z l (bytes (0 ∷ []) end) a in
        let c = at_bytes o m start (after_bytes (length l) begin) z z (0 ∷ []) end b.1 in
        let fit = c.0.1 in
        let fits : start + (length l + 1) ≤ length m = omega arith in
        (T.text (holds-take m start l (rw s at b.0)) fits (rw s' at c.0.0) t, omega arith)
    content_holds at start z stands (W.bytes {l = l} h) a =
        let s : start + 0 ≡ start = omega arith in
        let b = at_bytes o m start begin z z l end a in
        let fit = at_fits o m start (after_bytes (length l) begin) z z end b.1 in
        let fits : start + length l ≤ length m = omega arith in
        (T.bytes (holds-take m start l (rw s at b.0)) fits, omega arith)
    content_holds at start z stands (list {i = i} {vs = vs} h) a =
        let k = element_of S i in
        let ok = (sound.lists i).kind in
        let fit = (at_fits o m start begin z z (elements_slots P o S k vs) a).1 in
        let zero-add : 0 + count vs ≡ count vs = omega arith in
        let ends = rw zero-add at (elements-end o S sound m P start z k vs 0 begin z (element-begin o S k) a) in
        let fits : elements_size o S k (count vs) ≤ length m = omega arith in
        let few = count_fits_by o S k (count vs) (length m) (is_bool k) refl (kind-wide o S sound wide k ok) fits in
        let fits' : start + elements_size o S k (count vs) ≤ length m = omega arith in
        (T.list refl fits' (elements_hold o S sound m P start z G below inner k ok 0 begin z (element-begin o S k) h a), omega arith)
    content_holds at start z stands (table {i = i} {vs = vs} h) a =
        let fit = (at_fits o m start begin z z (members_slots P o S (table_of S i).members vs) a).1 in
        let t = table_holds i at start z z h (λ l. refl) a in
        let ends = t.1 in
        (t.0, omega arith)
    content_holds at start z stands (W.direct_list d f l h) a = never stands

    -- behind the magic and the length
    offset-content : {ob : Object} {v : Value} (x z : ℕ) → ContentWrites G o S ob v → At o m (x + (4 + o)) begin z z (content_slots P o S ob v)
        → ContentHolds below o S m ob v x (x + header_size o ob) (length_of o S ob v) × (length_of o S ob v < 256 ^ o)
        × (x + header_size o ob ≤ length m)
    unfolding header_size stands_in_place
    offset-content x z (text {l = l} h t) a = let c = content_holds x (x + (4 + o)) z refl (text h t) a in (c.0, c.1, behind o m small x z _ a)
    offset-content x z (W.bytes {l = l} h) a = let c = content_holds x (x + (4 + o)) z refl (W.bytes h) a in (c.0, c.1, behind o m small x z _ a)
    offset-content x z (list h) a = let c = content_holds x (x + (4 + o)) z refl (list h) a in (c.0, c.1, behind o m small x z _ a)
    offset-content x z (table h) a = let c = content_holds x (x + (4 + o)) z refl (table h) a in (c.0, c.1, behind o m small x z _ a)
    offset-content x z (W.direct_list {t = t} {vs = vs} d f l h) a =
        unfold content_slots as_row length_of in
        let c = direct_holds o S sound wide m P G below inner t x z d f l h a in
        (c.0, within o m small (count vs) c.1, c.2)

  magic_small : (ob : Object) → magic S ob < 256 ^ 4
  unfolding magic
  magic_small O.Text = omega arith
  magic_small O.Bytes = omega arith
  magic_small (O.List i) = omega arith
  magic_small (O.Table i) = let h = (sound.tables i).id in omega arith
  magic_small (O.DirectList t) = omega arith

  -- what an object's header says, and where its content stands
  header_parts : (P : Planner) (ob : Object) (v : Value) (x z : ℕ) → At o m x begin z z (object_slots P o S ob v)
      → Holds m x (le_bytes 4 (magic S ob)) × Holds m (x + 4) (le_bytes o (length_of o S ob v)) × At o m (x + (4 + o)) begin z z (P ob v)
  unfolding object_slots begin after_bytes
  header_parts P ob v x z a =
      let s0 : x + 0 ≡ x = omega arith in
      let s4 : x + (0 + 4) ≡ x + 4 = omega arith in
      let sh : x + (0 + 4 + o) ≡ x + (4 + o) = omega arith in
      let n = length_of o S ob v in
      let b = at_bytes o m x begin z z (le_bytes 4 (magic S ob)) (bytes (le_bytes o n) (P ob v)) a in
      let b1 = rw (length-le_bytes 4 (magic S ob)) at b.1 in
      let c = at_bytes o m x (after_bytes 4 begin) z z (le_bytes o n) (P ob v) b1 in
      let c1 = rw (length-le_bytes o n) at c.1 in
      let r = at_rebase o m x (after_bytes o (after_bytes 4 begin)) z z (P ob v) refl c1 in
      (rw s0 at b.0, rw s4 at c.0, rw sh at r)

  -- an element of a direct list
  element_holds : (P : Planner) (G : Objects) (below : Below) → Inner o S m P G below → (t : ℕ) (v : Value) (at z e : ℕ)
      → inplace_count (table_of S t).members ≡ 0 → ContentWrites G o S (O.Table t) v → At o m at begin z e (content_slots P o S (O.Table t) v)
      → T.PlaceHolds below o S m (O.Table t) v (InPlace at (fixed_size o S (table_of S t).members))
      × (at + fixed_size o S (table_of S t).members ≡ z)
  unfolding content_slots as_row stands_in_place
  element_holds P G below inner t v at z e none (table h) a =
      let c = table_holds P G below inner t at at z e h (λ l. absurd (omega arith)) a in
      (T.in_place refl c.0, c.1)

  offset_holds : (P : Planner) (G : Objects) (below : Below) → Inner o S m P G below → (ob : Object) (v : Value) (x z : ℕ) → ContentWrites G o S ob v
      → start_size o ≤ x → At o m x begin z z (object_slots (content_slots P o S) o S ob v)
      → T.PlaceHolds below o S m ob v (ByOffset x)
  offset_holds P G below inner ob v x z w far a =
      let h = header_parts (content_slots P o S) ob v x z a in
      let c = offset-content P G below inner x z w h.2 in
      let q : le m (x + 4) o ≡ length_of o S ob v = holds-le m o (x + 4) (length_of o S ob v) c.1 h.1 in
      let content : ContentHolds below o S m ob v x (x + header_size o ob) (le m (x + 4) o) = rw q c.0 in
      T.by_offset far c.2 (holds-le m 4 x (magic S ob) (magic_small ob) h.0) content

  pub tree_inner : (d : ℕ) → Inner o S m (plan d o S) (Writes d o S) (HoldsTree d o S m)
  unfolding plan
  tree_inner zero =
      record {
        by_offset = λ ob v x z w far a. absurd w;
        in_place_at = λ ob v e z stands w a. absurd w;
        short = λ ob v e z stands w a. absurd w;
        direct = λ t v at z e none w a. absurd w;
      }
  tree_inner (suc d) =
      record {
        by_offset =
            λ ob v x z w far a. offset_holds (plan d o S) (Writes d o S) (HoldsTree d o S m) (tree_inner d) ob v x z w far a;
        in_place_at =
            λ ob v e z stands w a.
            T.in_place stands (content_holds (plan d o S) (Writes d o S) (HoldsTree d o S m) (tree_inner d) e e z stands w a).0;
        short = λ ob v e z stands w a. (content_holds (plan d o S) (Writes d o S) (HoldsTree d o S m) (tree_inner d) e e z stands w a).1;
        direct = λ t v at z e none w a. element_holds (plan d o S) (Writes d o S) (HoldsTree d o S m) (tree_inner d) t v at z e none w a;
      }
