-- A written message is plain: it holds its tree, and a tree that can be written has no unknown enum or choice.
use Rattle.std.specs.Prelude.{ℕ, zero, suc, List, Bool, true, ◌≡◌, length}
use Rattle.std.proofs.Math.Option.{some, some-injective}
use Rattle.std.proofs.Math.Path.{sym, subst}
use Rattle.std.proofs.Common.{◌∙◌, le-leb}
use Rattle.coding.specs.Bytes.{deepest, largest}
use Rattle.coding.specs.Schema.{Schema, element_of}
use Rattle.coding.specs.Packed.{parse}
use Rattle.coding.specs.Walk.{element_size, root_place}
use Rattle.coding.specs.Value.{Value, Values, count}
use Rattle.coding.specs.Read.{message_read}
use Rattle.coding.specs.Sheet.{tree_of, sheet_tree}
use Rattle.coding.specs.Message.{writable, message, written}
use Rattle.coding.specs.declared.Flat.{Flat}
use Rattle.coding.specs.declared.Object.{Object}
use Rattle.coding.specs.declared.Object.TheVariants as O
use Rattle.coding.specs.declared.Kind.{Kind}
use Rattle.coding.specs.declared.Member.{Member}
use Rattle.coding.specs.declared.Cursor.{Cursor}
use Rattle.coding.specs.declared.Place.{Place}
use Rattle.coding.specs.declared.Place.TheVariants.{InPlace}
use Rattle.coding.specs.declared.Step.{Step}
use Rattle.laws.specs.LawfulSound.{lawful_sound}
use Rattle.laws.specs.Rules.{lawful_narrow}
use Rattle.demands.specs.Appending.{AreBytes}
use Rattle.demands.specs.AtCursor.{unused_bit}
use Rattle.demands.specs.Writes.{FlatWrites, FlatsWrite, PartWrites, MembersWrite, ElementsWrite, DirectsWrite, ContentWrites, Writes}
use Rattle.demands.specs.Writes as W
use Rattle.demands.specs.TreeHold.{Below, Shows, MembersHold, ElementsHold, DirectsHold, ContentHolds, PlaceHolds, HoldsTree}
use Rattle.demands.specs.TreeHold as T
use Rattle.demands.specs.TreeRead.{tree-read}
use Rattle.demands.specs.Sheets.{encode-decode_sized}
use Rattle.demands.specs.ShownWrites.{shown_writes}
use Rattle.demands.specs.WrittenSheet.{written_as}
use Rattle.demands.specs.RoundTrip.{written_holds}
use Rattle.demands.specs.PlainMessage.{Known, AllKnown, Objects, step_plain, members_plain, elements_plain, directs_plain, content_plain, place_plain, plain, message_plain}

-- ---- what can be written is known
mutual
  unfolding Known

  flat-known : {S : Schema} {k : Flat} {v : Value} → FlatWrites S k v → Known v
  flat-known (W.boolean h) = tt
  flat-known (W.integer h) = tt
  flat-known (W.float h) = tt
  flat-known W.no-enum = tt
  flat-known (W.enum h) = tt
  flat-known (W.struct h) = flats-known h

  flats-known : {S : Schema} {ks : List Flat} {vs : Values} → FlatsWrite S ks vs → AllKnown vs
  flats-known W.no-flat = tt
  flats-known (W.flats h hs) = (flat-known h, flats-known hs)

module _ (G : W.Objects) (inner : (ob : Object) (v : Value) → G ob v → Known v) (o : ℕ) (S : Schema) where
  part-known : {may nan inplace : Bool} {k : Kind} {v : Value} → PartWrites G o S may nan inplace k v → Known v
  unfolding Known
  part-known (W.no-flat e t) = tt
  part-known (W.no_float_lem e) = tt
  part-known (W.flat h n) = flat-known h
  part-known W.no-object = tt
  part-known (W.object {ob = ob} {v = v} h p l d) = inner ob v h
  part-known W.no-union = tt
  part-known (W.choice {v = v} l b h d) = inner _ v h

  members-known : {rs : List Member} {vs : Values} → MembersWrite G o S rs vs → AllKnown vs
  unfolding Known
  members-known W.no_member = tt
  members-known (W.members h hs) = (part-known h, members-known hs)

  elements-known : {k : Kind} {vs : Values} → ElementsWrite G o S k vs → AllKnown vs
  unfolding Known
  elements-known W.no-element = tt
  elements-known (W.elements h hs) = (part-known h, elements-known hs)

  directs-known : {t : ℕ} {vs : Values} → DirectsWrite G t vs → AllKnown vs
  unfolding Known
  directs-known W.no-direct = tt
  directs-known {t} (W.directs {v = v} h hs) = (inner (O.Table t) v h, directs-known hs)

  content-known : {ob : Object} {v : Value} → ContentWrites G o S ob v → Known v
  unfolding Known
  content-known (W.text h t) = tt
  content-known (W.bytes h) = tt
  content-known (W.list h) = elements-known h
  content-known (W.table h) = members-known h
  content-known (W.direct_list d f l h) = directs-known h

writes-known : (d o : ℕ) (S : Schema) (ob : Object) (v : Value) → Writes d o S ob v → Known v
writes-known zero o S ob v h = absurd h
writes-known (suc d) o S ob v h = content-known (Writes d o S) (writes-known d o S) o S h

-- ---- where a known tree is held, the message is plain
module _ (below : Below) (P : Objects) (inner : (ob : Object) (v : Value) (p : Place) → below ob v p → Known v → P ob p) (o : ℕ) (S : Schema)
    (m : List ℕ) where
  step-plain : {k : Kind} {v : Value} {st : Step} → Shows below S m k v st → Known v → step_plain P S m st
  unfolding step_plain Known
  step-plain T.nothing h = tt
  step-plain T.scalar h = tt
  step-plain (T.struct e p) h = subst Known (sym e) h
  step-plain (T.object {ob = ob} {v = v} {p = p} e b) h = inner ob v p b h
  step-plain (T.choice {ob = ob} {v = v} {p = p} e l g w b) h = inner ob v p b h

  members_plain_lem : {start n : ℕ} {c : Cursor} {rs : List Member} {vs : Values} → MembersHold below o S m start n c rs vs → AllKnown vs
      → members_plain P o S m start n c rs
  unfolding members_plain Known
  members_plain_lem {start} (T.no_member {c = c} e u) h = record { size = sym e; clear = λ j l k. unused_bit m start c j u l k }
  members_plain_lem (T.members s ss) h = (step-plain s h.0, members_plain_lem ss h.1)

  elements-plain : {start : ℕ} {k : Kind} {i : ℕ} {vs : Values} → ElementsHold below o S m start k i vs → AllKnown vs
      → elements_plain P o S m start k (count vs) i
  unfolding elements_plain Known count
  elements-plain T.no-element h = tt
  elements-plain (T.elements s ss) h = (step-plain s h.0, elements-plain ss h.1)

  directs-plain : {t w at : ℕ} {vs : Values} → DirectsHold below t w at vs → AllKnown vs → directs_plain P t w (count vs) at
  unfolding directs_plain Known count
  directs-plain T.no-direct h = tt
  directs-plain {t} {w} (T.directs {at = at} {v = v} s ss) h = (inner (O.Table t) v (InPlace at w) s h.0, directs-plain ss h.1)

  content-plain : {ob : Object} {v : Value} {at start n : ℕ} → ContentHolds below o S m ob v at start n → Known v
      → content_plain P o S m ob at start n
  unfolding content_plain Known
  content-plain (T.text e f z t) h = tt
  content-plain (T.bytes e f) h = tt
  content-plain (T.list {i = i} {start = start} e f s) h =
      subst (λ (x : ℕ). elements_plain P o S m start (element_of S i) x 0) e (elements-plain s h)
  content-plain (T.table e f s) h = members_plain_lem s h
  content-plain (T.direct_list {t = t} {at = at} {start = start} e i l f s) h =
      subst (λ (x : ℕ). directs_plain P t (element_size o m at) x start) e (directs-plain s h)

  place-plain : {ob : Object} {v : Value} {p : Place} → PlaceHolds below o S m ob v p → Known v → place_plain P o S m ob p
  unfolding place_plain
  place-plain (T.by_offset l f e s) h = content-plain s h
  place-plain (T.in_place e s) h = content-plain s h

tree_plain : (d o : ℕ) (S : Schema) (m : List ℕ) (ob : Object) (v : Value) (p : Place) → HoldsTree d o S m ob v p → Known v
    → plain d o S m ob p
unfolding plain
tree_plain zero o S m ob v p s h = absurd s
tree_plain (suc d) o S m ob v p s h =
    place-plain (HoldsTree d o S m) (plain d o S m) (tree_plain d o S m) o S m s h

-- ---- what the writer made of a sheet
pub written-plain : (o : ℕ) (b s m : List ℕ) → AreBytes b → AreBytes s → written o b s ≡ message m → message_plain o (parse b) m
unfolding message_plain
written-plain o b s m schema_bytes sheet_bytes made =
    let root = O.Table (parse b).root in
    let sound = lawful_sound o b schema_bytes (written_as o b s m made).schema in
    let narrow = lawful_narrow o b (written_as o b s m made).schema in
    let w = written_as o b s m made in
    let h = written_holds o b s m schema_bytes sheet_bytes made in
    let fit = subst (λ (v : Value). writable deepest o (parse b) root v ≡ true) (some-injective w.tree h.0 (sym w.decoded ∙ h.1)) w.fit in
    let writes = shown_writes (parse b) sound o narrow deepest root h.0 sound.root h.2 fit in
    tree_plain deepest o (parse b) m root h.0 (root_place o m) h.3 (writes-known deepest o (parse b) root h.0 writes)

-- the sheet's tree is what the message reads as
pub written_tree_lem : (o : ℕ) (b s m : List ℕ) → AreBytes b → AreBytes s → written o b s ≡ message m
    → tree_of (parse b) s ≡ some (message_read o (parse b) m)
unfolding message_read sheet_tree
written_tree_lem o b s m schema_bytes sheet_bytes made =
    let h = written_holds o b s m schema_bytes sheet_bytes made in
    let e = encode-decode_sized (parse b) (lawful_sound o b schema_bytes (written_as o b s m made).schema) s h.0 sheet_bytes h.1 in
    rw (tree-read o (parse b) m deepest (O.Table (parse b).root) h.0 (root_place o m) h.3) (rw (le-leb (length s) largest e.2) at h.1)
