-- The writer's slots of a tree: their bits are bits and their bytes are bytes.
use mathlib.Core.List.{List, []}
use Rattle.std.specs.Prelude.{Bool, length}
use Rattle.std.proofs.Math.Bool.{true, false}
use Prim.Native.Nat.{ℕ, zero, suc, ◌+◌, ◌<◌}
use native.Mathlib.Omega.{arith}
use Rattle.coding.specs.Lists.{pick}
use Rattle.coding.specs.Bytes.{no_float}
use Rattle.coding.specs.Schema.{Schema, cases_of, case_of, table_of}
use Rattle.coding.specs.Structs.{struct_size}
use Rattle.coding.specs.Layout.{has_flag, fixed_size}
use Rattle.coding.specs.Walk.{magic}
use Rattle.coding.specs.Value.{Value, Values, absent, row, present, as_number, as_blob, as_row, as_object, first, others}
use Rattle.coding.specs.Cells.{Slots}
use Rattle.coding.specs.Message.{length_of, number_or, zeros, flat_slots, Planner, object_slots, refer_slots, value_slots, flag_of, member_slots, members_slots, elements_slots, directs_slots, direct_slots, content_slots, plan}
use Rattle.coding.specs.declared.Flat.{Flat}
use Rattle.coding.specs.declared.Flat.TheVariants as F
use Rattle.coding.specs.declared.Object.{Object}
use Rattle.coding.specs.declared.Object.TheVariants as O
use Rattle.coding.specs.declared.Kind.{Kind}
use Rattle.coding.specs.declared.Member.{Member}
use Rattle.laws.specs.Sound.{All, FlatSound, KindSound, MemberSound, Sound}
use Rattle.laws.specs.Bits.{Byte}
use Rattle.laws.specs.All.{all_replicate}
use Rattle.demands.specs.Holds.{le_bytes_bytes}
use Rattle.demands.specs.SlotsHold.{SlotsBytes}
use Rattle.demands.specs.StructHold.{struct_holds}
use Rattle.demands.specs.Writes.{Objects, FlatWrites, boolean, integer, float, no-enum, enum, struct, PartWrites, no-flat, no_float_lem, flat, no-object, object, no-union, choice, MembersWrite, no_member, members, ElementsWrite, no-element, elements, DirectsWrite, no-direct, directs, ContentWrites, text, bytes, list, table, direct_list, Writes}

zero_bytes : (n : ℕ) → All Byte (zeros n)
zero_bytes n = all_replicate Byte n 0 (omega arith)

module _ (S : Schema) (sound : Sound S) where
  flat_bytes_lem : {k : Flat} {v : Value} (rest : Slots) → FlatSound (length S.structs) k → FlatWrites S k v → SlotsBytes rest
      → SlotsBytes (flat_slots S k v rest)
  unfolding flat_slots as_number number_or present
  flat_bytes_lem rest ok (boolean h) r = (h, r)
  flat_bytes_lem rest ok (integer {w = w} {x = x} h) r = (le_bytes_bytes w x, r)
  flat_bytes_lem rest ok (float {w = w} {x = x} h) r = (le_bytes_bytes w x, r)
  flat_bytes_lem rest ok no-enum r = ((omega arith, tt), r)
  flat_bytes_lem rest ok (enum h) r = ((omega arith, tt), r)
  flat_bytes_lem rest ok (struct {i = i} {vs = vs} h) r = ((struct_holds S sound [] i).bytes (row vs) (struct h), r)

  no-flat_bytes : (k : Flat) (rest : Slots) → SlotsBytes rest → SlotsBytes (flat_slots S k absent rest)
  unfolding flat_slots as_number number_or present
  no-flat_bytes F.Boolean rest r = (omega arith, r)
  no-flat_bytes (F.Integer s w) rest r = (le_bytes_bytes w 0, r)
  no-flat_bytes (F.Float w) rest r = (le_bytes_bytes w (no_float w), r)
  no-flat_bytes (F.Enumerated n) rest r = ((omega arith, tt), r)
  no-flat_bytes (F.Struct i) rest r = (zero_bytes (struct_size S i), r)

  module _ (o : ℕ) (P : Planner) (G : Objects) (inner : (ob : Object) (v : Value) → G ob v → SlotsBytes (P ob v)) where
    pub object_bytes : (ob : Object) (v : Value) → G ob v → SlotsBytes (object_slots P o S ob v)
    unfolding object_slots
    object_bytes ob v g = (le_bytes_bytes 4 (magic S ob), (le_bytes_bytes o (length_of o S ob v), inner ob v g))

    refer_bytes : (inplace : Bool) (ob : Object) (v : Value) (rest : Slots) → G ob v → SlotsBytes rest
        → SlotsBytes (refer_slots P o S inplace ob v rest)
    unfolding refer_slots
    refer_bytes true ob v rest g r = (le_bytes_bytes o (length_of o S ob v), (inner ob v g, r))
    refer_bytes false ob v rest g r = (object_bytes ob v g, r)

    part_bytes : {may nan inplace : Bool} {k : Kind} {v : Value} (rest : Slots) → KindSound S k → PartWrites G o S may nan inplace k v
        → SlotsBytes rest → SlotsBytes (value_slots P o S k inplace v rest)
    unfolding value_slots present as_number as_object
    part_bytes rest ok (no-flat {k = k} e t) r = no-flat_bytes k rest r
    part_bytes rest ok (no_float_lem {w = w} e) r = no-flat_bytes (F.Float w) rest r
    part_bytes rest ok (flat h n) r = flat_bytes_lem rest ok h r
    part_bytes rest ok no-object r = (zero_bytes o, r)
    part_bytes {inplace = inplace} rest ok (object {ob = ob} {v = v} g p l d) r = rw p (refer_bytes inplace ob v rest g r)
    part_bytes rest ok no-union r = (zero_bytes (2 + o), r)
    part_bytes {inplace = inplace} rest ok (choice {i = i} {c = c} {v = v} l b g d) r =
        (le_bytes_bytes 2 c, refer_bytes inplace (case_of (cases_of S i) c) v rest g r)

    flag_small : (t : Bool) → pick t 1 0 < 2
    flag_small true = omega arith
    flag_small false = omega arith

    flag_bytes : (t : Bool) (v : Value) (s : Slots) → SlotsBytes s → SlotsBytes (pick t (Slots.bit (flag_of v) s) s)
    unfolding flag_of
    flag_bytes true v s h = (flag_small (present v), h)
    flag_bytes false v s h = h

    members_bytes : {rs : List Member} {vs : Values} → All (MemberSound S) rs → MembersWrite G o S rs vs → SlotsBytes (members_slots P o S rs vs)
    unfolding members_slots member_slots first others
    members_bytes ok no_member = tt
    members_bytes ok (members {r = r} {rs = rs} {v = v} {vs = vs} p ps) =
        flag_bytes (has_flag r) v (value_slots P o S r.kind r.inplace v (members_slots P o S rs vs))
        (part_bytes (members_slots P o S rs vs) ok.0.kind p (members_bytes ok.1 ps))

    elements_bytes : {k : Kind} {vs : Values} → KindSound S k → ElementsWrite G o S k vs → SlotsBytes (elements_slots P o S k vs)
    unfolding elements_slots
    elements_bytes ok no-element = tt
    elements_bytes {k} ok (elements {v = v} {vs = vs} p ps) = part_bytes (elements_slots P o S k vs) ok p (elements_bytes ok ps)

    directs_bytes : {t : ℕ} {vs : Values} → DirectsWrite G t vs → SlotsBytes (directs_slots P t vs)
    unfolding directs_slots
    directs_bytes no-direct = tt
    directs_bytes {t} (directs {v = v} g gs) = (inner (O.Table t) v g, directs_bytes gs)

    content_bytes : {ob : Object} {v : Value} → ContentWrites G o S ob v → SlotsBytes (content_slots P o S ob v)
    unfolding content_slots as_blob as_row
    content_bytes (text h t) = (h, ((omega arith, tt), tt))
    content_bytes (bytes h) = (h, tt)
    content_bytes (list {i = i} h) = elements_bytes (sound.lists i).kind h
    content_bytes (table {i = i} h) = members_bytes (sound.tables i).members h
    content_bytes (direct_list {t = t} d f l h) =
        unfold direct_slots in
        (le_bytes_bytes 4 (table_of S t).id, (le_bytes_bytes 4 (fixed_size o S (table_of S t).members), directs_bytes h))

  pub plan_bytes : (o d : ℕ) (ob : Object) (v : Value) → Writes d o S ob v → SlotsBytes (plan d o S ob v)
  unfolding plan
  plan_bytes o zero ob v w = absurd w
  plan_bytes o (suc d) ob v w = content_bytes o (plan d o S) (Writes d o S) (plan_bytes o d) w
