-- Every refusal of a step or an arrival has a number above 0, which is the number of acceptance.
use Rattle.std.specs.Prelude.{ℕ, ◌<◌, ◌+◌, ◌%◌, List, Bool, true, false, ◌&&◌, length, get_or, ltb, leb, eqb, Result, Ok, Err}
use Rattle.std.proofs.Common.{arith}
use Rattle.coding.specs.Lists.{pick}
use Rattle.coding.specs.Bytes.{le, bit_at, is_nan}
use Rattle.coding.specs.Schema.{Schema, cases_of, table_of}
use Rattle.coding.specs.Structs.{struct_ok}
use Rattle.coding.specs.Layout.{has_flag, placement_of}
use Rattle.coding.specs.Step.{enum_step, float_step, object_step, union_step, flat_step, value_step, struct_tested, inside, flagged, placed_step, member_step, element_place, element_step}
use Rattle.coding.specs.Walk.{magic, header_size, element_id, most_elements, start_size, content_size, end_ok, text_ok, fit_content, direct_header, header_tested, stands_in_place, fit_object, bytes_tested, content_at}
use Rattle.coding.specs.declared.Flat.{Flat}
use Rattle.coding.specs.declared.Flat.TheVariants as F
use Rattle.coding.specs.declared.Object.{Object}
use Rattle.coding.specs.declared.Object.TheVariants as Ob
use Rattle.coding.specs.declared.Kind.{Kind}
use Rattle.coding.specs.declared.Kind.TheVariants.{OfFlat, OfObject, OfUnion}
use Rattle.coding.specs.declared.Member.{Member}
use Rattle.coding.specs.declared.Cursor.{Cursor}
use Rattle.coding.specs.declared.Slot.{Slot}
use Rattle.coding.specs.declared.Place.{Place}
use Rattle.coding.specs.declared.Place.TheVariants.{ByOffset, InPlace}
use Rattle.coding.specs.declared.Step.{Step}
use Rattle.coding.specs.declared.Step.TheVariants as St
use Rattle.coding.specs.declared.Content.{Content}

abbrev pub NumberedStep : Step → Type 0
NumberedStep (St.Refused n) = 0 < n
NumberedStep St.Absent = Unit {0}
NumberedStep (St.Value x) = Unit {0}
NumberedStep (St.Unknown x) = Unit {0}
NumberedStep (St.Struct i at) = Unit {0}
NumberedStep (St.Object ob p) = Unit {0}
NumberedStep (St.Choice c ob p) = Unit {0}

abbrev pub NumberedOpened : Result Content ℕ → Type 0
NumberedOpened (Err n) = 0 < n
NumberedOpened (Ok c) = Unit {0}

-- P of either is P of the one that is picked
pick_has : {A : Type 0} (P : A → Type 0) (t : Bool) {x y : A} → P x → P y → P (pick t x y)
pick_has P true h g = h
pick_has P false h g = g

pick_step : (t : Bool) (x y : Step) → NumberedStep x → NumberedStep y → NumberedStep (pick t x y)
pick_step t x y h g = pick_has NumberedStep t {x = x} {y = y} h g

flat_numbered : (m : List ℕ) (k : Flat) (none : Bool) (at bit : ℕ) → NumberedStep (flat_step m k none at bit)
unfolding flat_step float_step enum_step
flat_numbered m F.Boolean none at bit = tt
flat_numbered m (F.Integer s w) none at bit = tt
flat_numbered m (F.Float w) none at bit = pick_step (none && is_nan w (le m at w)) _ _ tt tt
flat_numbered m (F.Enumerated n) none at bit =
    pick_step (eqb (get_or m at 0) 255) _ _ tt (pick_step (ltb (get_or m at 0) n) _ _ tt tt)
flat_numbered m (F.Struct i) none at bit = tt

tested_numbered : (S : Schema) (m : List ℕ) (s : Step) → NumberedStep s → NumberedStep (struct_tested S m s)
unfolding struct_tested
tested_numbered S m (St.Refused n) h = h
tested_numbered S m St.Absent h = tt
tested_numbered S m (St.Value x) h = tt
tested_numbered S m (St.Unknown x) h = tt
tested_numbered S m (St.Struct i at) h = pick_step (struct_ok S m i at) _ (St.Refused 10) tt (omega arith)
tested_numbered S m (St.Object ob p) h = tt
tested_numbered S m (St.Choice c ob p) h = tt

value_numbered : (o : ℕ) (S : Schema) (m : List ℕ) (k : Kind) (none inplace : Bool) (tail at bit : ℕ)
    → NumberedStep (value_step o S m k none inplace tail at bit)
unfolding value_step object_step union_step
value_numbered o S m (OfFlat k) none inplace tail at bit = flat_numbered m k none at bit
value_numbered o S m (OfObject ob) none inplace tail at bit = pick_step (eqb (le m at o) 0) _ _ tt tt
value_numbered o S m (OfUnion i) none inplace tail at bit =
    pick_step (eqb (le m at 2) 0) _ _ tt (pick_step (leb (le m at 2) (length (cases_of S i))) _ _ tt tt)

inside_numbered : (n : ℕ) (slot : Slot) (x y : Step) → NumberedStep x → NumberedStep y → NumberedStep (inside n slot x y)
unfolding inside
inside_numbered n slot x y h g =
    pick_step (leb n slot.at) x _ h (pick_step (leb (slot.at + slot.size) n) y (St.Refused 8) g (omega arith))

flagged_numbered : (m : List ℕ) (start n : ℕ) (flag slot : Slot) (x : Step) → NumberedStep x
    → NumberedStep (flagged m start n flag slot x)
unfolding flagged
flagged_numbered m start n flag slot x h =
    pick_step (leb n flag.at) St.Absent _ tt
    (pick_step (eqb (bit_at m (start + flag.at) flag.bit) 1) (inside n slot (St.Refused 8) x) (inside n slot St.Absent St.Absent)
    (inside_numbered n slot (St.Refused 8) x (omega arith) h)
    (inside_numbered n slot St.Absent St.Absent tt tt))

pub member_numbered : (o : ℕ) (S : Schema) (m : List ℕ) (start n : ℕ) (c : Cursor) (r : Member)
    → NumberedStep (member_step o S m start n c r)
unfolding member_step placed_step
member_numbered o S m start n c r =
    let p = placement_of o S r c in
    let slot = p.value in
    let here = value_step o S m r.kind r.optional r.inplace (start + n) (start + slot.at) slot.bit in
    let h : NumberedStep here = value_numbered o S m r.kind r.optional r.inplace (start + n) (start + slot.at) slot.bit in
    tested_numbered S m _
    (pick_step (has_flag r) (flagged m start n p.flag slot here) (inside n slot St.Absent here)
    (flagged_numbered m start n p.flag slot here h) (inside_numbered n slot St.Absent here tt h))

pub element_numbered : (o : ℕ) (S : Schema) (m : List ℕ) (k : Kind) (start i : ℕ) → NumberedStep (element_step o S m k start i)
unfolding element_step
element_numbered o S m k start i = tested_numbered S m _ (value_numbered o S m k true false 0 (element_place o S k start i) (i % 8))

content_numbered : (o : ℕ) (S : Schema) (m : List ℕ) (ob : Object) (at start n : ℕ) → NumberedOpened (fit_content o S m ob at start n)
unfolding fit_content
content_numbered o S m ob at start n =
    pick_has NumberedOpened (leb (start + content_size o S m ob at n) (length m)) {x = Ok (content_at start n)} {y = Err 6} tt (omega arith)

-- what a direct list's header says more
header_numbered : (o : ℕ) (S : Schema) (m : List ℕ) (ob : Object) (at : ℕ) (fit : Result Content ℕ) → NumberedOpened fit
    → NumberedOpened (header_tested o S m ob at fit)
unfolding header_tested direct_header
header_numbered o S m Ob.Text at fit h = h
header_numbered o S m Ob.Bytes at fit h = h
header_numbered o S m (Ob.List i) at fit h = h
header_numbered o S m (Ob.Table i) at fit h = h
header_numbered o S m (Ob.DirectList t) at fit h =
    pick_has NumberedOpened (eqb (element_id o m at) (table_of S t).id)
    {x = pick (leb (le m (at + 4) o) most_elements) fit (Err 6)} {y = Err 7}
    (pick_has NumberedOpened (leb (le m (at + 4) o) most_elements) {x = fit} {y = Err 6} h (omega arith))
    (omega arith)

pub fit_numbered : (o : ℕ) (S : Schema) (m : List ℕ) (ob : Object) (p : Place) → NumberedOpened (fit_object o S m ob p)
unfolding fit_object
fit_numbered o S m ob (ByOffset x) =
    let fit = fit_content o S m ob x (x + header_size o ob) (le m (x + 4) o) in
    pick_has NumberedOpened (leb (start_size o) x && leb (x + header_size o ob) (length m)) {y = Err 6}
    (pick_has NumberedOpened (eqb (le m x 4) (magic S ob)) {x = header_tested o S m ob x fit} {y = Err 7}
    (header_numbered o S m ob x fit (content_numbered o S m ob x (x + header_size o ob) (le m (x + 4) o))) (omega arith))
    (omega arith)
fit_numbered o S m ob (InPlace a n) =
    pick_has NumberedOpened (stands_in_place ob) {x = fit_content o S m ob a a n} {y = Err 6}
    (content_numbered o S m ob a a n) (omega arith)

pub bytes_numbered : (m : List ℕ) (ob : Object) (x : Result Content ℕ) → NumberedOpened x → NumberedOpened (bytes_tested m ob x)
unfolding bytes_tested
bytes_numbered m ob (Err n) h = h
bytes_numbered m ob (Ok c) h =
    pick_has NumberedOpened (end_ok m ob c.start c.length) {x = pick (text_ok m ob c.start c.length) (Ok c) (Err 16)} {y = Err 10}
    (pick_has NumberedOpened (text_ok m ob c.start c.length) {x = Ok c} {y = Err 16} tt (omega arith))
    (omega arith)
