-- What is reached in a message and what is lawful, apart from the walk, with no order and nothing handed on: the root is
-- reached, and so is whatever a part of a reached object leads to; and what the arrivals cost, a shared object at each of its
-- arrivals. `o` is the width of an offset in bytes.
use Rattle.std.specs.Prelude.{ℕ, zero, suc, ◌≤◌, ◌<◌, ◌+◌, ◌*◌, List, true, ◌≡◌, length, get_or, take, Result, Ok, Err}
use Rattle.coding.specs.Bytes.{deepest}
use Rattle.coding.specs.Schema.{Schema, element_of, table_of, plain_bool}
use Rattle.coding.specs.Packed.{parse}
use Rattle.coding.specs.Lawful.{lawful}
use Rattle.coding.specs.Layout.{begin, after_members}
use Rattle.coding.specs.Step.{member_step, element_step}
use Rattle.coding.specs.Walk.{placed, element_size, content_length, fit_object, open_object, spending, nothing, root_place, size_ok, start_ok, content_at}
use Rattle.coding.specs.declared.Object.{Object}
use Rattle.coding.specs.declared.Object.TheVariants as Ob
use Rattle.coding.specs.declared.Member.{Member}
use Rattle.coding.specs.declared.Cursor.{Cursor}
use Rattle.coding.specs.declared.Place.{Place}
use Rattle.coding.specs.declared.Place.TheVariants.{ByOffset, InPlace}
use Rattle.coding.specs.declared.Step.{Step}
use Rattle.coding.specs.declared.Step.TheVariants as St
use Rattle.coding.specs.declared.Content.{Content}
use Rattle.coding.specs.declared.Budget.{Budget}
use Rattle.coding.specs.declared.Spent.{Spent}
use Rattle.demands.specs.Spending.{plus}

-- ---- the parts of an object: the members of a table, the elements of a list and of a direct list
-- how many there are, of an object of length n
unfoldable pub part_count : Schema → Object → ℕ → ℕ
part_count S Ob.Text n = 0
part_count S Ob.Bytes n = 0
part_count S (Ob.List i) n = n
part_count S (Ob.Table i) n = length (table_of S i).members
part_count S (Ob.DirectList t) n = n

-- what member j holds, of the members of a table whose fixed part has n bytes from `start`: where it stands depends on the
-- members before it, from the cursor on
unfoldable pub member_at : ℕ → Schema → List ℕ → ℕ → ℕ → Cursor → List Member → ℕ → Step
member_at o S m start n c rs j = member_step o S m start n (after_members o S (take j rs) c) (get_or rs j plain_bool)

-- element j of a direct list of table t, of w bytes: a table "placed at its first byte" (02, K1)
unfoldable pub direct_at : ℕ → ℕ → ℕ → ℕ → Step
direct_at t w start j = St.Object (Ob.Table t) (InPlace (start + w * j) w)

-- what part j holds, of an object at a place whose content starts at `start` and has length n
unfoldable pub part_step : ℕ → Schema → List ℕ → Object → ℕ → ℕ → ℕ → ℕ → Step
part_step o S m Ob.Text at start n j = St.Absent
part_step o S m Ob.Bytes at start n j = St.Absent
part_step o S m (Ob.List i) at start n j = element_step o S m (element_of S i) start j
part_step o S m (Ob.Table i) at start n j = member_at o S m start n begin (table_of S i).members j
part_step o S m (Ob.DirectList t) at start n j = direct_at t (element_size o m at) start j

-- ---- what is reached
-- a step leads to an object
pub data LeadsTo : Step → Object → Place → Type 0 where
  by_reference : {ob : Object} {p : Place} → LeadsTo (St.Object ob p) ob p
  by-choice : {c : ℕ} {ob : Object} {p : Place} → LeadsTo (St.Choice c ob p) ob p

-- "Depth: 32 objects, the root being 1; following a reference or entering in-place content adds 1."; 02, K1, of a direct list: "each
-- element one more and one deeper"
pub data Arrives (o : ℕ) (S : Schema) (m : List ℕ) : ℕ → Object → Place → Type 0 where
  root : Arrives o S m 1 (Ob.Table S.root) (root_place o m)
  below : {d : ℕ} {ob ob' : Object} {p p' : Place} (start n j : ℕ) → Arrives o S m d ob p
      → open_object o S m ob p ≡ Ok (content_at start n) → j < part_count S ob n → LeadsTo (part_step o S m ob (placed p) start n j) ob' p'
      → Arrives o S m (suc d) ob' p'

-- ---- what is lawful
-- by offset, an offset; in place, anything
abbrev pub PlaceGiven : Place → Type 0
PlaceGiven (ByOffset x) = x ≡ 0 → ⊥
PlaceGiven (InPlace a n) = Unit {0}

-- no part is cut, no flag without value, no struct boolean other than 0 and 1, no known choice without an offset
abbrev pub LawfulStep : Step → Type 0
LawfulStep (St.Refused n) = ⊥
LawfulStep St.Absent = Unit {0}
LawfulStep (St.Value x) = Unit {0}
LawfulStep (St.Unknown x) = Unit {0}
LawfulStep (St.Struct i at) = Unit {0}
LawfulStep (St.Object ob p) = Unit {0}
LawfulStep (St.Choice c ob p) = PlaceGiven p

-- the object opens (its offset and header fit, its magic is right, its content fits, a text's end byte is 0 and its bytes are text),
-- and each of its parts is lawful
pub record LawfulObject (o : ℕ) (S : Schema) (m : List ℕ) (ob : Object) (p : Place) : Type 0 where
  pub start : ℕ
  pub size : ℕ
  pub opens : open_object o S m ob p ≡ Ok (content_at start size)
  pub parts : (j : ℕ) → j < part_count S ob size → LawfulStep (part_step o S m ob (placed p) start size j)

-- ---- what the arrivals cost, "shared objects each time, in-place ones too"
-- what f costs at each number below n, together
unfoldable pub sum : (ℕ → Spent) → ℕ → Spent
sum f zero = nothing
sum f (suc n) = plus (f 0) (sum (λ j. f (suc j)) n)

-- what a step leads to, given what each object costs
unfoldable pub cost_at : (Object → Place → Spent) → Step → Spent
cost_at child (St.Refused n) = nothing
cost_at child St.Absent = nothing
cost_at child (St.Value x) = nothing
cost_at child (St.Unknown x) = nothing
cost_at child (St.Struct i at) = nothing
cost_at child (St.Object ob p) = child ob p
cost_at child (St.Choice c ob p) = child ob p

-- the parts of an object that was opened
unfoldable pub cost_in : (Object → Place → Spent) → ℕ → Schema → List ℕ → Object → ℕ → Result Content ℕ → Spent
cost_in child o S m ob at (Err n) = nothing
cost_in child o S m ob at (Ok c) = sum (λ j. cost_at child (part_step o S m ob at c.start c.length j)) (part_count S ob c.length)

-- 02, K7: "Each arrival whose content fits adds its content length"; "a direct list itself adds 0", and each of its elements its fixed
-- part
unfoldable pub charge : ℕ → Schema → Object → Result Content ℕ → ℕ
charge o S ob (Err n) = 0
charge o S ob (Ok c) = content_length o S ob c.length

-- the arrivals at an object and below it, d objects deep: "Every arrival at an object counts one visit", and adds its content
unfoldable pub cost : ℕ → ℕ → Schema → List ℕ → Object → Place → Spent
cost zero o S m ob p = nothing
cost (suc d) o S m ob p =
    plus (spending 1 (charge o S ob (fit_object o S m ob p))) (cost_in (cost d o S m) o S m ob (placed p) (open_object o S m ob p))

unfoldable pub message_cost : ℕ → Schema → List ℕ → Spent
message_cost o S m = cost deepest o S m (Ob.Table S.root) (root_place o m)

-- how many arrivals there are, and the content of all of them
abbrev pub message_arrivals : ℕ → Schema → List ℕ → ℕ
message_arrivals o S m = (message_cost o S m).visits

abbrev pub message_content : ℕ → Schema → List ℕ → ℕ
message_content o S m = (message_cost o S m).content

-- ---- accepted. 02, K7: ""Budget" in the demands and K4 now means both allowances"
pub record Accepted (o : ℕ) (S : Schema) (m : List ℕ) (b : Budget) : Type 0 where
  pub depth : (d : ℕ) (ob : Object) (p : Place) → Arrives o S m d ob p → d ≤ deepest
  pub lawful : (d : ℕ) (ob : Object) (p : Place) → Arrives o S m d ob p → LawfulObject o S m ob p
  pub visits : message_arrivals o S m ≤ b.visits
  pub content : message_content o S m ≤ b.content

-- a message that a schema's bytes and a budget accept
pub record LawfulMessage (o : ℕ) (b m : List ℕ) (budget : Budget) : Type 0 where
  pub schema : lawful o b ≡ true
  pub size : size_ok o m ≡ true
  pub start : start_ok m ≡ true
  pub objects : Accepted o (parse b) m budget
