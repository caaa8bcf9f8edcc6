-- A walker's answer; what an arrival is charged; the walk's definitions by what the walkers are given. A walker is given, and
-- answers, what is left of both allowances.
-- `o` is the width of an offset in bytes.
use Rattle.std.specs.Prelude.{ℕ, zero, suc, ◌-◌, List, eqb, Ok, Err}
use Rattle.coding.specs.Lists.{pick}
use Rattle.coding.specs.Schema as Sc
use Rattle.coding.specs.Packed as P
use Rattle.coding.specs.Layout as L
use Rattle.coding.specs.Step as T
use Rattle.coding.specs.Walk as W
use Rattle.coding.specs.Walk.{Walked}
use Rattle.coding.specs.declared.Object.{Object}
use Rattle.coding.specs.declared.Object.TheVariants as O
use Rattle.coding.specs.declared.Kind.{Kind}
use Rattle.coding.specs.declared.Member.{Member}
use Rattle.coding.specs.declared.Cursor.{Cursor}
use Rattle.coding.specs.declared.Place.{Place}
use Rattle.coding.specs.declared.Place.TheVariants.{ByOffset}
use Rattle.coding.specs.declared.Step.{Step}
use Rattle.coding.specs.declared.Spent.{Spent}
use Rattle.outcome.specs.declared.Content.{Content}
use Rattle.outcome.specs.declared.Part.{Part}
use Rattle.outcome.specs.declared.Outcome.{Outcome}
use Rattle.outcome.specs.Left as Left

-- what an answer says is left
abbrev pub left_of : Outcome → Spent
left_of w = W.spending w.visits w.content

-- a walker's answer: 0 to go on, or a refusal's number and 1
unfoldable pub walked_of : Outcome → Walked
walked_of w =
    pick (eqb w.code 0) (Ok (left_of w)) (Err (record { number = w.code - 1; place = w.place; member = w.member }, left_of w))

-- ---- what an arrival is charged
-- an object with d objects of depth left, itself counted: too deep, or to be opened
unfoldable pub within : ℕ → W.Child
within zero ob p s = W.too_deep ob p s
within (suc d) ob p s = Ok s

-- what `Left.visit` does at an object at `at` before it reads anything of it, whatever the object
unfoldable pub charged : ℕ → ℕ → Spent → Walked
charged d at s = Left.counted (within d) O.Text (ByOffset at) s

-- the test of a text's bytes once its length is charged: its end byte, then the text; a text has no parts
unfoldable pub text_tested : List ℕ → ℕ → ℕ → ℕ → Spent → Walked
text_tested m holder start n s =
    pick (W.end_ok m O.Text start n) (pick (W.text_ok m O.Text start n) (Ok s) (W.refuse 16 holder s)) (W.refuse 10 holder s)

-- ---- the walk of the message m by the packed schema b, with d objects of depth left
-- an arrival
abbrev pub visit_by : ℕ → List ℕ → List ℕ → ℕ → W.Child
visit_by o b m d = Left.visit d o (P.parse b) m

-- an object's content, which fits: its charge, the test of its bytes, and its parts
abbrev pub content_by : ℕ → List ℕ → List ℕ → ℕ → Object → Content → Spent → Walked
content_by o b m d ob x s =
    Left.admit (visit_by o b m d) o (P.parse b) m ob x.holder (Ok (W.content_at x.start x.length)) s

-- the members of table t
abbrev pub members_by : ℕ → List ℕ → List ℕ → ℕ → ℕ → Content → Spent → Walked
members_by o b m d t x s =
    W.members (visit_by o b m d) o (P.parse b) m x.holder x.start x.length L.begin 0 (Sc.table_of (P.parse b) t).members s

-- the elements of a list
abbrev pub elements_by : ℕ → List ℕ → List ℕ → ℕ → Kind → Content → Spent → Walked
elements_by o b m d k x s = W.elements (visit_by o b m d) o (P.parse b) m x.holder x.start k x.length 0 s

-- the elements of a direct list of table t, of w bytes each
abbrev pub directs_by : ℕ → List ℕ → List ℕ → ℕ → ℕ → ℕ → Content → Spent → Walked
directs_by o b m d t w x s = W.directs (visit_by o b m d) t w x.length x.start s

-- the step of a member of a table with that content, before which the cursor stands
abbrev pub member_by : ℕ → List ℕ → List ℕ → Content → Cursor → Member → Step
member_by o b m x c r = T.member_step o (P.parse b) m x.start x.length c r

-- part j of the object with that content
abbrev pub part_of : Content → ℕ → Part
part_of x j = record { holder = x.holder; number = j }

-- what a part's step leads to
abbrev pub follow_by : ℕ → List ℕ → List ℕ → ℕ → Part → Step → Spent → Walked
follow_by o b m d part step s = W.follow (visit_by o b m d) part.holder part.number step s

-- the object of a part that is a union's known choice
abbrev pub choose_by : ℕ → List ℕ → List ℕ → ℕ → Part → Object → Place → Spent → Walked
choose_by o b m d part ob p s = W.follow_choice (visit_by o b m d) part.holder part.number ob p s

-- the object that an offset leads to: none where it is 0, else an arrival. No part can be refused by it.
unfoldable pub referred : W.Child → Object → ℕ → Spent → Walked
referred child ob x s = pick (eqb x 0) (Ok s) (child ob (ByOffset x) s)
