-- The content lengths of a tree's objects, in the order of the walk: an object's own, and then those of what it leads to, one for
-- each arrival of a walk over a message that holds the tree. `o` is the width of an offset in bytes.
use Rattle.std.specs.Prelude.{ℕ, zero, suc, List, [], ◌∷◌, ◌++◌}
use Rattle.coding.specs.Lists.{pick}
use Rattle.coding.specs.Schema.{Schema, element_of, cases_of, case_of, table_of}
use Rattle.coding.specs.Walk.{content_length}
use Rattle.coding.specs.Value.{Value, Values, none, ◌then◌, as_number, as_row, as_object, present, first, others}
use Rattle.coding.specs.Message.{length_of}
use Rattle.coding.specs.declared.Object.{Object}
use Rattle.coding.specs.declared.Object.TheVariants as O
use Rattle.coding.specs.declared.Kind.{Kind}
use Rattle.coding.specs.declared.Kind.TheVariants.{OfFlat, OfObject, OfUnion}
use Rattle.coding.specs.declared.Member.{Member}

abbrev pub Lengths : Type 0
Lengths = Object → Value → List ℕ

unfoldable pub part_lengths : Lengths → Schema → Kind → Value → List ℕ
part_lengths child S (OfFlat k) v = []
part_lengths child S (OfObject ob) v = pick (present v) (child ob v) []
part_lengths child S (OfUnion i) v = pick (present v) (child (case_of (cases_of S i) (as_number v)) (as_object v)) []

unfoldable pub members_lengths : Lengths → Schema → List Member → Values → List ℕ
members_lengths child S [] vs = []
members_lengths child S (r ∷ rs) vs = part_lengths child S r.kind (first vs) ++ members_lengths child S rs (others vs)

unfoldable pub elements_lengths : Lengths → Schema → Kind → Values → List ℕ
elements_lengths child S k none = []
elements_lengths child S k (v then vs) = part_lengths child S k v ++ elements_lengths child S k vs

unfoldable pub directs_lengths : Lengths → ℕ → Values → List ℕ
directs_lengths child t none = []
directs_lengths child t (v then vs) = child (O.Table t) v ++ directs_lengths child t vs

unfoldable pub parts_lengths : Lengths → Schema → Lengths
parts_lengths child S O.Text v = []
parts_lengths child S O.Bytes v = []
parts_lengths child S (O.List i) v = elements_lengths child S (element_of S i) (as_row v)
parts_lengths child S (O.Table i) v = members_lengths child S (table_of S i).members (as_row v)
parts_lengths child S (O.DirectList t) v = directs_lengths child t (as_row v)

-- the object with all that it leads to, d objects deep
unfoldable pub tree_lengths : ℕ → ℕ → Schema → Lengths
tree_lengths zero o S ob v = []
tree_lengths (suc d) o S ob v = content_length o S ob (length_of o S ob v) ∷ parts_lengths (tree_lengths d o S) S ob v
