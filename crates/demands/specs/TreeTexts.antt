-- The texts of a tree of values, in the order of the walk, by the schema: what it holds as bytes is not among them.
use Rattle.std.specs.Prelude.{ℕ, zero, suc, List, [], ◌∷◌, ◌++◌}
use Rattle.coding.specs.Lists.{pick}
use Rattle.coding.specs.Schema.{Schema, element_of, cases_of, case_of, table_of}
use Rattle.coding.specs.Value.{Value, Values, none, ◌then◌, as_number, as_blob, as_row, as_object, present, first, others}
use Rattle.coding.specs.declared.Object.{Object}
use Rattle.coding.specs.declared.Object.TheVariants as O
use Rattle.coding.specs.declared.Kind.{Kind}
use Rattle.coding.specs.declared.Kind.TheVariants.{OfFlat, OfObject, OfUnion}
use Rattle.coding.specs.declared.Member.{Member}

-- the texts of an object's value
abbrev pub Texts : Type 0
Texts = Object → Value → List (List ℕ)

unfoldable pub part_texts : Texts → Schema → Kind → Value → List (List ℕ)
part_texts child S (OfFlat k) v = []
part_texts child S (OfObject ob) v = pick (present v) (child ob v) []
part_texts child S (OfUnion i) v = pick (present v) (child (case_of (cases_of S i) (as_number v)) (as_object v)) []

unfoldable pub members_texts : Texts → Schema → List Member → Values → List (List ℕ)
members_texts child S [] vs = []
members_texts child S (r ∷ rs) vs = part_texts child S r.kind (first vs) ++ members_texts child S rs (others vs)

unfoldable pub elements_texts : Texts → Schema → Kind → Values → List (List ℕ)
elements_texts child S k none = []
elements_texts child S k (v then vs) = part_texts child S k v ++ elements_texts child S k vs

unfoldable pub directs_texts : Texts → ℕ → Values → List (List ℕ)
directs_texts child t none = []
directs_texts child t (v then vs) = child (O.Table t) v ++ directs_texts child t vs

unfoldable pub content_texts : Texts → Schema → Texts
content_texts child S O.Text v = as_blob v ∷ []
content_texts child S O.Bytes v = []
content_texts child S (O.List i) v = elements_texts child S (element_of S i) (as_row v)
content_texts child S (O.Table i) v = members_texts child S (table_of S i).members (as_row v)
content_texts child S (O.DirectList t) v = directs_texts child t (as_row v)

-- the object with all that it leads to, d objects deep
unfoldable pub tree_texts : ℕ → Schema → Texts
tree_texts zero S ob v = []
tree_texts (suc d) S ob v = content_texts (tree_texts d S) S ob v
