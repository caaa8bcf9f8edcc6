-- A schema that appends to one that appends to a third appends to the third: each relation of coding's Append is transitive.
use Rattle.std.specs.Prelude.{ℕ, List}
use Rattle.std.proofs.Common.{le_trans, ◌∙◌}
use Rattle.coding.specs.Schema.{Schema, Table}
use Rattle.coding.specs.Append.{Extends, rest, more, Alike, done, also, FlatAppends, boolean, integer, float, enumerated, struct, KindAppends, flat, object, union, MemberAppends, SameObject, same, TableAppends, SchemaAppends, Appends}
use Rattle.coding.specs.declared.Flat.{Flat}
use Rattle.coding.specs.declared.Object.{Object}
use Rattle.coding.specs.declared.Kind.{Kind}
use Rattle.coding.specs.declared.Member.{Member}

-- ---- lists of what is appended to
module _ {A : Type 0} (R : A → A → Type 0) (twice : (x y z : A) → R x y → R y z → R x z) where
  extends-twice : (xs ys zs : List A) → Extends R xs ys → Extends R ys zs → Extends R xs zs
  extends-twice xs ys zs rest l = rest
  extends-twice xs ys zs (more {x} {y} {xs = us} {ys = vs} r k) (more {y = z} {ys = ws} q l) =
      more (twice x y z r q) (extends-twice us vs ws k l)

  alike-twice : (xs ys zs : List A) → Alike R xs ys → Alike R ys zs → Alike R xs zs
  alike-twice xs ys zs done done = done
  alike-twice xs ys zs (also {x} {y} {xs = us} {ys = vs} r k) (also {y = z} {ys = ws} q l) =
      also (twice x y z r q) (alike-twice us vs ws k l)

-- ---- records
flat-twice : (k k' k'' : Flat) → FlatAppends k k' → FlatAppends k' k'' → FlatAppends k k''
flat-twice k k' k'' boolean boolean = boolean
flat-twice k k' k'' integer integer = integer
flat-twice k k' k'' float float = float
flat-twice k k' k'' (enumerated h) (enumerated g) = enumerated (le_trans h g)
flat-twice k k' k'' struct struct = struct

kind-twice : (k k' k'' : Kind) → KindAppends k k' → KindAppends k' k'' → KindAppends k k''
kind-twice k k' k'' (flat r) (flat q) = flat (flat-twice _ _ _ r q)
kind-twice k k' k'' object object = object
kind-twice k k' k'' union union = union

member-twice : (r r' r'' : Member) → MemberAppends r r' → MemberAppends r' r'' → MemberAppends r r''
member-twice r r' r'' p q =
    record {
      kind = kind-twice _ _ _ p.kind q.kind;
      optional = p.optional ∙ q.optional;
      inplace = p.inplace ∙ q.inplace;
    }

object-twice : (x y z : Object) → SameObject x y → SameObject y z → SameObject x z
object-twice x y z same same = same

table-twice : (t t' t'' : Table) → TableAppends t t' → TableAppends t' t'' → TableAppends t t''
table-twice t t' t'' p q =
    record { id = p.id ∙ q.id; members = extends-twice MemberAppends member-twice _ _ _ p.members q.members }

-- ---- schemas
schema-twice : (O M N : Schema) → SchemaAppends O M → SchemaAppends M N → SchemaAppends O N
schema-twice O M N p q =
    record {
      root = p.root ∙ q.root;
      structs = extends-twice (Alike FlatAppends) (alike-twice FlatAppends flat-twice) _ _ _ p.structs q.structs;
      lists = extends-twice KindAppends kind-twice _ _ _ p.lists q.lists;
      unions = extends-twice (Extends SameObject) (extends-twice SameObject object-twice) _ _ _ p.unions q.unions;
      tables = extends-twice TableAppends table-twice _ _ _ p.tables q.tables;
    }

-- THE CLAIM: under one coding, what is appended to twice is appended to
pub appends-twice : (o : ℕ) (oldest middle newest : List ℕ) → Appends o oldest middle → Appends o middle newest → Appends o oldest newest
appends-twice o oldest middle newest p q =
    record {
      older-lawful = p.older-lawful;
      newer-lawful = q.newer-lawful;
      schemas = schema-twice _ _ _ p.schemas q.schemas;
    }
