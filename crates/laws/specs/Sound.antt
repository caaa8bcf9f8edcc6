-- What a lawful schema gives to the proofs, in the terms of the typed schema. `lawful` is shown once to give it.
use Rattle.std.specs.Prelude.{◌≡◌, List, [], ◌∷◌, true, ◌⊎◌, ℕ, ◌+◌, ◌^◌, ◌<◌, ◌≤◌, length}
use Rattle.coding.specs.Lists.{pick}
use Rattle.coding.specs.Schema.{Schema, struct_of, element_of, cases_of, table_of}
use Rattle.coding.specs.Structs.{struct_size}
use Rattle.coding.specs.declared.Flat.{Flat}
use Rattle.coding.specs.declared.Flat.TheVariants.{Boolean, Integer, Float, Enumerated, Struct}
use Rattle.coding.specs.declared.Object.{Object}
use Rattle.coding.specs.declared.Object.TheVariants as O
use Rattle.coding.specs.declared.Kind.{Kind}
use Rattle.coding.specs.declared.Kind.TheVariants.{OfFlat, OfObject, OfUnion}
use Rattle.coding.specs.declared.Member.{Member}

-- P of each
abbrev pub All : {A : Type 0} → (A → Type 0) → List A → Type 0
All P [] = Unit {0}
All P (x ∷ xs) = P x × All P xs

-- widths, enum counts and struct indices (below n) in range
abbrev pub FlatSound : ℕ → Flat → Type 0
FlatSound n Boolean = Unit {0}
FlatSound n (Integer s w) = (0 < w) × (w ≤ 8)
FlatSound n (Float w) = (w ≡ 4) ⊎ (w ≡ 8)
FlatSound n (Enumerated c) = (0 < c) × (c ≤ 255)
FlatSound n (Struct i) = i < n

-- how many members stand in place
unfoldable pub inplace_count : List Member → ℕ
inplace_count [] = 0
inplace_count (r ∷ rs) = pick r.inplace 1 0 + inplace_count rs

-- the table of a direct list's elements. 02, K1: "its table must have at least one member and none in place"
pub record DirectSound (S : Schema) (t : ℕ) : Type 0 where
  pub table : t < length S.tables
  pub some : 0 < length (table_of S t).members
  pub outside : inplace_count (table_of S t).members ≡ 0

-- every index stands for something
abbrev pub ObjectSound : Schema → Object → Type 0
ObjectSound S O.Text = Unit {0}
ObjectSound S O.Bytes = Unit {0}
ObjectSound S (O.List i) = i < length S.lists
ObjectSound S (O.Table i) = i < length S.tables
ObjectSound S (O.DirectList t) = DirectSound S t

abbrev pub KindSound : Schema → Kind → Type 0
KindSound S (OfFlat k) = FlatSound (length S.structs) k
KindSound S (OfObject ob) = ObjectSound S ob
KindSound S (OfUnion i) = i < length S.unions

-- no struct
abbrev pub FlatScalar : Flat → Type 0
FlatScalar Boolean = Unit {0}
FlatScalar (Integer s w) = Unit {0}
FlatScalar (Float w) = Unit {0}
FlatScalar (Enumerated n) = Unit {0}
FlatScalar (Struct i) = ⊥

abbrev pub NoStruct : Kind → Type 0
NoStruct (OfFlat k) = FlatScalar k
NoStruct (OfObject ob) = Unit {0}
NoStruct (OfUnion i) = Unit {0}

-- what may be optional, and what may stand in place
abbrev pub FlatOptional : Flat → Type 0
FlatOptional Boolean = Unit {0}
FlatOptional (Integer s w) = Unit {0}
FlatOptional (Float w) = Unit {0}
FlatOptional (Enumerated n) = ⊥
FlatOptional (Struct i) = Unit {0}

abbrev pub MayBeOptional : Kind → Type 0
MayBeOptional (OfFlat k) = FlatOptional k
MayBeOptional (OfObject ob) = ⊥
MayBeOptional (OfUnion i) = ⊥

-- no direct list
abbrev pub NotDirect : Object → Type 0
NotDirect O.Text = Unit {0}
NotDirect O.Bytes = Unit {0}
NotDirect (O.List i) = Unit {0}
NotDirect (O.Table i) = Unit {0}
NotDirect (O.DirectList t) = ⊥

-- 02, K1: a direct list is "never in place nor a case of a union that a table holds in place"
abbrev pub MayStandInPlace : Schema → Kind → Type 0
MayStandInPlace S (OfFlat k) = ⊥
MayStandInPlace S (OfObject ob) = NotDirect ob
MayStandInPlace S (OfUnion i) = All NotDirect (cases_of S i)

pub record MemberSound (S : Schema) (r : Member) : Type 0 where
  pub kind : KindSound S r.kind
  pub optional : r.optional ≡ true → MayBeOptional r.kind
  pub inplace : r.inplace ≡ true → MayStandInPlace S r.kind

pub record TableSound (S : Schema) (i : ℕ) : Type 0 where
  pub id : (table_of S i).id < 2 ^ 32
  pub few : length (table_of S i).members ≤ 64
  pub members : All (MemberSound S) (table_of S i).members
  pub one : inplace_count (table_of S i).members ≤ 1

pub record StructSound (S : Schema) (i : ℕ) : Type 0 where
  pub few : length (struct_of S i) ≤ 32
  pub members : All (FlatSound i) (struct_of S i)
  pub size : struct_size S i ≤ 4096
  pub some : i < length S.structs → 0 < struct_size S i

pub record UnionSound (S : Schema) (i : ℕ) : Type 0 where
  pub few : length (cases_of S i) ≤ 32
  pub cases : All (ObjectSound S) (cases_of S i)

pub record ListSound (S : Schema) (i : ℕ) : Type 0 where
  pub kind : KindSound S (element_of S i)
  pub scalar : NoStruct (element_of S i)

pub record Sound (S : Schema) : Type 0 where
  pub root : S.root < length S.tables
  pub few_tables : length S.tables ≤ 64
  pub structs : (i : ℕ) → StructSound S i
  pub lists : (i : ℕ) → ListSound S i
  pub unions : (i : ℕ) → UnionSound S i
  pub tables : (i : ℕ) → TableSound S i

-- ---- what a schema that is lawful under the older coding gives besides. 02, K5: "a direct list is 1 under this coding"
abbrev pub KindNotDirect : Kind → Type 0
KindNotDirect (OfFlat k) = Unit {0}
KindNotDirect (OfObject ob) = NotDirect ob
KindNotDirect (OfUnion i) = Unit {0}

abbrev pub MemberNotDirect : Member → Type 0
MemberNotDirect r = KindNotDirect r.kind

-- no list, union or table has a direct list
pub record NoDirects (S : Schema) : Type 0 where
  pub lists : (i : ℕ) → KindNotDirect (element_of S i)
  pub unions : (i : ℕ) → All NotDirect (cases_of S i)
  pub tables : (i : ℕ) → All MemberNotDirect (table_of S i).members
