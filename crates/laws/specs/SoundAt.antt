-- What a sound schema says of one record, and of an index, as those who go over the records use it.
use Rattle.std.specs.Prelude.{List, ℕ, pred, ◌<◌, ◌≤◌, length}
use Rattle.std.proofs.Common.{arith}
use Rattle.coding.specs.Schema.{Schema, struct_of, cases_of, table_of, field_of, case_of, member_of}
use Rattle.coding.specs.Packed as P
use Rattle.laws.specs.Sound.{All, NotDirect, FlatSound, ObjectSound, MemberSound, Sound}
use Rattle.laws.specs.Lists.{all-at}
use Rattle.laws.specs.Parsed.{structs-length, lists_length, unions-length, tables-length}

module _ (S : Schema) (s : Sound S) (i : ℕ) where
  pub field_sound-at : (j : ℕ) → j < length (struct_of S i) → FlatSound i (field_of S i j)
  unfolding field_of
  field_sound-at j l = all-at (FlatSound i) _ (struct_of S i) j (s.structs i).members l

  -- "cases from 1"
  pub case_sound-at : (c : ℕ) → 0 < c → c ≤ length (cases_of S i) → ObjectSound S (case_of (cases_of S i) c)
  unfolding case_of
  case_sound-at c n l = all-at (ObjectSound S) _ (cases_of S i) (pred c) (s.unions i).cases (omega arith)

  pub member_sound-at : (j : ℕ) → j < length (table_of S i).members → MemberSound S (member_of S i j)
  unfolding member_of
  member_sound-at j l = all-at (MemberSound S) _ (table_of S i).members j (s.tables i).members l

-- 02, K1: no case of a union that a table holds in place is a direct list
pub case-not-direct-at : (S : Schema) (i c : ℕ) → 0 < c → c ≤ length (cases_of S i) → All NotDirect (cases_of S i)
    → NotDirect (case_of (cases_of S i) c)
unfolding case_of
case-not-direct-at S i c n l h = all-at NotDirect _ (cases_of S i) (pred c) h (omega arith)

-- an index of the typed schema is one of the packed bytes
module _ (b : List ℕ) (i : ℕ) where
  pub struct_index : i < length (P.parse b).structs → i < P.struct_count b
  struct_index l = omega (arith, structs-length b)

  pub list_index : i < length (P.parse b).lists → i < P.list_count b
  list_index l = omega (arith, lists_length b)

  pub union_index : i < length (P.parse b).unions → i < P.union_count b
  union_index l = omega (arith, unions-length b)

  pub table_index : i < length (P.parse b).tables → i < P.table_count b
  table_index l = omega (arith, tables-length b)
