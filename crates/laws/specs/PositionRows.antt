-- The rows of member positions (02, K10): how many there are, which one is a member's, and where in the table it stands. What a row
-- holds is not looked at here.
use Rattle.std.specs.Prelude.{◌≡◌, take, drop}
use Rattle.std.proofs.Math.Path.{refl, ap}
use Rattle.std.proofs.Common.{sym, ◌∙◌, take-suc, take_all}
use mathlib.Core.List.{List, [], ◌∷◌, ◌++◌, flat_map}
use Prim.Native.Nat.{ℕ, zero, suc, ◌+◌, ◌*◌, ◌<◌, ◌≤◌}
use native.Mathlib.Omega.{arith}
use Rattle.std.proofs.Math.ListN.{length, get_or, length-append}
use Rattle.coding.specs.Bytes.{le_bytes}
use Rattle.coding.specs.Schema.{Schema, Table, table_of, plain_bool}
use Rattle.coding.specs.Packed.{table_count, records, record_place, blocks, table_place, parse}
use Rattle.coding.specs.Layout.{begin, placement_of, after_member, after_members}
use Rattle.coding.specs.Positions.{row_of, row_bytes, member_rows, table_rows}
use Rattle.coding.specs.declared.Member.{Member}
use Rattle.coding.specs.declared.Cursor.{Cursor}
use Rattle.coding.specs.declared.Row.{Row}
use Rattle.laws.specs.FlatMaps.{flat_map-length, flat_map-before, flat_map_split, flat_map-at}
use Rattle.laws.specs.Parsed.{tables-length, members-length}

-- ---- how many
-- how many members these tables have together
unfoldable pub member_total : List Table → ℕ
member_total [] = 0
member_total (t ∷ ts) = length t.members + member_total ts

total-append : (xs ys : List Table) → member_total (xs ++ ys) ≡ member_total xs + member_total ys
unfolding member_total
total-append [] ys = omega arith
total-append (t ∷ xs) ys = omega (arith, total-append xs ys)

-- three U32s
pub row_bytes-length : (x : Row) → length (row_bytes x) ≡ 12
unfolding row_bytes le_bytes
row_bytes-length x = refl

-- row x stands in the table t, from byte `at` on
pub record RowIn (t : List ℕ) (at : ℕ) (x : Row) : Type 0 where
  pub before : List ℕ
  pub behind : List ℕ
  pub is : t ≡ before ++ (row_bytes x ++ behind)
  pub place : length before ≡ at

module _ (o : ℕ) (S : Schema) where
  pub member-rows-length : (c : Cursor) (rs : List Member) → length (member_rows o S c rs) ≡ length rs
  unfolding member_rows
  member-rows-length c [] = refl
  member-rows-length c (r ∷ rs) = ap suc (member-rows-length (after_member o S r c) rs)

  pub table-rows-length : (ts : List Table) → length (flat_map (table_rows o S) ts) ≡ member_total ts
  unfolding flat_map table_rows member_total
  table-rows-length [] = refl
  table-rows-length (t ∷ ts) =
      omega (
        arith,
        length-append (table_rows o S t) (flat_map (table_rows o S) ts),
        member-rows-length begin t.members,
        table-rows-length ts,
      )

  pub table_bytes-length : (ts : List Table) → length (flat_map row_bytes (flat_map (table_rows o S) ts)) ≡ 12 * member_total ts
  table_bytes-length ts =
      flat_map-length row_bytes 12 row_bytes-length (flat_map (table_rows o S) ts) ∙ ap (λ (n : ℕ). 12 * n) (table-rows-length ts)

  -- ---- which one
  pub member-rows-at : (d : Row) (c : Cursor) (rs : List Member) (j : ℕ) → j < length rs
      → get_or (member_rows o S c rs) j d ≡ row_of (get_or rs j plain_bool) (placement_of o S (get_or rs j plain_bool) (after_members o S (take j rs) c))
  unfolding member_rows after_members
  member-rows-at d c [] j l = absurd (omega arith)
  member-rows-at d c (r ∷ rs) zero l = refl
  member-rows-at d c (r ∷ rs) (suc j) l = member-rows-at d (after_member o S r c) rs j (omega arith)

  -- member j of table i, where d is what stands past the end
  module _ (d : Table) (e : Row) (ts : List Table) (i j : ℕ) (l : i < length ts) (m : j < length (get_or ts i d).members) where
    few-rows : member_total (take i ts) + j < length (flat_map (table_rows o S) ts)
    unfolding table_rows
    few-rows =
        omega (
          arith,
          ap length (flat_map_split (table_rows o S) d ts i l),
          length-append (flat_map (table_rows o S) (take i ts)) (table_rows o S (get_or ts i d) ++ flat_map (table_rows o S) (drop (suc i) ts)),
          length-append (table_rows o S (get_or ts i d)) (flat_map (table_rows o S) (drop (suc i) ts)),
          table-rows-length (take i ts),
          member-rows-length begin (get_or ts i d).members,
        )

    table-row-at : get_or (flat_map (table_rows o S) ts) (member_total (take i ts) + j) e ≡ get_or (table_rows o S (get_or ts i d)) j e
    unfolding table_rows
    table-row-at =
        ap (λ (k : ℕ). get_or (flat_map (table_rows o S) ts) (k + j) e) (sym (table-rows-length (take i ts)))
        ∙ flat_map-at (table_rows o S) d e ts i j l (omega (arith, member-rows-length begin (get_or ts i d).members))

    -- its row stands behind those of the members before it, of this table and of the tables before
    pub row_in : RowIn (flat_map row_bytes (flat_map (table_rows o S) ts)) (12 * (member_total (take i ts) + j)) (get_or (table_rows o S (get_or ts i d)) j e)
    row_in =
        let k = member_total (take i ts) + j in
        let rows = flat_map (table_rows o S) ts in
        record {
          before = flat_map row_bytes (take k rows);
          behind = flat_map row_bytes (drop (suc k) rows);
          is =
              flat_map_split row_bytes e rows k few-rows
              ∙ ap (λ (x : Row). flat_map row_bytes (take k rows) ++ (row_bytes x ++ flat_map row_bytes (drop (suc k) rows))) table-row-at;
          place = flat_map-before row_bytes 12 row_bytes-length rows k (omega (arith, few-rows));
        }

-- ---- where
next_place : (b : List ℕ) (i : ℕ) → table_place b (suc i) ≡ table_place b i + 5 + 2 * records b 4 (table_place b i)
unfolding table_place blocks record_place
next_place b i = omega arith

-- one table more
total_more : (d : Table) (ts : List Table) (i : ℕ) → i < length ts → member_total (take (suc i) ts) ≡ member_total (take i ts) + length (get_or ts i d).members
unfolding member_total
total_more d ts i l =
    ap member_total (take-suc ts i d l) ∙ total-append (take i ts) (get_or ts i d ∷ []) ∙ omega arith

next-total : (b : List ℕ) (i : ℕ) → i < table_count b
    → member_total (take (suc i) (parse b).tables) ≡ member_total (take i (parse b).tables) + length (table_of (parse b) i).members
unfolding table_of
next-total b i l = total_more _ (parse b).tables i (omega (arith, tables-length b))

-- the last table
pub total_last : (b : List ℕ) (i : ℕ) → suc i ≡ table_count b
    → member_total (parse b).tables ≡ member_total (take i (parse b).tables) + length (table_of (parse b) i).members
total_last b i e =
    let whole : take (suc i) (parse b).tables ≡ (parse b).tables = take_all (suc i) (parse b).tables (omega (arith, tables-length b)) in
    ap member_total (sym whole) ∙ next-total b i (omega arith)

-- "table: 32-bit id, 8-bit member count 0 to 64, records": a table takes five bytes of the schema, and two for each member
pub table-place : (b : List ℕ) (i : ℕ) → i ≤ table_count b → table_place b i ≡ table_place b 0 + 5 * i + 2 * member_total (take i (parse b).tables)
unfolding member_total
table-place b zero l = omega arith
table-place b (suc i) l =
    omega (arith, next_place b i, next-total b i (omega arith), members-length b i (omega arith), table-place b i (omega arith))
