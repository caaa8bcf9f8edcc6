-- Rows one behind the other: what is left of a table's rows, and of all tables'.
use mathlib.Core.Path.{◌≡◌, refl, sym, ap, ap₂, ◌∙◌, subst}
use mathlib.Core.Bool.{Bool, true, false, ◌&&◌, not}
use mathlib.Core.List.{List, [], ◌++◌, flat_map}
use Prim.Native.Nat.{ℕ, suc, ◌+◌, ◌*◌, ◌^◌, ◌<◌, ◌≤◌}
use native.Mathlib.Omega.{arith}
use native.Mathlib.Numerals.{add-one}
use lib.ListN.{length, get_or, drop, drop_of_length-le, length-append}
use lib.Seq.{sets, drop-cons}
use borrow.Author.Tests.{not-true, not-false}
use Rattle.coding.specs.Bytes.{le_bytes}
use Rattle.coding.specs.Schema as Sc
use Rattle.coding.specs.Packed as P
use Rattle.coding.specs.Layout as L
use Rattle.coding.specs.Positions as Po
use Rattle.coding.specs.declared.Member.{Member}
use Rattle.coding.specs.declared.Cursor.{Cursor}
use Rattle.coding.specs.declared.Row.{Row}
use Rattle.laws.specs.FlatMaps.{flat_map-append, flat_map-length}
use Rattle.laws.specs.Parsed.{tables-length}
use Rattle.laws.specs.PositionRows.{row_bytes-length, member-rows-length}
use Rattle.laws.specs.SameLists.{stands, stands-append}
use Rattle.wire.specs.Stores.{sets-append}
use Rattle.positions.specs.Rows.{Next, table_bytes, rest_bytes, tables_bytes}

pub next_of : (o : ℕ) (S : Sc.Schema) (r r' : Member) (c : Cursor) (row : Row) (next : Cursor) → r ≡ r' → Next o S r c row next → Next o S r' c row next
next_of o S r r' c row next e h = subst (λ (x : Member). Next o S x c row next) e h

-- ---- a row
-- three runs of four bytes, one behind the other
three_put : (x y z m m₁ m₂ m₃ : List ℕ) (at : ℕ) → length x ≡ 4 → length y ≡ 4 → m₁ ≡ sets m at x → m₂ ≡ sets m₁ (at + 4) y
    → m₃ ≡ sets m₂ (at + 8) z → m₃ ≡ sets m at (x ++ (y ++ z))
three_put x y z m m₁ m₂ m₃ at lx ly e₁ e₂ e₃ =
    let first : at + length x ≡ at + 4 = omega arith in
    let second : at + 4 + length y ≡ at + 8 = omega arith in
    e₃ ∙ ap (λ (l : List ℕ). sets l (at + 8) z) (e₂ ∙ ap (λ (l : List ℕ). sets l (at + 4) y) e₁)
    ∙ sym
    (sets-append m at x (y ++ z)
    ∙ ap (λ (k : ℕ). sets (sets m at x) k (y ++ z)) first
    ∙ sets-append (sets m at x) (at + 4) y z
    ∙ ap (λ (k : ℕ). sets (sets (sets m at x) (at + 4) y) k z) second)

pub row_put : (x : Row) (m m₁ m₂ m₃ : List ℕ) (at : ℕ) → m₁ ≡ sets m at (le_bytes 4 x.value) → m₂ ≡ sets m₁ (at + 4) (le_bytes 4 x.flag)
    → m₃ ≡ sets m₂ (at + 8) (le_bytes 4 x.size) → m₃ ≡ sets m at (Po.row_bytes x)
unfolding Po.row_bytes le_bytes
row_put x m m₁ m₂ m₃ at e₁ e₂ e₃ =
    three_put (le_bytes 4 x.value) (le_bytes 4 x.flag) (le_bytes 4 x.size) m m₁ m₂ m₃ at refl refl e₁ e₂ e₃

-- ---- the rows of a table
module _ (o : ℕ) (b : List ℕ) (t j : ℕ) (c : Cursor) where
  rest_turn : j < length (Sc.table_of (P.parse b) t).members
      → rest_bytes o b t j c
      ≡ Po.row_bytes (Po.row_of (Sc.member_of (P.parse b) t j) (L.placement_of o (P.parse b) (Sc.member_of (P.parse b) t j) c))
      ++ rest_bytes o b t (j + 1) (L.after_member o (P.parse b) (Sc.member_of (P.parse b) t j) c)
  unfolding Po.member_rows flat_map Sc.member_of
  rest_turn l =
      let ms = (Sc.table_of (P.parse b) t).members in
      ap (λ (rs : List Member). flat_map Po.row_bytes (Po.member_rows o (P.parse b) c rs)) (drop-cons ms j Sc.plain_bool l)
      ∙ ap
      (λ (k : ℕ). Po.row_bytes (Po.row_of (Sc.member_of (P.parse b) t j) (L.placement_of o (P.parse b) (Sc.member_of (P.parse b) t j) c))
      ++ rest_bytes o b t k (L.after_member o (P.parse b) (Sc.member_of (P.parse b) t j) c))
      (sym (add-one j))

  rest_none : length (Sc.table_of (P.parse b) t).members ≤ j → rest_bytes o b t j c ≡ []
  unfolding Po.member_rows flat_map
  rest_none l = rw (drop_of_length-le (Sc.table_of (P.parse b) t).members l) refl

-- all of them, at the first member
module _ (o : ℕ) (b : List ℕ) (t : ℕ) (c : Cursor) (e : c ≡ L.begin) where
  rest_start : table_bytes o b t ≡ rest_bytes o b t 0 c
  unfolding Po.table_rows
  rest_start = rw e refl

  pub put_start : (out : List ℕ) (pos : ℕ) → sets out pos (table_bytes o b t) ≡ sets out pos (rest_bytes o b t 0 c)
  put_start out pos = ap (sets out pos) rest_start

  pub stands_start : (m : List ℕ) (pos : ℕ) → stands m pos (table_bytes o b t) ≡ stands m pos (rest_bytes o b t 0 c)
  stands_start m pos = ap (stands m pos) rest_start

module _ (o : ℕ) (b : List ℕ) (t n : ℕ) (en : n ≡ length (Sc.table_of (P.parse b) t).members) (j : ℕ) (l : j < n) (c : Cursor) (row : Row)
    (next : Cursor) (step : Next o (P.parse b) (Sc.member_of (P.parse b) t j) c row next) where
  rest-row : rest_bytes o b t j c ≡ Po.row_bytes row ++ rest_bytes o b t (j + 1) next
  rest-row =
      rest_turn o b t j c (omega arith)
      ∙ ap₂ (λ (x : Row) (q : Cursor). Po.row_bytes x ++ rest_bytes o b t (j + 1) q) (sym step.row_is) (sym step.next_is)

  pub put_turn : (w out out₁ : List ℕ) (pos : ℕ) → w ≡ sets out pos (rest_bytes o b t j c) → out₁ ≡ sets out pos (Po.row_bytes row)
      → w ≡ sets out₁ (pos + 12) (rest_bytes o b t (j + 1) next)
  put_turn w out out₁ pos e f =
      e ∙ ap (sets out pos) rest-row
      ∙ sets-append out pos (Po.row_bytes row) (rest_bytes o b t (j + 1) next)
      ∙ ap₂ (λ (x : List ℕ) (k : ℕ). sets x (pos + k) (rest_bytes o b t (j + 1) next)) (sym f) (row_bytes-length row)

  module _ (w q : Bool) (m : List ℕ) (pos : ℕ) (e : w ≡ stands m pos (rest_bytes o b t j c)) (f : q ≡ stands m pos (Po.row_bytes row)) where
    rest-stands : w ≡ (q && stands m (pos + 12) (rest_bytes o b t (j + 1) next))
    rest-stands =
        e ∙ ap (stands m pos) rest-row
        ∙ stands-append m pos (Po.row_bytes row) (rest_bytes o b t (j + 1) next)
        ∙ ap₂ (λ (x : Bool) (k : ℕ). x && stands m (pos + k) (rest_bytes o b t (j + 1) next)) (sym f) (row_bytes-length row)

    pub stands_turn : not q ≡ false → w ≡ stands m (pos + 12) (rest_bytes o b t (j + 1) next)
    stands_turn h = rest-stands ∙ ap (λ (x : Bool). x && stands m (pos + 12) (rest_bytes o b t (j + 1) next)) (not-false q h)

    pub stands_off : not q ≡ true → false ≡ w
    stands_off h = sym (rest-stands ∙ ap (λ (x : Bool). x && stands m (pos + 12) (rest_bytes o b t (j + 1) next)) (not-true q h))

-- past the last member nothing is left
module _ (o : ℕ) (b : List ℕ) (t n j : ℕ) (c : Cursor) (en : n ≡ length (Sc.table_of (P.parse b) t).members) (l : n ≤ j) where
  pub put_done : (w out : List ℕ) (pos : ℕ) → w ≡ sets out pos (rest_bytes o b t j c) → out ≡ w
  put_done w out pos e = sym (e ∙ ap (sets out pos) (rest_none o b t j c (omega arith)))

  pub stands_done : (w : Bool) (m : List ℕ) (pos : ℕ) → w ≡ stands m pos (rest_bytes o b t j c) → true ≡ w
  unfolding stands
  stands_done w m pos e = sym (e ∙ ap (stands m pos) (rest_none o b t j c (omega arith)))

-- ---- the rows of all tables
module _ (o : ℕ) (b : List ℕ) where
  pub table_bytes_lem : (t : ℕ) → length (table_bytes o b t) ≡ 12 * length (Sc.table_of (P.parse b) t).members
  unfolding Po.table_rows
  table_bytes_lem t =
      flat_map-length Po.row_bytes 12 row_bytes-length (Po.table_rows o (P.parse b) (Sc.table_of (P.parse b) t))
      ∙ ap (λ (n : ℕ). 12 * n) (member-rows-length o (P.parse b) L.begin (Sc.table_of (P.parse b) t).members)

  tables_turn : (t : ℕ) → t < P.table_count b → tables_bytes o b t ≡ table_bytes o b t ++ tables_bytes o b (t + 1)
  unfolding flat_map Sc.table_of
  tables_turn t l =
      let ts = (P.parse b).tables in
      ap (λ (xs : List Sc.Table). flat_map Po.row_bytes (flat_map (Po.table_rows o (P.parse b)) xs)) (drop-cons ts t _ (omega (arith, tables-length b)))
      ∙ flat_map-append Po.row_bytes (Po.table_rows o (P.parse b) (Sc.table_of (P.parse b) t)) (flat_map (Po.table_rows o (P.parse b)) (drop (suc t) ts))
      ∙ ap (λ (k : ℕ). table_bytes o b t ++ tables_bytes o b k) (sym (add-one t))

  tables_none : (t : ℕ) → P.table_count b ≤ t → tables_bytes o b t ≡ []
  unfolding flat_map
  tables_none t l = let h : length (P.parse b).tables ≤ t = omega (arith, tables-length b) in rw (drop_of_length-le (P.parse b).tables h) refl

  tables_start : Po.positions_of o b ≡ tables_bytes o b 0
  unfolding Po.positions_of Po.schema_rows
  tables_start = refl

  pub tables_long : 0 + length (tables_bytes o b 0) ≡ length (Po.positions_of o b)
  tables_long = omega (arith, ap length tables_start)

  pub start_put : (out : List ℕ) → sets out 0 (Po.positions_of o b) ≡ sets out 0 (tables_bytes o b 0)
  start_put out = ap (sets out 0) tables_start

  pub start-stands : (m : List ℕ) → stands m 0 (Po.positions_of o b) ≡ stands m 0 (tables_bytes o b 0)
  start-stands m = ap (stands m 0) tables_start

  -- table t, of n tables
  module _ (n t : ℕ) (en : n ≡ get_or b 3 0) (l : t < n) where
    turn : tables_bytes o b t ≡ table_bytes o b t ++ tables_bytes o b (t + 1)
    turn = tables_turn t (omega arith)

    lengths : length (tables_bytes o b t) ≡ 12 * length (Sc.table_of (P.parse b) t).members + length (tables_bytes o b (t + 1))
    lengths = omega (arith, ap length turn, length-append (table_bytes o b t) (tables_bytes o b (t + 1)), table_bytes_lem t)

    module _ (at : ℕ) (long : at + length (tables_bytes o b t) ≡ length (Po.positions_of o b)) where
      pub table_fits : (m m₀ : List ℕ) → length m ≡ length m₀ → length (Po.positions_of o b) ≤ length m₀
          → at + 12 * length (Sc.table_of (P.parse b) t).members ≤ length m
      table_fits m m₀ e h = omega (arith, lengths)

      pub table-within : (m : List ℕ) → length m ≡ length (Po.positions_of o b) → at + 12 * length (Sc.table_of (P.parse b) t).members ≤ length m
      table-within m e = omega (arith, lengths)

      pub table_low : length (Po.positions_of o b) < 2 ^ 60 → at < 2 ^ 60
      table_low h = omega arith

      pub rest_long : (r : ℕ) → r ≡ at + 12 * length (Sc.table_of (P.parse b) t).members
          → r + length (tables_bytes o b (t + 1)) ≡ length (Po.positions_of o b)
      rest_long r er = omega (arith, lengths)

      -- behind the k members of table t
      module _ (k : ℕ) (ek : k ≡ length (Sc.table_of (P.parse b) t).members) where
        pub behind_long : at + 12 * k + length (tables_bytes o b (t + 1)) ≡ length (Po.positions_of o b)
        behind_long = rest_long (at + 12 * k) (ap (λ (x : ℕ). at + 12 * x) ek)

        pub behind_low : length (Po.positions_of o b) < 2 ^ 60 → at + 12 * k < 2 ^ 60
        behind_low h = omega (arith, behind_long)

    module _ (at r : ℕ) (er : r ≡ at + 12 * length (Sc.table_of (P.parse b) t).members) where
      behind : at + length (table_bytes o b t) ≡ r
      behind = omega (arith, table_bytes_lem t)

      pub table_put : (w out out₁ : List ℕ) → w ≡ sets out at (tables_bytes o b t) → out₁ ≡ sets out at (table_bytes o b t)
          → w ≡ sets out₁ r (tables_bytes o b (t + 1))
      table_put w out out₁ e f =
          e ∙ ap (sets out at) turn
          ∙ sets-append out at (table_bytes o b t) (tables_bytes o b (t + 1))
          ∙ ap₂ (λ (x : List ℕ) (k : ℕ). sets x k (tables_bytes o b (t + 1))) (sym f) behind

      module _ (w q : Bool) (m : List ℕ) (e : w ≡ stands m at (tables_bytes o b t)) (f : q ≡ stands m at (table_bytes o b t)) where
        both_stand : w ≡ (q && stands m r (tables_bytes o b (t + 1)))
        both_stand =
            e ∙ ap (stands m at) turn
            ∙ stands-append m at (table_bytes o b t) (tables_bytes o b (t + 1))
            ∙ ap₂ (λ (x : Bool) (k : ℕ). x && stands m k (tables_bytes o b (t + 1))) (sym f) behind

        table-stands : not q ≡ false → w ≡ stands m r (tables_bytes o b (t + 1))
        table-stands h = both_stand ∙ ap (λ (x : Bool). x && stands m r (tables_bytes o b (t + 1))) (not-false q h)

        pub table_off : not q ≡ true → false ≡ w
        table_off h = sym (both_stand ∙ ap (λ (x : Bool). x && stands m r (tables_bytes o b (t + 1))) (not-true q h))

    pub behind-stands : (at k : ℕ) → k ≡ length (Sc.table_of (P.parse b) t).members → (w q : Bool) (m : List ℕ) → w ≡ stands m at (tables_bytes o b t)
        → q ≡ stands m at (table_bytes o b t) → not q ≡ false → w ≡ stands m (at + 12 * k) (tables_bytes o b (t + 1))
    behind-stands at k ek w q m e f h = table-stands at (at + 12 * k) (ap (λ (x : ℕ). at + 12 * x) ek) w q m e f h

  -- past the last table nothing is left
  module _ (n t : ℕ) (en : n ≡ get_or b 3 0) (l : n ≤ t) where
    pub tables_put : (w out : List ℕ) (at : ℕ) → w ≡ sets out at (tables_bytes o b t) → out ≡ w
    tables_put w out at e = sym (e ∙ ap (sets out at) (tables_none t (omega arith)))

    pub tables_stand : (w : Bool) (m : List ℕ) (at : ℕ) → w ≡ stands m at (tables_bytes o b t) → true ≡ w
    unfolding stands
    tables_stand w m at e = sym (e ∙ ap (stands m at) (tables_none t (omega arith)))
