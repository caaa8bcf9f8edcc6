-- How long a full fixed part is: 64 members of at most 4,097 bytes each, so that its length fits in the U32 of a direct list's header;
-- and, of a direct list's table, which has a member, a byte at least.
use Rattle.std.specs.Prelude.{Bool, ℕ, ◌+◌, ◌*◌, ◌<◌, ◌≤◌, ltb, length}
use Rattle.std.proofs.Math.Bool.{true, false}
use Rattle.std.proofs.Common.{inl, inr}
use mathlib.Core.List.{List, [], ◌∷◌}
use native.Mathlib.Omega.{arith}
use Rattle.coding.specs.Lists.{pick}
use Rattle.coding.specs.Schema.{Schema, table_of}
use Rattle.coding.specs.Structs.{flat_width, struct_size}
use Rattle.coding.specs.Layout.{width, is_bool, has_flag, begin, after_bit, after_bytes, after_flag, after_value, after_member, after_members, fixed_size}
use Rattle.coding.specs.declared.Flat.{Flat}
use Rattle.coding.specs.declared.Flat.TheVariants.{Boolean, Integer, Float, Enumerated, Struct}
use Rattle.coding.specs.declared.Kind.{Kind}
use Rattle.coding.specs.declared.Kind.TheVariants.{OfFlat, OfObject, OfUnion}
use Rattle.coding.specs.declared.Member.{Member}
use Rattle.coding.specs.declared.Cursor.{Cursor}
use Rattle.laws.specs.Sound.{All, DirectSound, FlatSound, KindSound, MemberSound, Sound}

pub after_bit_lem : (c : Cursor) → (after_bit c).end ≤ c.end + 1
unfolding after_bit
after_bit_lem c = by (ltb c.bit 8)
  where
    by : (t : Bool)
        → (pick {A = Cursor} t (record { end = c.end; byte = c.byte; bit = c.bit + 1 }) (record { end = c.end + 1; byte = c.end; bit = 1 })).end
        ≤ c.end + 1
    by true = omega arith
    by false = omega arith

pub after_flag_lem : (r : Member) (c : Cursor) → (after_flag r c).end ≤ c.end + 1
unfolding after_flag
after_flag_lem r c = by (has_flag r)
  where
    by : (t : Bool) → (pick {A = Cursor} t (after_bit c) c).end ≤ c.end + 1
    by true = after_bit_lem c
    by false = omega arith

module _ (o : ℕ) (narrow : 2 + o ≤ 4096) (S : Schema) (G : Sound S) where
  flat_narrow : (k : Flat) → FlatSound (length S.structs) k → flat_width (struct_size S) k ≤ 4096
  unfolding flat_width
  flat_narrow Boolean s = omega arith
  flat_narrow (Integer g w) s = omega (arith, s.1)
  flat_narrow (Float w) (inl e) = omega arith
  flat_narrow (Float w) (inr e) = omega arith
  flat_narrow (Enumerated n) s = omega arith
  flat_narrow (Struct i) s = (G.structs i).size

  pub kind_narrow : (k : Kind) → KindSound S k → width o S k ≤ 4096
  unfolding width
  kind_narrow (OfFlat k) s = flat_narrow k s
  kind_narrow (OfObject ob) s = omega arith
  kind_narrow (OfUnion i) s = omega arith

  after-value : (k : Kind) → KindSound S k → (c : Cursor) → (after_value o S k c).end ≤ c.end + 4096
  unfolding after_value after_bytes
  after-value k s c = by (is_bool k)
    where
      by : (t : Bool) → (pick {A = Cursor} t (after_bit c) (record { end = c.end + width o S k; byte = c.byte; bit = c.bit })).end ≤ c.end + 4096
      by true = omega (arith, after_bit_lem c)
      by false = omega (arith, kind_narrow k s)

  after-member : (r : Member) → MemberSound S r → (c : Cursor) → (after_member o S r c).end ≤ c.end + 4097
  unfolding after_member
  after-member r s c = omega (arith, after-value r.kind s.kind (after_flag r c), after_flag_lem r c)

  pub after-members : (rs : List Member) → All (MemberSound S) rs → (c : Cursor)
      → (after_members o S rs c).end ≤ c.end + 4097 * length rs
  unfolding after_members
  after-members [] s c = omega arith
  after-members (r ∷ rs) s c = omega (arith, after-members rs s.1 (after_member o S r c), after-member r s.0 c)

  -- a full fixed part
  pub fixed_small : (i : ℕ) → fixed_size o S (table_of S i).members ≤ 262208
  unfolding fixed_size begin
  fixed_small i =
      omega (arith, after-members (table_of S i).members (G.tables i).members begin, (G.tables i).few)

-- ---- at least a byte
module _ (o : ℕ) (S : Schema) (G : Sound S) (wide : 0 < o) where
  flat-wide : (k : Flat) → FlatSound (length S.structs) k → 0 < flat_width (struct_size S) k
  unfolding flat_width
  flat-wide Boolean ok = omega arith
  flat-wide (Integer s w) ok = ok.0
  flat-wide (Float w) (inl e) = omega arith
  flat-wide (Float w) (inr e) = omega arith
  flat-wide (Enumerated n) ok = omega arith
  flat-wide (Struct i) ok = (G.structs i).some ok

  pub kind-wide : (k : Kind) → KindSound S k → 0 < width o S k
  unfolding width
  kind-wide (OfFlat k) ok = flat-wide k ok
  kind-wide (OfObject ob) ok = wide
  kind-wide (OfUnion i) ok = omega arith

  -- the cursor never goes back
  bit_up : (c : Cursor) → c.end ≤ (after_bit c).end
  unfolding after_bit
  bit_up c = by (ltb c.bit 8)
    where
      by : (t : Bool)
          → c.end
          ≤ (pick {A = Cursor} t (record { end = c.end; byte = c.byte; bit = c.bit + 1 })
          (record { end = c.end + 1; byte = c.end; bit = 1 })
          ).end
      by true = omega arith
      by false = omega arith

  flag_up : (r : Member) (c : Cursor) → c.end ≤ (after_flag r c).end
  unfolding after_flag
  flag_up r c = by (has_flag r)
    where
      by : (t : Bool) → c.end ≤ (pick {A = Cursor} t (after_bit c) c).end
      by true = bit_up c
      by false = omega arith

  value_up : (k : Kind) (c : Cursor) → c.end ≤ (after_value o S k c).end
  unfolding after_value after_bytes
  value_up k c = by (is_bool k)
    where
      by : (t : Bool)
          → c.end ≤ (pick {A = Cursor} t (after_bit c) (record { end = c.end + width o S k; byte = c.byte; bit = c.bit })).end
      by true = bit_up c
      by false = omega arith

  members_up : (rs : List Member) (c : Cursor) → c.end ≤ (after_members o S rs c).end
  unfolding after_members after_member
  members_up [] c = omega arith
  members_up (r ∷ rs) c =
      omega (arith, flag_up r c, value_up r.kind (after_flag r c), members_up rs (after_member o S r c))

  -- the first member
  first-value : (k : Kind) → KindSound S k → 0 < (after_value o S k begin).end
  unfolding after_value after_bytes begin after_bit
  first-value k ok = by (is_bool k)
    where
      by : (t : Bool)
          → 0
          < (pick {A = Cursor} t (record { end = 1; byte = 0; bit = 1 }) (record { end = 0 + width o S k; byte = 0; bit = 8 })).end
      by true = omega arith
      by false = omega (arith, kind-wide k ok)

  first_flag : (k : Kind) → 0 < (after_value o S k (after_bit begin)).end
  first_flag k = let b : 0 < (after_bit begin).end = (unfold after_bit begin in omega arith) in omega (arith, value_up k (after_bit begin))

  first_some : (r : Member) → MemberSound S r → 0 < (after_member o S r begin).end
  unfolding after_member after_flag
  first_some r ok = by (has_flag r)
    where
      by : (t : Bool) → 0 < (after_value o S r.kind (pick {A = Cursor} t (after_bit begin) begin)).end
      by true = first_flag r.kind
      by false = first-value r.kind ok.kind

  members_some : (rs : List Member) → All (MemberSound S) rs → 0 < length rs → 0 < (after_members o S rs begin).end
  unfolding after_members
  members_some [] ok l = absurd (omega arith)
  members_some (r ∷ rs) ok l = omega (arith, first_some r ok.0, members_up rs (after_member o S r begin))

  -- a direct list's element takes a byte at least
  pub direct-wide : (t : ℕ) → DirectSound S t → 0 < fixed_size o S (table_of S t).members
  unfolding fixed_size
  direct-wide t d = members_some (table_of S t).members (G.tables t).members d.some
