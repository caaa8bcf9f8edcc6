-- What the parts of a step may rely on: widths, indices and places in range.
use mathlib.Core.Path.{◌≡◌, subst}
use mathlib.Core.Bool.{Bool, true, false}
use mathlib.Core.List.{List}
use mathlib.Core.Logic.{⊎_elim}
use Prim.Native.Nat.{ℕ, ◌+◌, ◌*◌, ◌/◌, ◌^◌, ◌<◌, ◌≤◌}
use native.Mathlib.Omega.{arith}
use native.Mathlib.Nat.{mul-le-mul}
use lib.ListN.{length}
use Rattle.coding.specs.Lists.{pick}
use Rattle.coding.specs.Schema.{Schema}
use Rattle.coding.specs.Packed as P
use Rattle.coding.specs.Layout as L
use Rattle.coding.specs.Step as T
use Rattle.coding.specs.Structs.{flat_width, struct_size}
use Rattle.coding.specs.declared.Flat.{Flat}
use Rattle.coding.specs.declared.Flat.TheVariants as F
use Rattle.coding.specs.declared.Kind.{Kind}
use Rattle.coding.specs.declared.Kind.TheVariants.{OfFlat, OfObject, OfUnion}
use Rattle.coding.specs.declared.Member.{Member}
use Rattle.laws.specs.Sound.{Sound, FlatSound, KindSound, MemberSound}
use Rattle.laws.specs.SoundAt.{struct_index, union_index}
use Rattle.schema.specs.Directory.{Accepted, accepted_sound}

-- ---- flat values
module _ (S : Schema) (k : Flat) (at n : ℕ) (fits : at + flat_width (struct_size S) k ≤ n) where
  pub boolean_there : k ≡ F.Boolean → at < n
  unfolding flat_width
  boolean_there e = let h = subst (λ (f : Flat). at + flat_width (struct_size S) f ≤ n) e fits in omega arith

  pub enum_there : (c : ℕ) → k ≡ F.Enumerated c → at < n
  unfolding flat_width
  enum_there c e = let h = subst (λ (f : Flat). at + flat_width (struct_size S) f ≤ n) e fits in omega arith

  pub struct_there : (i j : ℕ) → k ≡ F.Struct i → j ≡ i → at + struct_size S j ≤ n
  unfolding flat_width
  struct_there i j e ej = rw ej (subst (λ (f : Flat). at + flat_width (struct_size S) f ≤ n) e fits)

module _ (c : ℕ) (k : Flat) (sound : FlatSound c k) (v w : ℕ) (ev : v ≡ w) where
  pub integer_eight : (s : Bool) → k ≡ F.Integer s w → v ≤ 8
  integer_eight s e = let h = subst (FlatSound c) e sound in omega arith

  pub float_eight : k ≡ F.Float w → v ≤ 8
  float_eight e = ⊎_elim (λ h. omega arith) (λ h. omega arith) (subst (FlatSound c) e sound)

pub struct-counted : (b : List ℕ) (k : Flat) (i j : ℕ) → FlatSound (length (P.parse b).structs) k → k ≡ F.Struct i → j ≡ i → j < P.struct_count b
struct-counted b k i j sound e ej = rw ej (struct_index b i (subst (FlatSound (length (P.parse b).structs)) e sound))

-- ---- kinds
module _ (S : Schema) (k : Kind) (sound : KindSound S k) where
  pub flat_sound : (f : Flat) → k ≡ OfFlat f → FlatSound (length S.structs) f
  flat_sound f e = subst (KindSound S) e sound

pub union-counted : (b : List ℕ) (k : Kind) (u i : ℕ) → KindSound (P.parse b) k → k ≡ OfUnion u → i ≡ u → i < P.union_count b
union-counted b k u i sound e ei = rw ei (union_index b u (subst (KindSound (P.parse b)) e sound))

module _ (o : ℕ) (S : Schema) (k : Kind) (at n : ℕ) (fits : at + L.width o S k ≤ n) where
  pub flat_there : (f : Flat) → k ≡ OfFlat f → at + flat_width (struct_size S) f ≤ n
  unfolding L.width
  flat_there f e = subst (λ (q : Kind). at + L.width o S q ≤ n) e fits

-- ---- widths are small, and not 0
flat_some : (S : Schema) → Sound S → (f : Flat) → FlatSound (length S.structs) f → 0 < flat_width (struct_size S) f
unfolding flat_width
flat_some S s F.Boolean h = omega arith
flat_some S s (F.Integer g w) h = h.0
flat_some S s (F.Float w) h = ⊎_elim (λ e. omega arith) (λ e. omega arith) h
flat_some S s (F.Enumerated n) h = omega arith
flat_some S s (F.Struct i) h = (s.structs i).some h

kind_some : (o : ℕ) → 4 ≤ o → (S : Schema) → Sound S → (k : Kind) → KindSound S k → 0 < L.width o S k
unfolding L.width
kind_some o w S s (OfFlat f) h = flat_some S s f h
kind_some o w S s (OfObject ob) h = omega arith
kind_some o w S s (OfUnion u) h = omega arith

times_some : (w n : ℕ) → 0 < w → n ≤ w * n
times_some w n h = let p : 1 * n ≤ w * n = mul-le-mul h (let q : n ≤ n = omega arith in q) in omega arith

-- a list whose elements fit has not many
elements_few : (o : ℕ) → 4 ≤ o → (S : Schema) → Sound S → (k : Kind) → KindSound S k → (start n c : ℕ) → start + T.elements_size o S k n ≤ c → n ≤ 8 * c
unfolding T.elements_size
elements_few o w S s k sound start n c h = by (L.is_bool k) h
  where
    by : (t : Bool) → start + pick t ((n + 7) / 8) (L.width o S k * n) ≤ c → n ≤ 8 * c
    by true l = omega arith
    by false l = omega (arith, times_some (L.width o S k) n (kind_some o w S s k sound))

pub index_small : (o : ℕ) → 4 ≤ o → (b dir : List ℕ) → Accepted b dir → (k : Kind) → KindSound (P.parse b) k → (start n c i : ℕ)
    → start + T.elements_size o (P.parse b) k n ≤ c → c ≤ 16777215 → i < n → i < 2 ^ 40
index_small o w b dir a k sound start n c i h l m = omega (arith, elements_few o w (P.parse b) (accepted_sound b dir a) k sound start n c h)

pub member_kind : (S : Schema) (r : Member) → MemberSound S r → KindSound S r.kind
member_kind S r h = h.kind
