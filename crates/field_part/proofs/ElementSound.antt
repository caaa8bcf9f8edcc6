-- The element of a list of a well-formed schema has its indices in range, its elements end where the list does, and its number
-- is small.
use mathlib.Core.Path.{◌≡◌, sym, subst}
use mathlib.Core.Bool.{Bool, true, false}
use mathlib.Core.List.{List}
use mathlib.Core.Logic.{⊎_elim}
use Prim.Native.Nat.{ℕ, ◌+◌, ◌*◌, ◌/◌, ◌^◌, ◌<◌, ◌≤◌}
use lib.ListN.{length}
use native.Mathlib.Omega.{arith}
use native.Mathlib.Nat.{mul-le-mul}
use Rattle.coding.specs.Lists.{pick}
use Rattle.coding.specs.Packed as P
use Rattle.coding.specs.Layout as L
use Rattle.coding.specs.Schema as Sc
use Rattle.coding.specs.Schema.{Schema}
use Rattle.coding.specs.Step as T
use Rattle.coding.specs.Structs.{flat_width}
use Rattle.coding.specs.declared.Flat.TheVariants as F
use Rattle.coding.specs.declared.Kind.{Kind}
use Rattle.coding.specs.declared.Kind.TheVariants.{OfFlat, OfObject, OfUnion}
use Rattle.laws.specs.Sound.{KindSound, NoStruct}
use Rattle.schema.specs.Directory.{Accepted, accepted_sound}
use Rattle.field_arrival.specs.Within.{Readable}

pub element_sound : (b dir : List ℕ) → Accepted b dir → (i : ℕ) (k : Kind) → k ≡ Sc.element_of (P.parse b) i → KindSound (P.parse b) k
element_sound b dir a i k e = rw e ((accepted_sound b dir a).lists i).kind

pub elements_there : (o : ℕ) (S : Schema) (k : Kind) (i start n c : ℕ) → k ≡ Sc.element_of S i → start + T.elements_size o S (Sc.element_of S i) n ≤ c
    → start + T.elements_size o S k n ≤ c
elements_there o S k i start n c e h = subst (λ (q : Kind). start + T.elements_size o S q n ≤ c) (sym e) h

-- a list whose elements fit has not many: each takes at least a bit, as none is a struct
kind_some : (o : ℕ) → 4 ≤ o → (S : Schema) (k : Kind) → KindSound S k → NoStruct k → 0 < L.width o S k
unfolding L.width flat_width
kind_some o w S (OfFlat F.Boolean) h g = omega arith
kind_some o w S (OfFlat (F.Integer s v)) h g = h.0
kind_some o w S (OfFlat (F.Float v)) h g = ⊎_elim (λ e. omega arith) (λ e. omega arith) h
kind_some o w S (OfFlat (F.Enumerated v)) h g = omega arith
kind_some o w S (OfFlat (F.Struct i)) h g = absurd g
kind_some o w S (OfObject ob) h g = omega arith
kind_some o w S (OfUnion u) h g = omega arith

times_some : (w n : ℕ) → 0 < w → n ≤ w * n
times_some w n h = let p : 1 * n ≤ w * n = mul-le-mul h (let q : n ≤ n = omega arith in q) in omega arith

elements_few : (o : ℕ) (S : Schema) (k : Kind) → 0 < L.width o S k → (n : ℕ) → n ≤ 8 * T.elements_size o S k n
unfolding T.elements_size
elements_few o S k h n = by (L.is_bool k)
  where
    by : (t : Bool) → n ≤ 8 * pick t ((n + 7) / 8) (L.width o S k * n)
    by true = omega arith
    by false = omega (arith, times_some (L.width o S k) n h)

pub element-number : (o : ℕ) → 4 ≤ o → (b dir m : List ℕ) → Accepted b dir → Readable m → (i start n j : ℕ)
    → start + T.elements_size o (P.parse b) (Sc.element_of (P.parse b) i) n ≤ length m → j < n → j < 2 ^ 32
element-number o w b dir m a r i start n j h l =
    let s = (accepted_sound b dir a).lists i in
    let k = Sc.element_of (P.parse b) i in
    omega (arith, r.size, elements_few o (P.parse b) k (kind_some o w (P.parse b) k s.kind s.scalar) n)
