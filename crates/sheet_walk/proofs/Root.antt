-- The root: what its entries rely on, and that they are the whole sheet.
use mathlib.Core.Path.{◌≡◌, sym, subst}
use mathlib.Core.List.{List}
use Prim.Native.Nat.{ℕ, ◌+◌, ◌≤◌}
use lib.ListN.{length}
use Rattle.coding.specs.Bytes.{deepest}
use Rattle.coding.specs.Schema.{Schema}
use Rattle.coding.specs.Walk as W
use Rattle.coding.specs.Read as R
use Rattle.coding.specs.Sheet as E
use Rattle.coding.specs.declared.Object.{Object}
use Rattle.coding.specs.declared.Object.TheVariants as O
use Rattle.coding.specs.declared.Place.{Place}
use Rattle.bitio.specs.Puts.{Puts}
use Rattle.sheet_walk.specs.MessageBits as A
use Rattle.sheet_walk.specs.Readable as D

pub root_long : (o : ℕ) (S : Schema) (m : List ℕ) → D.MessageReadable o S m → 4 + o ≤ length m
unfolding W.start_size
root_long o S m h = h.long

pub root_readable : (o : ℕ) (S : Schema) (m : List ℕ) → D.MessageReadable o S m → (ob : Object) (p : Place) → ob ≡ O.Table S.root → p ≡ W.root_place o m → D.ObjectReadable o 32 S m ob p
unfolding deepest
root_readable o S m h ob p eo ep =
    subst (λ (x : Object). D.ObjectReadable o 32 S m x p) (sym eo) (subst (λ (x : Place). D.ObjectReadable o 32 S m (O.Table S.root) x) (sym ep) h.root)

pub root_puts : (o : ℕ) (S : Schema) (m : List ℕ) (ob : Object) (p : Place) (out out₁ : List ℕ) (r : ℕ) → ob ≡ O.Table S.root → p ≡ W.root_place o m
    → Puts out 0 (A.object_at o 32 S m ob p) out₁ r → Puts out 0 (A.root_at o S m) out₁ r
unfolding A.root_at A.object_at E.sheet_bits R.message_read deepest
root_puts o S m ob p out out₁ r eo ep h =
    subst (λ (x : Place). Puts out 0 (E.encode 32 S (O.Table S.root) (R.read 32 o S m (O.Table S.root) x)) out₁ r) ep
    (subst (λ (x : Object). Puts out 0 (E.encode 32 S x (R.read 32 o S m x p)) out₁ r) eo h)
