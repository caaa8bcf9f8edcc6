-- Texts and bytes with their marks.
use mathlib.Core.Path.{◌≡◌, refl, sym, ap, ap₂, ◌∙◌, subst}
use mathlib.Core.Bool.{Bool, true, false}
use mathlib.Core.List.{List, ◌++◌}
use Prim.Native.Nat.{ℕ, ◌+◌, ◌-◌, ◌≤◌}
use native.Mathlib.Omega.{arith}
use lib.ListN.{length, take, drop}
use lib.Dec.{eqb}
use borrow.Author.Tests.{eqb-false, eq-eqb, ne_eqb}
use Rattle.coding.specs.Lists.{pick}
use Rattle.coding.specs.Schema.{Schema}
use Rattle.coding.specs.Step as T
use Rattle.coding.specs.Walk as W
use Rattle.coding.specs.Value as Tree
use Rattle.coding.specs.Read as R
use Rattle.coding.specs.Bits.{bits_of}
use Rattle.coding.specs.Sheet as E
use Rattle.coding.specs.declared.Object.{Object}
use Rattle.coding.specs.declared.Object.TheVariants as O
use Rattle.coding.specs.declared.Kind.TheVariants.{OfObject}
use Rattle.coding.specs.declared.Place.{Place}
use Rattle.coding.specs.declared.Step.TheVariants as St
use Rattle.schema.specs.Kinds.{is_blob}
use Rattle.bitio.specs.Puts.{Puts}
use Rattle.bitio.specs.PutsLaws.{puts-same}
use Rattle.sheet_values.specs.Marks as K
use Rattle.sheet_walk.specs.MessageBits as A
use Rattle.sheet_walk.specs.Readable as D
use Rattle.sheet_walk.proofs.Objects.{header_there, content_readable, object-same}

-- what stands there has some depth left
pub some_left : (o d : ℕ) (S : Schema) (m : List ℕ) (ob : Object) (place : Place) → D.ObjectReadable o d S m ob place → d ≡ 0 → ⊥
unfolding D.ObjectReadable
some_left o d S m ob place h e = subst (λ (k : ℕ). D.ObjectReadable o k S m ob place) e h

blob-bits : (o d : ℕ) (S : Schema) (m : List ℕ) (ob : Object) (at start n : ℕ) → is_blob ob ≡ true → E.blob_bits (take n (drop start m)) ≡ A.content_at o d S m ob at start n
unfolding is_blob A.content_at E.content_bits R.content_read Tree.as_blob
blob-bits o d S m O.Text at start n h = refl
blob-bits o d S m O.Bytes at start n h = refl
blob-bits o d S m (O.List i) at start n h = let y : ◌≡◌ {A = ℕ} 0 1 = cc in absurd (omega arith)
blob-bits o d S m (O.Table i) at start n h = let y : ◌≡◌ {A = ℕ} 0 1 = cc in absurd (omega arith)
blob-bits o d S m (O.DirectList t) at start n h = let y : ◌≡◌ {A = ℕ} 0 1 = cc in absurd (omega arith)

content-inside : (o : ℕ) (S : Schema) (m : List ℕ) (ob : Object) (at start n c : ℕ) → is_blob ob ≡ true → start + W.content_size o S m ob at n ≤ c → start + n ≤ c
unfolding is_blob W.content_size
content-inside o S m O.Text at start n c h l = omega arith
content-inside o S m O.Bytes at start n c h l = l
content-inside o S m (O.List i) at start n c h l = let y : ◌≡◌ {A = ℕ} 0 1 = cc in absurd (omega arith)
content-inside o S m (O.Table i) at start n c h l = l
content-inside o S m (O.DirectList t) at start n c h l = let y : ◌≡◌ {A = ℕ} 0 1 = cc in absurd (omega arith)

-- by its place
module _ (o d : ℕ) (S : Schema) (m : List ℕ) (ob : Object) (place : Place) (h : D.ObjectReadable o d S m ob place) (blob : is_blob ob ≡ true) where
  pub blob-header : D.HeaderInside o m ob place
  blob-header = header_there o d S m ob place h (some_left o d S m ob place h)

  module _ (start n : ℕ) (es : start ≡ D.start_of o ob place) (en : n ≡ D.length_of o m place) where
    pub blob-inside : start + n ≤ length m
    blob-inside =
        content-inside o S m ob (W.placed place) start n (length m) blob
        (content_readable o d S m ob place h (some_left o d S m ob place h) (W.placed place) start n refl es en).inside

    pub blob-puts : (out out₁ : List ℕ) (p q : ℕ) → Puts out p (K.blob_at m start n) out₁ q → Puts out p (A.present_at o d S m ob place) out₁ q
    unfolding K.blob_at A.present_at
    blob-puts out out₁ p q put =
        puts-same out out₁ p q (K.blob_at m start n) (A.present_at o d S m ob place)
        (ap (λ (s : List ℕ). bits_of 2 1 ++ s)
        (blob-bits o (d - 1) S m ob (W.placed place) start n blob ∙ object-same o d S m ob place (W.placed place) start n (some_left o d S m ob place h) refl es en)) put
