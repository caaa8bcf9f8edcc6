-- Whether a member's value is there, and what a step is by it.
use mathlib.Core.Path.{◌≡◌, refl, sym, ◌∙◌}
use mathlib.Core.Bool.{Bool, true, false}
use mathlib.Core.List.{List}
use Prim.Native.Nat.{ℕ, ◌+◌, ◌≤◌}
use native.Mathlib.Omega.{arith}
use lib.Dec.{leb, eqb}
use borrow.Author.Tests.{leb-true}
use Rattle.coding.specs.Lists.{pick}
use Rattle.coding.specs.Bytes.{bit_at}
use Rattle.coding.specs.Schema.{Schema}
use Rattle.coding.specs.Layout as L
use Rattle.coding.specs.Step as T
use Rattle.coding.specs.Structs.{flat_width}
use Rattle.coding.specs.declared.Flat.TheVariants as F
use Rattle.coding.specs.declared.Kind.{Kind}
use Rattle.coding.specs.declared.Kind.TheVariants.{OfFlat, OfObject, OfUnion}
use Rattle.coding.specs.declared.Member.{Member}
use Rattle.coding.specs.declared.Cursor.{Cursor}
use Rattle.coding.specs.declared.Slot.{Slot}
use Rattle.coding.specs.declared.Placement.{Placement}
use Rattle.coding.specs.declared.Step.{Step}
use Rattle.coding.specs.declared.Step.TheVariants as St
use Rattle.message_step.specs.declared.Reach.{Reach}
use Rattle.message_step.specs.declared.Reach.TheVariants.{Cut, Past, Here}
use Rattle.message_step.specs.Lead.{reach_in, reach_flagged, reach_of, reached}

-- ---- a value that is here lies inside the fixed part
in-inside : (n : ℕ) (slot : Slot) (past : Reach) → (past ≡ Here → ⊥) → (here : Reach) → reach_in n slot past here ≡ Here → slot.at + slot.size ≤ n
unfolding reach_in
in-inside n slot past p here e = by (leb n slot.at) (leb (slot.at + slot.size) n) refl e
  where
    by : (t u : Bool) → leb (slot.at + slot.size) n ≡ u → pick t past (pick u here Cut) ≡ Here → slot.at + slot.size ≤ n
    by true u l f = absurd (p f)
    by false true l f = leb-true _ _ l
    by false false l f = let z : ◌≡◌ {A = ℕ} 0 1 = cc in absurd (omega arith)

cut_here : Cut ≡ Here → ⊥
cut_here f = let z : ◌≡◌ {A = ℕ} 0 1 = cc in omega arith

past_here : Past ≡ Here → ⊥
past_here f = let z : ◌≡◌ {A = ℕ} 0 1 = cc in omega arith

flagged-inside : (m : List ℕ) (start n : ℕ) (flag slot : Slot) → reach_flagged m start n flag slot ≡ Here → slot.at + slot.size ≤ n
unfolding reach_flagged
flagged-inside m start n flag slot e = by (leb n flag.at) (eqb (bit_at m (start + flag.at) flag.bit) 1) e
  where
    by : (t u : Bool) → pick t Past (pick u (reach_in n slot Cut Here) (reach_in n slot Past Past)) ≡ Here → slot.at + slot.size ≤ n
    by true u f = absurd (past_here f)
    by false true f = in-inside n slot Cut cut_here Here f
    by false false f = in-inside n slot Past past_here Past f

pub here-inside : (m : List ℕ) (start n : ℕ) (p : Placement) (flagged : Bool) (g : Reach) → g ≡ reach_of m start n p flagged → g ≡ Here
    → p.value.at + p.value.size ≤ n
unfolding reach_of
here-inside m start n p flagged g eg e = by flagged (sym eg ∙ e)
  where
    by : (t : Bool) → pick t (reach_flagged m start n p.flag p.value) (reach_in n p.value Past Here) ≡ Here → p.value.at + p.value.size ≤ n
    by true f = flagged-inside m start n p.flag p.value f
    by false f = in-inside n p.value Past past_here Here f

-- a value's slot has the size of its kind: a bool's bit stands in one byte
pub bool-one : (o : ℕ) (S : Schema) (k : Kind) → L.is_bool k ≡ true → L.width o S k ≡ 1
unfolding L.is_bool L.flat_is_bool L.width flat_width
bool-one o S (OfFlat F.Boolean) e = refl
bool-one o S (OfFlat (F.Integer s w)) e = let z : ◌≡◌ {A = ℕ} 0 1 = cc in absurd (omega arith)
bool-one o S (OfFlat (F.Float w)) e = let z : ◌≡◌ {A = ℕ} 0 1 = cc in absurd (omega arith)
bool-one o S (OfFlat (F.Enumerated n)) e = let z : ◌≡◌ {A = ℕ} 0 1 = cc in absurd (omega arith)
bool-one o S (OfFlat (F.Struct i)) e = let z : ◌≡◌ {A = ℕ} 0 1 = cc in absurd (omega arith)
bool-one o S (OfObject ob) e = let z : ◌≡◌ {A = ℕ} 0 1 = cc in absurd (omega arith)
bool-one o S (OfUnion i) e = let z : ◌≡◌ {A = ℕ} 0 1 = cc in absurd (omega arith)

pub slot-size : (o : ℕ) (S : Schema) (k : Kind) (c : Cursor) → (L.slot_of o S k c).size ≡ L.width o S k
unfolding L.slot_of L.bit_slot
slot-size o S k c = by (L.is_bool k) refl
  where
    by : (t : Bool) → L.is_bool k ≡ t
        → (pick {A = Slot} t (L.bit_slot c) (record { at = c.end; bit = 0; size = L.width o S k })).size ≡ L.width o S k
    by true e = sym (bool-one o S k e)
    by false e = refl

-- ---- a member's step by its reach
pub step-reached : (o : ℕ) (S : Schema) (m : List ℕ) (start n : ℕ) (p : Placement) (r : Member)
    → T.placed_step o S m start n p r
    ≡ reached (reach_of m start n p (L.has_flag r))
    (T.value_step o S m r.kind r.optional r.inplace (start + n) (start + p.value.at) p.value.bit)
unfolding T.placed_step T.flagged T.inside reached reach_of reach_flagged reach_in
step-reached o S m start n p r =
    by (L.has_flag r) (leb n p.flag.at) (eqb (bit_at m (start + p.flag.at) p.flag.bit) 1) (leb n slot.at) (leb (slot.at + slot.size) n)
  where
    slot : Slot
    slot = p.value

    here : Step
    here = T.value_step o S m r.kind r.optional r.inplace (start + n) (start + slot.at) slot.bit

    by : (t u v w x : Bool)
        → pick t
        (pick u St.Absent (pick v (pick w (St.Refused 8) (pick x here (St.Refused 8))) (pick w St.Absent (pick x St.Absent (St.Refused 8)))))
        (pick w St.Absent (pick x here (St.Refused 8)))
        ≡ reached (pick t (pick u Past (pick v (pick w Cut (pick x Here Cut)) (pick w Past (pick x Past Cut)))) (pick w Past (pick x Here Cut))) here
    by true true v w x = refl
    by true false true true x = refl
    by true false true false true = refl
    by true false true false false = refl
    by true false false true x = refl
    by true false false false true = refl
    by true false false false false = refl
    by false u v true x = refl
    by false u v false true = refl
    by false u v false false = refl
