-- Flags, magics, references, and the start of an object's content.
use mathlib.Core.Path.{◌≡◌, refl, ap, ◌∙◌, subst}
use mathlib.Core.Bool.{Bool, true, false}
use mathlib.Core.List.{List}
use Prim.Native.Nat.{ℕ, ◌+◌, ◌^◌, ◌<◌, ◌≤◌}
use native.Mathlib.Omega.{arith}
use Rattle.coding.specs.Bytes.{largest}
use Rattle.coding.specs.Lists.{pick}
use Rattle.coding.specs.Schema as Sc
use Rattle.coding.specs.Schema.{Schema}
use Rattle.coding.specs.Layout.{has_flag, fixed_size}
use Rattle.coding.specs.Walk.{magic}
use Rattle.coding.specs.declared.Object.{Object}
use Rattle.laws.specs.Lists.{never}
use Rattle.coding.specs.declared.Object.TheVariants as O
use Rattle.coding.specs.declared.Member.{Member}
use Rattle.write_measure.specs.Survey.{head_size}
use Rattle.write_measure.specs.Summed.{capped_most}
use Rattle.write_measure.specs.declared.Extent.{Extent}
use Rattle.write_store.specs.State.{State, put_bit, enter_object, enter_content, put_number}
use Rattle.write_pass.specs.EmitSheet.{open_object, flagged, direct_head}
use Rattle.write_store.specs.Storing.{state_of, entered_object, entered_content, left_object, left_content, HeldOk, Stood, BitPut}
use Rattle.schema.specs.Kinds.{is_blob}
use Rattle.write_pass.specs.Emitting.{closed, referred, opened, Opens, headed}
use Rattle.write_store.specs.declared.Places.{Places}

module _ (inplace : Bool) (c i r : Places) where
  pub closed-content : inplace ≡ true → r ≡ left_content c i → r ≡ closed inplace c i
  unfolding closed
  closed-content e h = rw e h

  pub closed-object : inplace ≡ false → r ≡ left_object c i → r ≡ closed inplace c i
  unfolding closed
  closed-object e h = rw e h

-- ---- flags
module _ (m : Member) (x : ℕ) (c q : Places) (out out₁ : List ℕ) (t : Bool) (et : t ≡ has_flag m) where
  pub flag_some : t ≡ true → BitPut (put_bit x (state_of c out)) (state_of q out₁) c q → BitPut (flagged m x (state_of c out)) (state_of q out₁) c q
  unfolding flagged
  flag_some h p = rw (← et, h) p

pub flag_none : (m : Member) (x : ℕ) (c : Places) (out : List ℕ) (t : Bool) → t ≡ has_flag m → t ≡ false → HeldOk c → BitPut (flagged m x (state_of c out)) (state_of c out) c c
unfolding flagged
flag_none m x c out t et h ok = rw (← et, h) (record { is = refl; bool = ok; at = omega arith; tail = refl; next = refl })

-- ---- magics
module _ (S : Schema) (ob : Object) where
  pub magic-text : ob ≡ O.Text → 0xD812_C8F5 ≡ magic S ob
  unfolding magic
  magic-text e = rw e

  pub magic_bytes : ob ≡ O.Bytes → 0xDCDB_BE10 ≡ magic S ob
  unfolding magic
  magic_bytes e = rw e

  pub magic_list : (i : ℕ) → ob ≡ O.List i → 0x3400_BB46 ≡ magic S ob
  unfolding magic
  magic_list i e = rw e

  pub magic-table : (i j r : ℕ) → ob ≡ O.Table i → j ≡ i → r ≡ (Sc.table_of S j).id → r ≡ magic S ob
  unfolding magic
  magic-table i j r e ej er = rw (e, ← ej) er

  pub magic-direct : (t : ℕ) → ob ≡ O.DirectList t → 0xE2C6_CC05 ≡ magic S ob
  unfolding magic
  magic-direct t e = rw e

-- ---- references
module _ (o : ℕ) (inplace : Bool) (x : Extent) (c r : Places) (out out₁ : List ℕ) where
  pub referred_by : (y : ℕ) → y ≡ pick inplace x.length c.next → Stood o (put_number o y (state_of c out)) (state_of r out₁) c r
      → Stood o (referred o inplace x (state_of c out)) (state_of r out₁) c r
  unfolding referred
  referred_by y e t =
      subst (λ (st : State). Stood o st (state_of r out₁) c r) (ap (λ (z : ℕ). put_number o z (state_of c out)) e ∙ by inplace) t
    where
      by : (u : Bool) → put_number o (pick u x.length c.next) (state_of c out) ≡ pick u (put_number o x.length (state_of c out)) (put_number o c.next (state_of c out))
      by true = refl
      by false = refl

-- ---- contents
held_none : (r : Places) → r.free ≡ 0 → r.held ≡ 0 → HeldOk r
held_none r e f = record { free = omega arith; held = rw (e, f) (omega arith) }

module _ (c q : Places) (w chain : ℕ) (eq : q ≡ entered_object w chain c) (l : c.next ≤ 16777216) where
  pub entered_low : q.at < 2 ^ 61
  unfolding entered_object
  entered_low = let e = ap (λ (p : Places). p.at) eq in omega arith

  pub entered-header : (put now : State) (h : Places) → Stood 4 put now q h → h.at < 2 ^ 61
  unfolding entered_object
  entered-header put now h t = let e = ap (λ (p : Places). p.at) eq in let f = t.at in omega arith

pub header_put : (o mg : ℕ) (x : Extent) (c q h r : Places) (out out₁ out₂ : List ℕ) → c.next ≤ 16777216
    → (size : ℕ) → size ≡ 4 + o → q ≡ entered_object (size + x.width) x.chain c → Stood 4 (put_number 4 mg (state_of q out)) (state_of h out₁) q h
    → Stood o (put_number o x.length (state_of h out₁)) (state_of r out₂) h r → Opens o (headed o mg x (state_of c out)) (state_of r out₂) r
unfolding headed enter_object entered_object head_size largest
header_put o mg x c q h r out out₁ out₂ l size es en₀ t u =
    let eq : q ≡ entered_object (4 + o + x.width) x.chain c = en₀ ∙ ap (λ (n : ℕ). entered_object (n + x.width) x.chain c) es in
    let ea = ap (λ (p : Places). p.at) eq in
    let et = ap (λ (p : Places). p.tail) eq in
    let en = ap (λ (p : Places). p.next) eq in
    let mt = capped_most (c.next + (4 + o + x.width)) in
    let mn = capped_most (c.next + (4 + o + x.width) + x.chain) in
    let ha = t.at in
    let ht = t.tail in
    let hn = t.next in
    let ra = u.at in
    let rt = u.tail in
    let rn = u.next in
    record {
      is = u.is ∙ ap (put_number o x.length) (t.is ∙ ap (λ (p : Places). put_number 4 mg (state_of p out)) eq);
      bool = held_none r (u.free ∙ t.free ∙ ap (λ (p : Places). p.free) eq) (u.held ∙ t.held ∙ ap (λ (p : Places). p.held) eq);
      at = omega arith;
      tail = omega arith;
      next = omega arith;
    }

pub object-opened : (o : ℕ) (S : Schema) (ob : Object) (x : Extent) (c r : Places) (out out₁ : List ℕ) (mg : ℕ) → mg ≡ magic S ob
    → Opens o (headed o mg x (state_of c out)) (state_of r out₁) r → Opens o (open_object o S ob x (state_of c out)) (state_of r out₁) r
unfolding headed open_object
object-opened o S ob x c r out out₁ mg em t = subst (λ (m : ℕ). Opens o (headed o m x (state_of c out)) (state_of r out₁) r) em t

-- what the header of a direct list says of its elements
pub direct_put : (o : ℕ) (S : Schema) (t : ℕ) (c p r : Places) (out out₁ out₂ : List ℕ) (id size : ℕ) → id ≡ (Sc.table_of S t).id → size ≡ fixed_size o S (Sc.table_of S t).members
    → Stood 4 (put_number 4 id (state_of c out)) (state_of p out₁) c p → Stood 4 (put_number 4 size (state_of p out₁)) (state_of r out₂) p r
    → Stood 8 (direct_head o S t (state_of c out)) (state_of r out₂) c r
unfolding direct_head
direct_put o S t c p r out out₁ out₂ id size ei es f g =
    let a = f.at in
    let b = g.at in
    record {
      is = g.is ∙ ap (put_number 4 size) (f.is ∙ ap (λ (x : ℕ). put_number 4 x (state_of c out)) ei)
          ∙ ap (λ (x : ℕ). put_number 4 x (put_number 4 (Sc.table_of S t).id (state_of c out))) es;
      at = omega arith;
      free = g.free ∙ f.free;
      held = g.held ∙ f.held;
      tail = g.tail ∙ f.tail;
      next = g.next ∙ f.next;
    }

module _ (o : ℕ) (S : Schema) (ob : Object) (inplace : Bool) (x : Extent) (c r : Places) where
  pub opened-content : inplace ≡ true → c.tail ≤ 16777216 → c.next ≤ 16777216 → r ≡ entered_content x.width c → (out : List ℕ)
      → Opens o (opened o S ob inplace x (state_of c out)) (state_of r out) r
  unfolding opened enter_content entered_content largest
  opened-content e lt ln er out =
      let ea = ap (λ (p : Places). p.at) er in
      let et = ap (λ (p : Places). p.tail) er in
      let en = ap (λ (p : Places). p.next) er in
      let mt = capped_most (c.tail + x.width) in
      rw e (record {
        is = ap (λ (p : Places). state_of p out) er;
        bool = held_none r (ap (λ (p : Places). p.free) er) (ap (λ (p : Places). p.held) er);
        at = omega arith;
        tail = omega arith;
        next = omega arith;
      })

  pub opened-object : inplace ≡ false → (out out₁ : List ℕ) → Opens o (open_object o S ob x (state_of c out)) (state_of r out₁) r
      → Opens o (opened o S ob inplace x (state_of c out)) (state_of r out₁) r
  unfolding opened
  opened-object e out out₁ t = rw e t

-- ---- texts and bytes
pub no_other : (ob : Object) → is_blob ob ≡ true → (ob ≡ O.Text → ⊥) → (ob ≡ O.Bytes → ⊥) → ⊥
unfolding is_blob
no_other O.Text h t b = t refl
no_other O.Bytes h t b = b refl
no_other (O.List i) h t b = never h
no_other (O.Table i) h t b = never h
no_other (O.DirectList i) h t b = never h

pub object-by_offset : (o : ℕ) (S : Schema) (ob : Object) (x : Extent) (c r : Places) (out out₁ : List ℕ) → Opens o (open_object o S ob x (state_of c out)) (state_of r out₁) r
    → Opens o (opened o S ob false x (state_of c out)) (state_of r out₁) r
object-by_offset o S ob x c r out out₁ t = opened-object o S ob false x c r refl out out₁ t
