-- The message as a whole: its start, and the root table.
use mathlib.Core.Path.{◌≡◌, sym, ap, ◌∙◌}
use mathlib.Core.Bool.{false}
use Rattle.std.specs.Prelude.{Option}
use mathlib.Core.List.{List}
use Prim.Native.Nat.{ℕ, ◌+◌, ◌≤◌}
use native.Mathlib.Omega.{arith}
use lib.ListN.{length, drop}
use Rattle.coding.specs.Bytes.{deepest}
use Rattle.coding.specs.Bits.{bits}
use Rattle.coding.specs.Schema.{Schema}
use Rattle.coding.specs.Walk.{start_size}
use Rattle.coding.specs.declared.Object.{Object}
use Rattle.coding.specs.declared.Object.TheVariants as O
use Rattle.write_measure.specs.Survey.{survey}
use Rattle.write_measure.specs.declared.Extent.{Extent}
use Rattle.write_store.specs.State.{State, put_number}
use Rattle.write_pass.specs.EmitSheet.{emit_refer, emit, emit_message}
use Rattle.write_store.specs.Storing.{state_of, Stood}
use Rattle.write_pass.specs.Measure.{Measured}
use Rattle.write_pass.specs.Emitting.{Room, EmittedAt, MessageAt}
use Rattle.write_store.specs.declared.Places.{Places}
use Rattle.write_pass.specs.declared.Emitted.{Emitted}

-- where the message starts; its start has n bytes
abbrev pub start : ℕ → Places
start n = record { at = 0; last = 0; free = 0; held = 0; tail = n; next = n }

pub message_room : (s : List ℕ) → length s ≤ 16777215 → (put now : State) (n : ℕ) (p : Places) → Stood 4 put now (start n) p → (o : ℕ) → n ≡ 4 + o → o ≤ 6
    → Room s (record { places = p; next = 0 })
message_room s l put now n p t o en most =
    let a = t.at in
    let b = t.free in
    let d = t.tail in
    let e = t.next in
    record {
      short = l;
      here = omega arith;
      at = omega arith;
      bool = record { free = omega arith; held = rw (t.free, t.held) (omega arith) };
      tail = omega arith;
      next = omega arith;
    }

pub message_done : (o : ℕ) (S : Schema) (s : List ℕ) (ob : Object) → ob ≡ O.Table S.root → (size : ℕ) → size ≡ 4 + o → (out : List ℕ) (p : Places) (out₁ : List ℕ)
    → Stood 4 (put_number 4 0xB5C0_C4B3 (state_of (start size) out)) (state_of p out₁) (start size) p → (r : Option Emitted) (out₂ : List ℕ)
    → EmittedAt s (emit_refer (emit 32 o S) (survey 32 o S) o S false ob (state_of p out₁) (drop 0 (bits s))) (record { places = p; next = 0 }) o r out₂
    → MessageAt s (emit_message o S out (bits s)) r out₂
unfolding emit_message deepest start_size
message_done o S s ob eo size es out p out₁ st r out₂ t =
    record {
      is = ap (λ (k : ℕ). emit_refer (emit 32 o S) (survey 32 o S) o S false (O.Table S.root) (put_number 4 0xB5C0_C4B3 (state_of (start k) out)) (bits s)) (sym es)
          ∙ ap (λ (z : State). emit_refer (emit 32 o S) (survey 32 o S) o S false (O.Table S.root) z (bits s)) (sym st.is)
          ∙ ap (λ (b : Object). emit_refer (emit 32 o S) (survey 32 o S) o S false b (state_of p out₁) (bits s)) (sym eo) ∙ t.is;
    }

-- by the extent of the root table
pub message_measured : (o : ℕ) (S : Schema) (s : List ℕ) (e : Extent) → Measured false (survey deepest o S (O.Table S.root) (bits s)) e → (ob : Object) → ob ≡ O.Table S.root
    → Measured false (survey 32 o S ob (drop 0 (bits s))) e
unfolding deepest
message_measured o S s e m ob eo = rw eo m
