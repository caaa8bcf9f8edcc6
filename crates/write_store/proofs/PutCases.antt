-- What is put behind the places.
use mathlib.Core.Path.{◌≡◌, refl, sym, ap, ap₂, ◌∙◌}
use mathlib.Core.List.{List, [], ◌∷◌}
use Prim.Native.Nat.{ℕ, ◌+◌}
use lib.ListN.{length, set, replicate, length-replicate}
use lib.Seq.{sets}
use Rattle.coding.specs.Bytes.{le_bytes}
use Rattle.coding.specs.Bits.{pack}
use Rattle.coding.specs.Message.{zeros}
use Rattle.laws.specs.Bits.{pack-length}
use Rattle.write_measure.specs.SlotSizes.{length-le_bytes}
use Rattle.write_store.specs.State.{put_bytes, put_byte, put_number}
use Rattle.write_store.specs.Storing.{state_of, forward, Stood}
use Rattle.write_store.specs.declared.Places.{Places}

-- ---- runs of bytes
stood : (c r : Places) (n : ℕ) (bs o o₁ : List ℕ) → length bs ≡ n → o₁ ≡ sets o c.at bs → r ≡ forward n c
    → Stood n (put_bytes bs (state_of c o)) (state_of r o₁) c r
unfolding forward put_bytes
stood c r n bs o o₁ l e er =
    record {
      is = ap (λ (q : Places). state_of q o₁) er
          ∙ ap₂ (λ (k : ℕ) (m : List ℕ). record { at = c.at + k; last = c.last; free = c.free; held = c.held; tail = c.tail; next = c.next; out = m }) (sym l) e;
      at = ap (λ (q : Places). q.at) er;
      free = ap (λ (q : Places). q.free) er;
      held = ap (λ (q : Places). q.held) er;
      tail = ap (λ (q : Places). q.tail) er;
      next = ap (λ (q : Places). q.next) er;
    }

module _ (c r : Places) (o o₁ : List ℕ) where
  pub number_put : (w x : ℕ) → o₁ ≡ sets o c.at (le_bytes w x) → r ≡ forward w c → Stood w (put_number w x (state_of c o)) (state_of r o₁) c r
  unfolding put_number
  number_put w x e er = stood c r w (le_bytes w x) o o₁ (length-le_bytes w x) e er

  pub byte_put : (x : ℕ) → o₁ ≡ set o c.at x → r ≡ forward 1 c → Stood 1 (put_byte x (state_of c o)) (state_of r o₁) c r
  unfolding put_byte
  byte_put x e er = stood c r 1 (x ∷ []) o o₁ refl e er

  pub zeros_put : (n : ℕ) → o₁ ≡ sets o c.at (replicate n 0) → r ≡ forward n c → Stood n (put_bytes (zeros n) (state_of c o)) (state_of r o₁) c r
  zeros_put n e er = stood c r n (replicate n 0) o o₁ (length-replicate n 0) e er

  pub copy_put : (n : ℕ) (xs : List ℕ) → o₁ ≡ sets o c.at (pack n xs) → r ≡ forward n c → Stood n (put_bytes (pack n xs) (state_of c o)) (state_of r o₁) c r
  copy_put n xs e er = stood c r n (pack n xs) o o₁ (pack-length n xs) e er
