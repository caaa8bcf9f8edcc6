-- Eight bits put one by one into a new byte are the byte put at once.
use Rattle.std.specs.Prelude.{◌≡◌, List, ℕ, suc, ◌+◌, ◌-◌, ◌*◌, ◌^◌, set}
use Rattle.std.proofs.Math.Path.{ap}
use Rattle.std.proofs.Common.{◌∙◌, set-set}
use Rattle.write_store.specs.State.{State, put_bit, put_bit_at, put_octet}

-- a state whose last bool byte is the one before `at`
abbrev filling : State → ℕ → ℕ → List ℕ → State
filling st f h l = record { at = st.at + 1; last = st.at; free = f; held = h; tail = st.tail; next = st.next; out = l }

first_bit : (st : State) (b : ℕ) → st.free ≡ 0 → put_bit b st ≡ filling st 7 b (set st.out st.at b)
unfolding put_bit put_bit_at
first_bit st b e = ap (λ (f : ℕ). put_bit_at b f st) e

-- the next bit of a byte that is being filled, f of whose bits are free after it
next_bit : (st : State) (f h b : ℕ) (l : List ℕ) → put_bit_at b (suc f) (filling st (suc f) h (set l st.at h)) ≡ filling st f (h + b * 2 ^ (7 - f)) (set l st.at (h + b * 2 ^ (7 - f)))
unfolding put_bit_at
next_bit st f h b l = ap (filling st f (h + b * 2 ^ (7 - f))) (set-set l st.at h (h + b * 2 ^ (7 - f)))

module _ (st : State) (b₀ b₁ b₂ b₃ b₄ b₅ b₆ b₇ : ℕ) (e : st.free ≡ 0) where
  pub octet-bits : put_bit b₇ (put_bit b₆ (put_bit b₅ (put_bit b₄ (put_bit b₃ (put_bit b₂ (put_bit b₁ (put_bit b₀ st)))))))
      ≡ put_octet (b₀ + b₁ * 2 + b₂ * 4 + b₃ * 8 + b₄ * 16 + b₅ * 32 + b₆ * 64 + b₇ * 128) st
  unfolding put_bit put_octet
  octet-bits =
      ap (λ (u : State). put_bit b₇ (put_bit b₆ (put_bit b₅ (put_bit b₄ (put_bit b₃ (put_bit b₂ (put_bit b₁ u))))))) (first_bit st b₀ e)
      ∙ ap (λ (u : State). put_bit b₇ (put_bit b₆ (put_bit b₅ (put_bit b₄ (put_bit b₃ (put_bit b₂ u)))))) (next_bit st 6 b₀ b₁ st.out)
      ∙ ap (λ (u : State). put_bit b₇ (put_bit b₆ (put_bit b₅ (put_bit b₄ (put_bit b₃ u))))) (next_bit st 5 _ b₂ st.out)
      ∙ ap (λ (u : State). put_bit b₇ (put_bit b₆ (put_bit b₅ (put_bit b₄ u)))) (next_bit st 4 _ b₃ st.out)
      ∙ ap (λ (u : State). put_bit b₇ (put_bit b₆ (put_bit b₅ u))) (next_bit st 3 _ b₄ st.out)
      ∙ ap (λ (u : State). put_bit b₇ (put_bit b₆ u)) (next_bit st 2 _ b₅ st.out)
      ∙ ap (λ (u : State). put_bit b₇ u) (next_bit st 1 _ b₆ st.out)
      ∙ next_bit st 0 _ b₇ st.out
