-- What a run over bytes promises: how a word holds a state, and to which state bytes lead.
use Rattle.std.specs.Prelude.{ℕ, ◌+◌, ◌-◌, ◌*◌, ◌/◌, ◌%◌, ◌≤◌, ◌<◌, ◌≡◌, List, [], ◌∷◌, eqb, length, get_or, take, drop}
use Rattle.coding.specs.Lists.{pick}
use Rattle.coding.specs.Utf8.{TextState, Boundary, OneTail, TwoTails, ThreeTails, AfterE0, AfterED, AfterF0, AfterF4, NoText, after_octet}
use Rattle.utf8.specs.Table.{state_number}

-- the state of a number
unfoldable pub state_of : ℕ → TextState
state_of n =
    pick (eqb n 0) Boundary
    (pick (eqb n 1) OneTail
    (pick (eqb n 2) TwoTails
    (pick (eqb n 3) ThreeTails
    (pick (eqb n 4) AfterE0 (pick (eqb n 5) AfterED (pick (eqb n 6) AfterF0 (pick (eqb n 7) AfterF4 NoText)))))))

-- the state that a word's last six bits hold
unfoldable pub state_in : ℕ → TextState
state_in w = state_of (w % 64 / 6)

-- a word's last six bits are 6 times the number of a state
unfoldable pub HoldsState : ℕ → Type 0
HoldsState w = w % 64 ≡ 6 * state_number (state_in w)

-- the word r holds the state after the byte b in the state of w
pub record StateAfter (w b r : ℕ) : Type 0 where
  pub holds : HoldsState r
  pub is : state_in r ≡ after_octet (state_in w) b

-- the state after octets, one after the other
unfoldable pub after_octets : TextState → List ℕ → TextState
after_octets q [] = q
after_octets q (x ∷ xs) = after_octets (after_octet q x) xs

-- the bytes of m from i up to j lead from one state to another
pub record Leads (m : List ℕ) (i j : ℕ) (q r : TextState) : Type 0 where
  pub forth : i ≤ j
  pub inside : j ≤ length m
  pub is : after_octets q (take (j - i) (drop i m)) ≡ r

-- the word r holds the state to which the bytes from i up to j lead from the state of w
pub record Onward (m : List ℕ) (i j w r : ℕ) : Type 0 where
  pub holds : HoldsState r
  pub leads : Leads m i j (state_in w) (state_in r)

-- the bytes from i up to j can be left out where a character may begin: one may begin behind them too
abbrev pub Skips : List ℕ → ℕ → ℕ → Type 0
Skips m i j = Leads m i j Boundary Boundary

-- the n bytes from i are ASCII
pub record Ascii (m : List ℕ) (i n : ℕ) : Type 0 where
  pub each : (t : ℕ) → t < n → get_or m (i + t) 0 < 128
