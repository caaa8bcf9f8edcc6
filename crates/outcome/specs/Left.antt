-- The walk, with what is left of both allowances in place of what is spent: nothing has to be compared with the allowances then, and
-- no walker needs them. `judge` shows that it is `Walk.visit`. A `Spent` is what is left here; `o` is the width of an offset in
-- bytes.
use Rattle.std.specs.Prelude.{ℕ, zero, suc, ◌-◌, List, ltb, leb, Result, Ok, Err}
use Rattle.coding.specs.Lists.{pick}
use Rattle.coding.specs.Schema.{Schema}
use Rattle.coding.specs.Walk as W
use Rattle.coding.specs.Walk.{Walked}
use Rattle.coding.specs.declared.Object.{Object}
use Rattle.coding.specs.declared.Content.{Content}
use Rattle.coding.specs.declared.Budget.{Budget}
use Rattle.coding.specs.declared.Spent.{Spent}

-- what is left after one visit
unfoldable pub one_less : Spent → Spent
one_less s = W.spending (s.visits - 1) s.content

-- what is left after so many bytes of content
unfoldable pub less_content : ℕ → Spent → Spent
less_content n s = W.spending s.visits (s.content - n)

-- as `Walk.counted`: a visit, if one is left
unfoldable pub counted : W.Child → W.Child
counted child ob p s = pick (ltb 0 s.visits) (child ob p (one_less s)) (W.refuse 4 (W.placed p) s)

-- as `Walk.admit`: content that fits, if as much is left
unfoldable pub admit : W.Child → ℕ → Schema → List ℕ → Object → ℕ → Result Content ℕ → Spent → Walked
admit child o S m ob holder (Err n) s = W.refuse n holder s
admit child o S m ob holder (Ok c) s =
    pick (leb (W.content_length o S ob c.length) s.content)
    (W.enter child o S m ob holder (W.bytes_tested m ob (Ok c)) (less_content (W.content_length o S ob c.length) s))
    (W.refuse 17 holder s)

-- as `Walk.arrive`
unfoldable pub arrive : W.Child → ℕ → Schema → List ℕ → W.Child
arrive child o S m ob p s = admit child o S m ob (W.placed p) (W.fit_object o S m ob p) s

-- as `Walk.visit`
unfoldable pub visit : ℕ → ℕ → Schema → List ℕ → W.Child
visit zero o S m = counted W.too_deep
visit (suc d) o S m = counted (arrive (visit d o S m) o S m)

-- ---- what is spent, by what is left of a budget
unfoldable pub spent_of : Budget → Walked → Walked
spent_of b (Ok l) = Ok (W.spending (b.visits - l.visits) (b.content - l.content))
spent_of b (Err (r, l)) = Err (r, W.spending (b.visits - l.visits) (b.content - l.content))
