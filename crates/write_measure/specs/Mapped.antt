-- What a decoder got, through a function; and what holds of whatever it got.
use Rattle.std.specs.Prelude.{◌≡◌, refl, List, Bool, true, false, ℕ, eqb}
use Rattle.std.proofs.Common.{ap, ◌∙◌}
use Rattle.coding.specs.Lists.{pick}
use Rattle.coding.specs.Value.{Value, Values, absent, ◌then◌}
use Rattle.coding.specs.Sheet.{Parsed, fail, got, bind, take_number, take_mark}
use Rattle.write_measure.specs.Survey.{survey_mark}

abbrev pub mapped : {A B : Type 0} → (A → B) → Parsed A → Parsed B
mapped f fail = fail
mapped f (got a xs) = got (f a) xs

-- whatever was got has P
abbrev pub Has : {A : Type 0} → (A → Type 0) → Parsed A → Type 0
Has P fail = Unit {0}
Has P (got a xs) = P a

pub mapped-same : {A B : Type 0} (f g : A → B) (p : Parsed A) → Has (λ a. f a ≡ g a) p → mapped f p ≡ mapped g p
mapped-same f g fail h = refl
mapped-same f g (got a xs) h = ap (λ x. got x xs) h

-- a number, and what comes of it
pub bind-same : {A B : Type 0} (p : Parsed A) (next next' : A → List ℕ → Parsed B) → ((a : A) (xs : List ℕ) → next a xs ≡ next' a xs)
    → bind p next ≡ bind p next'
unfolding bind
bind-same fail next next' h = refl
bind-same (got a xs) next next' h = h a xs

pub bind-mapped : {A B C : Type 0} (f : B → C) (p : Parsed A) (next : A → List ℕ → Parsed C) (next' : A → List ℕ → Parsed B)
    → ((a : A) (xs : List ℕ) → next a xs ≡ mapped f (next' a xs)) → bind p next ≡ mapped f (bind p next')
unfolding bind
bind-mapped f fail next next' h = refl
bind-mapped f (got a xs) next next' h = h a xs

pub bind_has : {A B : Type 0} (P : B → Type 0) (p : Parsed A) (next : A → List ℕ → Parsed B) → ((a : A) (xs : List ℕ) → Has P (next a xs))
    → Has P (bind p next)
unfolding bind
bind_has P fail next h = tt
bind_has P (got a xs) next h = h a xs

-- what was got, and one value made of it
pub mapped_got : {A B C : Type 0} (f : A → B) (g : B → C) (h : A → C) (p : Parsed A) → Has (λ a. g (f a) ≡ h a) p
    → bind (mapped f p) (λ b ys. got (g b) ys) ≡ mapped h p
unfolding bind
mapped_got f g h fail e = refl
mapped_got f g h (got a xs) e = ap (λ x. got x xs) e

-- one value, and those after it
pub seq : {E R : Type 0} (part : Parsed Value) (e : Value → E) (rest : List ℕ → Parsed Values) (go : E → List ℕ → Parsed R) (f : Values → R)
    → ((v : Value) (ys : List ℕ) → go (e v) ys ≡ mapped (λ vs. f (v then vs)) (rest ys))
    → bind (mapped e part) go ≡ mapped f (bind part (λ v ys. bind (rest ys) (λ vs zs. got (v then vs) zs)))
unfolding bind
seq fail e rest go f h = refl
seq (got v ys) e rest go f h = h v ys ∙ close (rest ys)
  where
    close : (p : Parsed Values) → mapped (λ vs. f (v then vs)) p ≡ mapped f (bind p (λ vs zs. got (v then vs) zs))
    close fail = refl
    close (got vs zs) = refl

-- a mark, and what it says to do
pub mark-mapped : {A : Type 0} (f : Value → A) (none : A) (unknown body : List ℕ → Parsed A) (unknown' body' : List ℕ → Parsed Value) → none ≡ f absent
    → ((ys : List ℕ) → unknown ys ≡ mapped f (unknown' ys)) → ((ys : List ℕ) → body ys ≡ mapped f (body' ys)) → (xs : List ℕ)
    → survey_mark none unknown body xs ≡ mapped f (take_mark unknown' body' xs)
unfolding survey_mark take_mark
mark-mapped f none unknown body unknown' body' e l b xs =
    bind-mapped f (take_number 2 xs) _ _ (λ mark ys. by ys (eqb mark 0) (eqb mark 1) (eqb mark 2))
  where
    by : (ys : List ℕ) (t u w : Bool)
        → pick t (got none ys) (pick u (body ys) (pick w (unknown ys) fail))
        ≡ mapped f (pick t (got absent ys) (pick u (body' ys) (pick w (unknown' ys) fail)))
    by ys true u w = ap (λ x. got x ys) e
    by ys false true w = b ys
    by ys false false true = l ys
    by ys false false false = refl
