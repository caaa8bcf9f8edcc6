-- Runs of bytes stored into a buffer: what stands there then, and what is as it was.
use Rattle.std.specs.Prelude.{◌≡◌, refl, List, [], ◌∷◌, ◌++◌, ℕ, suc, zero, ◌+◌, ◌≤◌, ◌<◌, length, get_or, take, set}
use Rattle.std.proofs.Common.{sym, ap, ◌∙◌, arith, zero-add, add-zero, length-set, get_or-set_same, get_or-set_other, ext_get_or, get_or-take, length-take-le}
use Rattle.std.proofs.lemmas.List.Edits.{sets}

-- the bytes bs stand in m from p on, and m reaches to their end
abbrev pub Holds : List ℕ → ℕ → List ℕ → Type 0
Holds m p [] = p ≤ length m
Holds m p (b ∷ bs) = (get_or m p 0 ≡ b) × Holds m (suc p) bs

-- n bytes from p on are the same
abbrev pub Same : List ℕ → List ℕ → ℕ → ℕ → Type 0
Same m m' p n = (i : ℕ) → p ≤ i → i < p + n → get_or m' i 0 ≡ get_or m i 0

pub holds_fits : (m : List ℕ) (p : ℕ) (bs : List ℕ) → Holds m p bs → p + length bs ≤ length m
holds_fits m p [] h = omega arith
holds_fits m p (b ∷ bs) h = omega (arith, holds_fits m (suc p) bs h.1)

pub holds_same : (m m' : List ℕ) (p : ℕ) (bs : List ℕ) → length m' ≡ length m → Same m m' p (length bs) → Holds m p bs → Holds m' p bs
holds_same m m' p [] l f h = omega arith
holds_same m m' p (b ∷ bs) l f h =
    (f p (omega arith) (omega arith) ∙ h.0, holds_same m m' (suc p) bs l (λ i a c. f i (omega arith) (omega arith)) h.1)

holds-get_or : (m : List ℕ) (p : ℕ) (bs : List ℕ) (i : ℕ) → Holds m p bs → i < length bs → get_or m (p + i) 0 ≡ get_or bs i 0
holds-get_or m p [] i h l = absurd (omega arith)
holds-get_or m p (b ∷ bs) zero h l = let e : p + 0 ≡ p = omega arith in rw e h.0
holds-get_or m p (b ∷ bs) (suc i) h l = let e : p + suc i ≡ suc p + i = omega arith in rw e (holds-get_or m (suc p) bs i h.1 (omega arith))

pub holds-append : (m : List ℕ) (p : ℕ) (a b : List ℕ) → Holds m p a → Holds m (p + length a) b → Holds m p (a ++ b)
holds-append m p [] b h g = let e : p + 0 ≡ p = omega arith in rw e at g
holds-append m p (x ∷ a) b h g =
    let e : p + suc (length a) ≡ suc p + length a = omega arith in
    (h.0, holds-append m (suc p) a b h.1 (rw e at g))

pub holds-take : (m : List ℕ) (bs : List ℕ) → Holds m 0 bs → take (length bs) m ≡ bs
holds-take m bs h =
    let f = holds_fits m 0 bs h in
    let l : length (take (length bs) m) ≡ length bs = length-take-le (length bs) m (omega arith) in
    ext_get_or 0 (take (length bs) m) bs l (λ i x. get_or-take (length bs) m i 0 (omega arith) ∙ rw zero-add at (holds-get_or m 0 bs i h (omega arith)))

-- ---- a run of stores
pub sets-before : (m : List ℕ) (p : ℕ) (bs : List ℕ) (i : ℕ) → i < p → get_or (sets m p bs) i 0 ≡ get_or m i 0
sets-before m p [] i h = refl
sets-before m p (b ∷ bs) i h = sets-before (set m p b) (suc p) bs i (omega arith) ∙ get_or-set_other m p i b 0 (omega arith)

pub sets-after : (m : List ℕ) (p : ℕ) (bs : List ℕ) (i : ℕ) → p + length bs ≤ i → get_or (sets m p bs) i 0 ≡ get_or m i 0
sets-after m p [] i h = refl
sets-after m p (b ∷ bs) i h = sets-after (set m p b) (suc p) bs i (omega arith) ∙ get_or-set_other m p i b 0 (omega arith)

pub sets_holds : (m : List ℕ) (p : ℕ) (bs : List ℕ) → p + length bs ≤ length m → Holds (sets m p bs) p bs
sets_holds m p [] h = omega arith
sets_holds m p (b ∷ bs) h = (
  sets-before (set m p b) (suc p) bs p (omega arith) ∙ get_or-set_same m p b 0 (omega arith),
  sets_holds (set m p b) (suc p) bs (omega (arith, length-set m p b)),
)

pub sets-append : (m : List ℕ) (p : ℕ) (a b : List ℕ) → sets m p (a ++ b) ≡ sets (sets m p a) (p + length a) b
sets-append m p [] b = ap (λ (n : ℕ). sets m n b) (sym (add-zero p))
sets-append m p (x ∷ a) b =
    let e : suc p + length a ≡ p + suc (length a) = omega arith in
    sets-append (set m p x) (suc p) a b ∙ ap (λ (n : ℕ). sets (sets (set m p x) (suc p) a) n b) e
