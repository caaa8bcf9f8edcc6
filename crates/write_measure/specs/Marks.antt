-- A mark as the survey takes it, and what comes of each.
use Rattle.std.specs.Prelude.{◌≡◌, ℕ, ◌*◌, ◌≤◌, List, Bool, true, false, length, drop, eqb, Option, MatchOption}
use Rattle.std.proofs.Math.Path.{refl}
use Rattle.coding.specs.Lists.{pick}
use Rattle.coding.specs.Bits.{bits}
use Rattle.coding.specs.Sheet.{Parsed, fail, got, bind, take_number}
use Rattle.write_measure.specs.Survey.{survey_mark}
use Rattle.write_measure.specs.declared.Mark.{Mark}
use Rattle.write_measure.specs.declared.Mark.TheVariants.{Absent, Present, Unknown}
use Rattle.write_measure.specs.declared.Marked.{Marked}

-- the mark of two bits: 3 is none
unfoldable pub mark_of : List ℕ → Parsed Mark
mark_of xs =
    bind (take_number 2 xs) (λ n ys. pick (eqb n 0) (got Absent ys) (pick (eqb n 1) (got Present ys) (pick (eqb n 2) (got Unknown ys) fail)))

-- the mark at pos of the sheet s, and where the sheet goes on
pub record MarkedAt (s : List ℕ) (pos : ℕ) (m : Marked) : Type 0 where
  pub is : mark_of (drop pos (bits s)) ≡ got m.mark (drop m.next (bits s))
  pub inside : m.next ≤ 8 * length s

-- what each mark says comes next
abbrev pub by_mark : {A : Type 0} → Mark → A → A → A → A
by_mark Absent none unknown body = none
by_mark Present none unknown body = body
by_mark Unknown none unknown body = unknown

module _ {A : Type 0} (none : A) (unknown body : List ℕ → Parsed A) where
  pub mark-survey : (xs : List ℕ)
      → survey_mark none unknown body xs ≡ bind (mark_of xs) (λ m ys. by_mark m (got none ys) (unknown ys) (body ys))
  unfolding survey_mark mark_of bind
  mark-survey xs = by (take_number 2 xs)
    where
      marks : (t u w : Bool) (ys : List ℕ)
          → pick t (got none ys) (pick u (body ys) (pick w (unknown ys) fail))
          ≡ bind (pick t (got Absent ys) (pick u (got Present ys) (pick w (got Unknown ys) fail))) (λ m zs. by_mark m (got none zs) (unknown zs) (body zs))
      marks true u w ys = refl
      marks false true w ys = refl
      marks false false true ys = refl
      marks false false false ys = refl

      by : (p : Parsed ℕ)
          → bind p (λ n ys. pick (eqb n 0) (got none ys) (pick (eqb n 1) (body ys) (pick (eqb n 2) (unknown ys) fail)))
          ≡ bind (bind p (λ n ys. pick (eqb n 0) (got Absent ys) (pick (eqb n 1) (got Present ys) (pick (eqb n 2) (got Unknown ys) fail)))) (λ m zs. by_mark m (got none zs) (unknown zs) (body zs))
      by fail = refl
      by (got n ys) = marks (eqb n 0) (eqb n 1) (eqb n 2) ys
