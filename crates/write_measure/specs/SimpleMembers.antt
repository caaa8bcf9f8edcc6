-- Simple members: flat values, texts and bytes. Nothing in them has parts, so that no walk to other objects is needed.
use Rattle.std.specs.Prelude.{◌≡◌, Bool, ℕ, ◌*◌, ◌≤◌, length, drop, eqb, Option, MatchOption}
use Rattle.std.proofs.Math.Path.{refl}
use Rattle.std.proofs.Math.Bool.{true, false}
use mathlib.Core.List.{List, ◌∷◌}
use Rattle.coding.specs.Lists.{pick}
use Rattle.coding.specs.Bits.{bits}
use Rattle.coding.specs.Schema.{Schema}
use Rattle.coding.specs.Layout.{after_bytes, after_member}
use Rattle.coding.specs.Sheet.{Parsed, fail, got, bind, take_number}
use Rattle.coding.specs.declared.Cursor.{Cursor}
use Rattle.coding.specs.declared.Flat.{Flat}
use Rattle.coding.specs.declared.Kind.TheVariants.{OfFlat}
use Rattle.coding.specs.declared.Member.{Member}
use Rattle.write_measure.specs.Survey.{survey_mark, survey_flat, survey_struct, plain, joined, Surveyor, plain_of, survey_body, survey_unknown_flat, survey_unknown, flat_may_lack, may_lack, survey_part, survey_members}
use Rattle.write_measure.specs.Surveyed.{Small}
use Rattle.write_measure.specs.declared.Extent.{Extent}
use Rattle.write_measure.specs.declared.Left.{Left}

-- a flat value with its mark: whether it can be written
unfoldable pub flat_part : (ℕ → List ℕ → Parsed Bool) → Bool → Flat → List ℕ → Parsed Bool
flat_part inner optional k xs = survey_mark (flat_may_lack optional k) (survey_unknown_flat k) (survey_flat inner optional k) xs

-- a member with its mark, joined to the extent of what stands before it
unfoldable pub joined_part : Surveyor → ℕ → Schema → Member → Extent → List ℕ → Parsed Extent
joined_part child o S r a xs = bind (survey_part child o S r.kind r.optional r.inplace xs) (λ e ys. got (joined a e) ys)

-- of p, the survey of the members ms from `from` on: they are gone over up to l's index, with l's extent for all before it
pub record LeftAt (child : Surveyor) (o : ℕ) (S : Schema) (ms : List Member) (s : List ℕ) (from : ℕ) (p : Parsed Extent) (l : Left) : Type 0 where
  pub is : p ≡ survey_members child o S (drop l.index ms) l.extent (drop l.next (bits s))
  pub on : from ≤ l.index
  pub few : l.index ≤ length ms
  pub inside : l.next ≤ 8 * length s
  pub small : Small l.extent

abbrev pub LeftIn : Surveyor → ℕ → Schema → List Member → List ℕ → ℕ → Parsed Extent → Option Left → Type 0
LeftIn child o S ms s from p r = MatchOption r (p ≡ fail) (LeftAt child o S ms s from p)

-- a member takes w bytes, and no bit
pub record WholeBytes (o : ℕ) (S : Schema) (m : Member) (w : ℕ) : Type 0 where
  pub next : (c : Cursor) → after_member o S m c ≡ after_bytes w c

module _ (child : Surveyor) (o : ℕ) (S : Schema) where
  pub flat-part_is : (k : Flat) (optional inplace : Bool) (xs : List ℕ)
      → survey_part child o S (OfFlat k) optional inplace xs ≡ plain_of (flat_part (survey_struct S) optional k xs)
  unfolding survey_part flat_part survey_mark survey_body survey_unknown may_lack plain_of bind
  flat-part_is k optional inplace xs = by (take_number 2 xs)
    where
      marks : (t u w : Bool) (ys : List ℕ)
          → pick t (got (plain (flat_may_lack optional k)) ys) (pick u (plain_of (survey_flat (survey_struct S) optional k ys)) (pick w (plain_of (survey_unknown_flat k ys)) fail))
          ≡ plain_of (pick t (got (flat_may_lack optional k) ys) (pick u (survey_flat (survey_struct S) optional k ys) (pick w (survey_unknown_flat k ys) fail)))
      marks true u w ys = refl
      marks false true w ys = refl
      marks false false true ys = refl
      marks false false false ys = refl

      by : (p : Parsed ℕ)
          → bind p (λ mark ys. pick (eqb mark 0) (got (plain (flat_may_lack optional k)) ys) (pick (eqb mark 1) (plain_of (survey_flat (survey_struct S) optional k ys)) (pick (eqb mark 2) (plain_of (survey_unknown_flat k ys)) fail)))
          ≡ plain_of (bind p (λ mark ys. pick (eqb mark 0) (got (flat_may_lack optional k) ys) (pick (eqb mark 1) (survey_flat (survey_struct S) optional k ys) (pick (eqb mark 2) (survey_unknown_flat k ys) fail))))
      by fail = refl
      by (got m ys) = marks (eqb m 0) (eqb m 1) (eqb m 2) ys

  -- members in turn are the first, joined to what stands before it, and then those after it
  pub members-joined : (r : Member) (rs : List Member) (a : Extent) (xs : List ℕ)
      → survey_members child o S (r ∷ rs) a xs ≡ bind (joined_part child o S r a xs) (λ e ys. survey_members child o S rs e ys)
  unfolding survey_members joined_part bind
  members-joined r rs a xs = by (survey_part child o S r.kind r.optional r.inplace xs)
    where
      by : (p : Parsed Extent) → bind p (λ e ys. survey_members child o S rs (joined a e) ys) ≡ bind (bind p (λ e ys. got (joined a e) ys)) (λ e ys. survey_members child o S rs e ys)
      by fail = refl
      by (got e ys) = refl
