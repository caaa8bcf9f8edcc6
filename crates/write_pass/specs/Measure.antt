-- What an object takes, known without a survey of what stands in it: its length and its width are those that it opens with, and
-- nothing stands in place behind a text, bytes, a list, or a table without an in-place member.
use Prim.Native.Nat.{ℕ, zero, suc, ◌+◌, ◌^◌, ◌<◌}
use Rattle.std.specs.Prelude.{◌≡◌, Bool, ◌&&◌, Option, Some, None, MatchOption, IfSome, eqb, length}
use Rattle.std.proofs.Math.Path.{refl, sym, ap}
use Rattle.std.proofs.Common.{ap₂, ◌∙◌, subst, arith}
use mathlib.Core.List.{List, [], ◌∷◌}
use Rattle.std.proofs.Math.Bool.{true, false}
use Rattle.std.proofs.Math.Dec.{leb}
use Rattle.coding.specs.Lists.{pick}
use Rattle.coding.specs.Schema.{Schema, element_of, cases_of, case_of, table_of}
use Rattle.coding.specs.Layout.{fixed_size}
use Rattle.coding.specs.Step.{elements_size}
use Rattle.coding.specs.Sheet.{Parsed, fail, got, bind, take_number, unmarked}
use Rattle.coding.specs.declared.Object.{Object}
use Rattle.coding.specs.declared.Object.TheVariants as O
use Rattle.coding.specs.declared.Kind.{Kind}
use Rattle.coding.specs.declared.Kind.TheVariants.{OfFlat, OfObject, OfUnion}
use Rattle.coding.specs.declared.Member.{Member}
use Rattle.laws.specs.Lists.{never}
use Rattle.laws.specs.Sound.{inplace_count}
use Rattle.write_measure.specs.Survey.{capped, survey_mark, plain, opened, joined, referred, may_lack, Surveyor, plain_of, survey_object, survey_choice, survey_flat, survey_struct, survey_body, survey_unknown_flat, survey_unknown, survey_part, survey_element, survey_members, survey_elements, survey_directs, direct_size, survey_content, survey}
use Rattle.write_measure.specs.Surveyed.{Small}
use Rattle.write_measure.specs.Mapped.{Has, bind_has}
use Rattle.write_measure.specs.Summed.{capped_in}
use Rattle.write_measure.specs.declared.Extent.{Extent}

-- r has the length and the width of x, and its chain too unless it stands in place, where the chain is of no use
pub record Sizes (inplace : Bool) (r x : Extent) : Type 0 where
  pub length : r.length ≡ x.length
  pub width : r.width ≡ x.width
  pub chain : inplace ≡ false → r.chain ≡ x.chain

-- r has the sizes of what p gives, if it gives something
pub record Measured (inplace : Bool) (p : Parsed Extent) (r : Extent) : Type 0 where
  pub is : Has (Sizes inplace r) p
  pub small : Small r

-- what p gives was measured, if it gives something that is seen without its content
pub record MeasuredAt (inplace : Bool) (p : Parsed Extent) (r : Option Extent) : Type 0 where
  pub is : MatchOption r (p ≡ fail) (Measured inplace p)

-- an object's content was measured, whatever the survey of the objects below says
pub record MeasuredContent (o : ℕ) (S : Schema) (ob : Object) (xs : List ℕ) (r : Option Extent) : Type 0 where
  pub is : (child : Surveyor) → MeasuredAt false (survey_content child o S ob xs) r

-- n is the length and the width of the object, whatever its sheet is, and nothing stands in place behind it
pub record Known (o : ℕ) (S : Schema) (ob : Object) (n : ℕ) : Type 0 where
  pub is : (d : ℕ) (xs : List ℕ) → Has (Sizes false (opened n n)) (survey d o S ob xs)
  pub small : n < 2 ^ 21

-- the size of the object, if it is known
pub record KnownSize (o : ℕ) (S : Schema) (ob : Object) (r : Option ℕ) : Type 0 where
  pub known : IfSome r (Known o S ob)

unfoldable pub any_in_place : List Member → Bool
any_in_place [] = false
any_in_place (r ∷ rs) = pick r.inplace true (any_in_place rs)

-- ---- what holds of whatever was got
pub has_on : {A : Type 0} (P Q : A → Type 0) (p : Parsed A) → Has P p → ((a : A) → P a → Q a) → Has Q p
has_on P Q fail h f = tt
has_on P Q (got a xs) h f = f a h

has_both : {A : Type 0} (P Q R : A → Type 0) (p : Parsed A) → Has P p → Has Q p → ((a : A) → P a → Q a → R a) → Has R p
has_both P Q R fail g h f = tt
has_both P Q R (got a xs) g h f = f a g h

bind_on : {A B : Type 0} (P : A → Type 0) (Q : B → Type 0) (p : Parsed A) (next : A → List ℕ → Parsed B) → Has P p
    → ((a : A) (xs : List ℕ) → P a → Has Q (next a xs)) → Has Q (bind p next)
unfolding bind
bind_on P Q fail next g h = tt
bind_on P Q (got a xs) next g h = h a xs g

mark_has : {A : Type 0} (P : A → Type 0) (none : A) (unknown body : List ℕ → Parsed A) → P none → ((ys : List ℕ) → Has P (unknown ys)) → ((ys : List ℕ) → Has P (body ys))
    → (xs : List ℕ) → Has P (survey_mark none unknown body xs)
unfolding survey_mark
mark_has P none unknown body n l b xs =
    bind_has P (take_number 2 xs) _ (λ mark ys. by ys (eqb mark 0) (eqb mark 1) (eqb mark 2))
  where
    by : (ys : List ℕ) (t u w : Bool) → Has P (pick t (got none ys) (pick u (body ys) (pick w (unknown ys) fail)))
    by ys true u w = n
    by ys false true w = b ys
    by ys false false true = l ys
    by ys false false false = tt

-- ---- parts
abbrev Sized : ℕ → ℕ → Extent → Type 0
Sized n w x = (x.length ≡ n) × (x.width ≡ w)

abbrev Unchained : Extent → Type 0
Unchained x = x.chain ≡ 0

joined_unchained : (a e : Extent) → a.chain ≡ 0 → e.chain ≡ 0 → (joined a e).chain ≡ 0
unfolding joined
joined_unchained a e f g = ap₂ (λ (i j : ℕ). capped (i + j)) f g ∙ capped_in 0 (omega arith)

module _ (child : Surveyor) (o : ℕ) (S : Schema) where
  object_unchained : (union : Bool) (ob : Object) (xs : List ℕ) → Has Unchained (survey_object child o false union ob xs)
  unfolding survey_object referred
  object_unchained union ob xs = bind_has Unchained (child ob xs) _ (λ e ys. refl)

  plain_unchained : (p : Parsed Bool) → Has Unchained (plain_of p)
  unfolding plain_of plain
  plain_unchained p = bind_has Unchained p _ (λ t ys. refl)

  body_unchained : (k : Kind) (optional : Bool) (xs : List ℕ) → Has Unchained (survey_body child o S k optional false xs)
  unfolding survey_body survey_choice
  body_unchained (OfFlat k) optional xs = plain_unchained (survey_flat (survey_struct S) optional k xs)
  body_unchained (OfObject ob) optional xs = object_unchained false ob xs
  body_unchained (OfUnion i) optional xs =
      bind_has Unchained (take_number 16 xs) _ (λ c ys. by c ys (leb 1 c && leb c (length (cases_of S i))))
    where
      by : (c : ℕ) (ys : List ℕ) (t : Bool) → Has Unchained (pick t (survey_object child o false true (case_of (cases_of S i) c) ys) fail)
      by c ys true = object_unchained true (case_of (cases_of S i) c) ys
      by c ys false = tt

  unknown_unchained : (k : Kind) (xs : List ℕ) → Has Unchained (survey_unknown S k xs)
  unfolding survey_unknown
  unknown_unchained (OfFlat k) xs = plain_unchained (survey_unknown_flat k xs)
  unknown_unchained (OfObject ob) xs = tt
  unknown_unchained (OfUnion i) xs = plain_unchained _

  part_unchained : (k : Kind) (optional : Bool) (xs : List ℕ) → Has Unchained (survey_part child o S k optional false xs)
  unfolding survey_part
  part_unchained k optional xs =
      mark_has Unchained (plain (may_lack optional k)) (survey_unknown S k) (survey_body child o S k optional false) (unfold plain in refl)
      (λ ys. unknown_unchained k ys) (λ ys. body_unchained k optional ys) xs

  element_unchained : (k : Kind) (xs : List ℕ) → Has Unchained (survey_element child o S k xs)
  unfolding survey_element
  element_unchained k xs = by (unmarked k)
    where
      by : (t : Bool) → Has Unchained (pick t (survey_body child o S k true false xs) (survey_part child o S k true false xs))
      by true = body_unchained k true xs
      by false = part_unchained k true xs

  -- ---- members and elements
  members_sized : (n w : ℕ) (rs : List Member) (a : Extent) → a.length ≡ n → a.width ≡ w → (xs : List ℕ) → Has (Sized n w) (survey_members child o S rs a xs)
  unfolding survey_members joined
  members_sized n w [] a f g xs = (f, g)
  members_sized n w (r ∷ rs) a f g xs =
      bind_has (Sized n w) (survey_part child o S r.kind r.optional r.inplace xs) _ (λ e ys. members_sized n w rs (joined a e) f g ys)

  members_unchained : (rs : List Member) → any_in_place rs ≡ false → (a : Extent) → a.chain ≡ 0 → (xs : List ℕ) → Has Unchained (survey_members child o S rs a xs)
  unfolding survey_members any_in_place
  members_unchained [] h a f xs = f
  members_unchained (r ∷ rs) h a f xs = by r.inplace refl (λ g x k ys. members_unchained rs g (joined a x) k ys)
    where
      by : (t : Bool) → r.inplace ≡ t
          → (any_in_place rs ≡ false → (x : Extent) → (joined a x).chain ≡ 0 → (ys : List ℕ) → Has Unchained (survey_members child o S rs (joined a x) ys))
          → Has Unchained (survey_members child o S (r ∷ rs) a xs)
      by true e more = never (sym h ∙ ap (λ (u : Bool). pick u true (any_in_place rs)) e)
      by false e more =
          bind_on Unchained Unchained (survey_part child o S r.kind r.optional r.inplace xs) _
          (subst (λ (u : Bool). Has Unchained (survey_part child o S r.kind r.optional u xs)) (sym e) (part_unchained r.kind r.optional xs))
          (λ x ys g. more (sym (ap (λ (u : Bool). pick u true (any_in_place rs)) e) ∙ h) x (joined_unchained a x f g) ys)

  elements_sized : (n w : ℕ) (k : Kind) (m : ℕ) (a : Extent) → a.length ≡ n → a.width ≡ w → (xs : List ℕ) → Has (Sized n w) (survey_elements child o S k m a xs)
  unfolding survey_elements joined
  elements_sized n w k zero a f g xs = (f, g)
  elements_sized n w k (suc m) a f g xs =
      bind_has (Sized n w) (survey_element child o S k xs) _ (λ e ys. elements_sized n w k m (joined a e) f g ys)

  elements_unchained : (k : Kind) (m : ℕ) (a : Extent) → a.chain ≡ 0 → (xs : List ℕ) → Has Unchained (survey_elements child o S k m a xs)
  unfolding survey_elements
  elements_unchained k zero a f xs = f
  elements_unchained k (suc m) a f xs =
      bind_on Unchained Unchained (survey_element child o S k xs) _ (element_unchained k xs)
      (λ e ys g. elements_unchained k m (joined a e) (joined_unchained a e f g) ys)

  -- of a direct list
  directs_sized : (n w t m : ℕ) (a : Extent) → a.length ≡ n → a.width ≡ w → (xs : List ℕ) → Has (Sized n w) (survey_directs child t m a xs)
  unfolding survey_directs joined
  directs_sized n w t zero a f g xs = (f, g)
  directs_sized n w t (suc m) a f g xs = bind_has (Sized n w) (child (O.Table t) xs) _ (λ e ys. directs_sized n w t m (joined a e) f g ys)

  directs_unchained : (t : ℕ) → ((ys : List ℕ) → Has Unchained (child (O.Table t) ys)) → (m : ℕ) (a : Extent) → a.chain ≡ 0 → (xs : List ℕ) → Has Unchained (survey_directs child t m a xs)
  unfolding survey_directs
  directs_unchained t h zero a f xs = f
  directs_unchained t h (suc m) a f xs =
      bind_on Unchained Unchained (child (O.Table t) xs) _ (h xs) (λ e ys g. directs_unchained t h m (joined a e) (joined_unchained a e f g) ys)

-- ---- objects
sizes-of : (inplace : Bool) (n w : ℕ) (x : Extent) → Sized n w x → (inplace ≡ false → Unchained x) → Sizes inplace (opened n w) x
unfolding opened
sizes-of inplace n w x s c = record { length = sym s.0; width = sym s.1; chain = λ e. sym (c e) }

pub sizes_on : (inplace : Bool) (r x : Extent) → Sizes false r x → Sizes inplace r x
sizes_on inplace r x s = record { length = s.length; width = s.width; chain = λ e. s.chain refl }

pub list_sizes : (child : Surveyor) (o : ℕ) (S : Schema) (i m : ℕ) (xs : List ℕ)
    → Has (Sizes false (opened m (elements_size o S (element_of S i) m))) (survey_elements child o S (element_of S i) m (opened m (elements_size o S (element_of S i) m)) xs)
list_sizes child o S i m xs =
    let k = element_of S i in
    let w = elements_size o S k m in
    has_both (Sized m w) Unchained (Sizes false (opened m w)) (survey_elements child o S k m (opened m w) xs)
    (elements_sized child o S m w k m (opened m w) (unfold opened in refl) (unfold opened in refl) xs)
    (elements_unchained child o S k m (opened m w) (unfold opened in refl) xs)
    (λ x s c. sizes-of false m w x s (λ e. c))

pub table_sizes : (child : Surveyor) (o : ℕ) (S : Schema) (inplace : Bool) (t : ℕ) → (inplace ≡ false → any_in_place (table_of S t).members ≡ false) → (xs : List ℕ)
    → Has (Sizes inplace (opened (fixed_size o S (table_of S t).members) (fixed_size o S (table_of S t).members))) (survey_content child o S (O.Table t) xs)
unfolding survey_content
table_sizes child o S inplace t h xs = by inplace h
  where
    by : (i : Bool) → (i ≡ false → any_in_place (table_of S t).members ≡ false)
        → Has (Sizes i (opened (fixed_size o S (table_of S t).members) (fixed_size o S (table_of S t).members))) (survey_content child o S (O.Table t) xs)
    by true g =
        let rs = (table_of S t).members in
        let n = fixed_size o S rs in
        has_on (Sized n n) (Sizes true (opened n n)) (survey_members child o S rs (opened n n) xs)
        (members_sized child o S n n rs (opened n n) (unfold opened in refl) (unfold opened in refl) xs)
        (λ x s. sizes-of true n n x s (λ e. never (sym e)))
    by false g =
        let rs = (table_of S t).members in
        let n = fixed_size o S rs in
        has_both (Sized n n) Unchained (Sizes false (opened n n)) (survey_members child o S rs (opened n n) xs)
        (members_sized child o S n n rs (opened n n) (unfold opened in refl) (unfold opened in refl) xs)
        (members_unchained child o S rs (g refl) (opened n n) (unfold opened in refl) xs)
        (λ x s c. sizes-of false n n x s (λ e. c))

-- what holds of a content whatever stands below it, holds of the object with d objects of depth left
pub measured_deep : (d o : ℕ) (S : Schema) (inplace : Bool) (ob : Object) (xs : List ℕ) (r : Extent)
    → ((child : Surveyor) → Has (Sizes inplace r) (survey_content child o S ob xs)) → Has (Sizes inplace r) (survey d o S ob xs)
unfolding survey
measured_deep zero o S inplace ob xs r h = tt
measured_deep (suc d) o S inplace ob xs r h = h (survey d o S)

pub measured-content : (d o : ℕ) (S : Schema) (inplace : Bool) (ob : Object) (xs : List ℕ) (r : Option Extent) → MeasuredContent o S ob xs r
    → MeasuredAt inplace (survey d o S ob xs) r
unfolding survey
measured-content zero o S inplace ob xs None m = record { is = refl }
measured-content (suc d) o S inplace ob xs None m = record { is = (m.is (survey d o S)).is }
measured-content d o S inplace ob xs (Some e) m =
    record {
      is = record {
        is = measured_deep d o S inplace ob xs e
            (λ child. has_on (Sizes false e) (Sizes inplace e) (survey_content child o S ob xs) (m.is child).is.is (λ x s. sizes_on inplace e x s));
        small = (m.is (survey d o S)).is.small;
      };
    }

-- ---- direct lists
pub none_in-place : (rs : List Member) → inplace_count rs ≡ 0 → any_in_place rs ≡ false
unfolding inplace_count any_in_place
none_in-place [] h = refl
none_in-place (r ∷ rs) h = by r.inplace h (λ e. none_in-place rs e)
  where
    by : (t : Bool) → pick t 1 0 + inplace_count rs ≡ 0 → (inplace_count rs ≡ 0 → any_in_place rs ≡ false) → pick t true (any_in_place rs) ≡ false
    by true e k = absurd (let y : ⊥ = omega arith in y)
    by false e k = k (omega arith)

pub direct_sizes : (d o : ℕ) (S : Schema) (t m : ℕ) → inplace_count (table_of S t).members ≡ 0 → (xs : List ℕ)
    → Has (Sizes false (opened m (direct_size o S t m))) (survey_directs (survey d o S) t m (opened m (direct_size o S t m)) xs)
unfolding opened
direct_sizes d o S t m h xs =
    let w = direct_size o S t m in
    let n = fixed_size o S (table_of S t).members in
    has_both (Sized m w) Unchained (Sizes false (opened m w)) (survey_directs (survey d o S) t m (opened m w) xs)
    (directs_sized (survey d o S) o S m w t m (opened m w) (unfold opened in refl) (unfold opened in refl) xs)
    (directs_unchained (survey d o S) o S t
    (λ ys. has_on (Sizes false (opened n n)) Unchained (survey d o S (O.Table t) ys)
    (measured_deep d o S false (O.Table t) ys (opened n n) (λ child. table_sizes child o S false t (λ e. none_in-place (table_of S t).members h) ys))
    (λ x s. sym (s.chain refl))) m (opened m w) (unfold opened in refl) xs)
    (λ x s c. sizes-of false m w x s (λ e. c))
