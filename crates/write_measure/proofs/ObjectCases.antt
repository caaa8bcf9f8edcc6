-- The ways out of the survey of objects, one lemma for each.
use mathlib.Core.Path.{◌≡◌, refl, sym, ap, ◌∙◌, subst}
use mathlib.Core.Bool.{Bool, true, false, not}
use mathlib.Core.List.{List}
use Prim.Native.Nat.{ℕ, zero, suc, ◌+◌, ◌-◌, ◌*◌, ◌<◌, ◌≤◌}
use native.Mathlib.Omega.{arith}
use native.Mathlib.Numerals.{add-one, sub-one}
use lib.ListN.{length, drop, drop_of_length-le}
use lib.Seq.{drop-cons}
use Rattle.std.specs.Prelude.{Option}
use Rattle.coding.specs.Bits.{bits}
use Rattle.coding.specs.Schema as Sc
use Rattle.coding.specs.Schema.{Schema}
use Rattle.coding.specs.Packed as P
use Rattle.coding.specs.Layout as L
use Rattle.coding.specs.Step as T
use Rattle.coding.specs.Sheet.{Parsed, fail, got, bind, unmarked}
use Rattle.coding.specs.declared.Object.{Object}
use Rattle.coding.specs.declared.Object.TheVariants as O
use Rattle.coding.specs.declared.Kind.{Kind}
use Rattle.coding.specs.declared.Kind.TheVariants.{OfObject}
use Rattle.coding.specs.declared.Member.{Member}
use Rattle.laws.specs.Sound.{ObjectSound, KindSound}
use Rattle.laws.specs.SoundAt.{member_sound-at, list_index, table_index}
use Rattle.schema.specs.Directory.{Accepted, accepted_sound}
use Rattle.bitio.specs.Taken.{NumberAt}
use Rattle.bitio.specs.declared.Number.{Number}
use Rattle.write_measure.specs.Survey.{direct_size, opened, joined, referred, Surveyor, survey_object, survey_part, survey_element, survey_members, survey_elements, survey_directs, survey_blob, survey_content, survey}
use Rattle.write_measure.specs.Surveyed.{Small, Fits, SurveyedAt, SurveyedIn}
use Rattle.write_measure.specs.declared.Extent.{Extent}
use Rattle.write_measure.specs.declared.Surveyed.{Surveyed}
use Rattle.write_measure.proofs.MarkCases.{bind_fails}
use Rattle.write_measure.proofs.PartCases.{refer_surveyed}

-- ---- indices and kinds in range
pub list_counted : (b : List ℕ) (ob : Object) (i j : ℕ) → ObjectSound (P.parse b) ob → ob ≡ O.List i → j ≡ i → j < P.list_count b
list_counted b ob i j h f e = rw e (list_index b i (subst (ObjectSound (P.parse b)) f h))

pub table_counted : (b : List ℕ) (ob : Object) (i j : ℕ) → ObjectSound (P.parse b) ob → ob ≡ O.Table i → j ≡ i → j < P.table_count b
table_counted b ob i j h f e = rw e (table_index b i (subst (ObjectSound (P.parse b)) f h))

pub direct-counted : (b : List ℕ) (ob : Object) (i j : ℕ) → ObjectSound (P.parse b) ob → ob ≡ O.DirectList i → j ≡ i → j < P.table_count b
direct-counted b ob i j h f e = rw e (table_index b i (subst (ObjectSound (P.parse b)) f h).table)

pub element_sound : (b dir : List ℕ) → Accepted b dir → (i : ℕ) (k : Kind) → k ≡ Sc.element_of (P.parse b) i → KindSound (P.parse b) k
element_sound b dir a i k e = rw e ((accepted_sound b dir a).lists i).kind

pub member_kind : (b dir : List ℕ) → Accepted b dir → (t j : ℕ) (r : Member) → r ≡ Sc.member_of (P.parse b) t j → (count : ℕ) → count ≡ length (Sc.table_of (P.parse b) t).members
    → j < count → KindSound (P.parse b) r.kind
member_kind b dir a t j r e count ec h = rw e (member_sound-at (P.parse b) (accepted_sound b dir a) t j (omega arith)).kind

pub member-counted : (S : Schema) (t j count : ℕ) → count ≡ length (Sc.table_of S t).members → j < count → j < length (Sc.table_of S t).members
member-counted S t j count e h = omega arith

-- ---- the members of a table, from member j on
module _ (o : ℕ) (child : Surveyor) (S : Schema) (s : List ℕ) (t at : ℕ) where
  pub members_start : (n : ℕ) → n ≡ L.fixed_size o S (Sc.table_of S t).members → (a : Extent) → Fits (opened n n) a
      → survey_content child o S (O.Table t) (drop at (bits s)) ≡ survey_members child o S (drop 0 (Sc.table_of S t).members) a (drop at (bits s))
  unfolding survey_content
  members_start n e a f =
      ap (λ (m : ℕ). survey_members child o S (Sc.table_of S t).members (opened m m) (drop at (bits s))) (sym e)
      ∙ ap (λ (x : Extent). survey_members child o S (Sc.table_of S t).members x (drop at (bits s))) (sym f.is)

  module _ (a : Extent) (pos j : ℕ)
      (inv : survey_content child o S (O.Table t) (drop at (bits s)) ≡ survey_members child o S (drop j (Sc.table_of S t).members) a (drop pos (bits s)))
      (count : ℕ) (ec : count ≡ length (Sc.table_of S t).members) where
    pub members_done : count ≤ j → pos ≤ 8 * length s → Small a → SurveyedAt s (survey_content child o S (O.Table t) (drop at (bits s))) (record { extent = a; next = pos })
    unfolding survey_members
    members_done h l sm =
        let m : length (Sc.table_of S t).members ≤ j = omega arith in
        record { is = inv ∙ ap (λ (ms : List Member). survey_members child o S ms a (drop pos (bits s))) (drop_of_length-le (Sc.table_of S t).members m); inside = l; small = sm }

    module _ (h : j < count) (r : Member) (er : r ≡ Sc.member_of S t j) where
      abbrev rest : Extent → List ℕ → Parsed Extent
      rest e ys = survey_members child o S (drop (suc j) (Sc.table_of S t).members) (joined a e) ys

      turned : survey_content child o S (O.Table t) (drop at (bits s)) ≡ bind (survey_part child o S r.kind r.optional r.inplace (drop pos (bits s))) rest
      unfolding survey_members Sc.member_of
      turned =
          let l : j < length (Sc.table_of S t).members = omega arith in
          inv ∙ ap (λ (ms : List Member). survey_members child o S ms a (drop pos (bits s))) (drop-cons (Sc.table_of S t).members j Sc.plain_bool l)
          ∙ ap (λ (m : Member). bind (survey_part child o S m.kind m.optional m.inplace (drop pos (bits s))) rest) (sym er)

      pub members_fail : survey_part child o S r.kind r.optional r.inplace (drop pos (bits s)) ≡ fail → survey_content child o S (O.Table t) (drop at (bits s)) ≡ fail
      members_fail e = turned ∙ bind_fails (survey_part child o S r.kind r.optional r.inplace (drop pos (bits s))) rest e

      pub members_turn : (x : Surveyed) → SurveyedAt s (survey_part child o S r.kind r.optional r.inplace (drop pos (bits s))) x → (g : Extent) → Fits (joined a x.extent) g
          → survey_content child o S (O.Table t) (drop at (bits s)) ≡ survey_members child o S (drop (j + 1) (Sc.table_of S t).members) g (drop x.next (bits s))
      unfolding bind
      members_turn x q g fit =
          turned ∙ ap (λ p. bind p rest) q.is
          ∙ ap (λ (y : Extent). survey_members child o S (drop (suc j) (Sc.table_of S t).members) y (drop x.next (bits s))) (sym fit.is)
          ∙ ap (λ (m : ℕ). survey_members child o S (drop m (Sc.table_of S t).members) g (drop x.next (bits s))) (sym (add-one j))

-- ---- the elements of a list, from element j on
module _ (o : ℕ) (child : Surveyor) (S : Schema) (s : List ℕ) (i at : ℕ) where
  module _ (n : Number) (taken : NumberAt s at 32 n) (k : Kind) (ek : k ≡ Sc.element_of S i) (z : ℕ) (ez : z ≡ T.elements_size o S k n.value) where
    first : survey_content child o S (O.List i) (drop at (bits s)) ≡ survey_elements child o S k n.value (opened n.value z) (drop n.next (bits s))
    unfolding survey_content bind
    first = rw (taken.number, ← ek, ez)

    pub elements_start : (a : Extent) → Fits (opened n.value z) a
        → survey_content child o S (O.List i) (drop at (bits s)) ≡ survey_elements child o S k (n.value - 0) a (drop n.next (bits s))
    elements_start a f =
        let e : n.value ≡ n.value - 0 = omega arith in
        first ∙ ap (λ (y : Extent). survey_elements child o S k n.value y (drop n.next (bits s))) (sym f.is)
        ∙ ap (λ (y : ℕ). survey_elements child o S k y a (drop n.next (bits s))) e

    -- simple ones
    pub elements_simple : (r : Option Surveyed) → SurveyedIn s (survey_elements child o S k n.value (opened n.value z) (drop n.next (bits s))) r
        → SurveyedIn s (survey_content child o S (O.List i) (drop at (bits s))) r
    elements_simple r q = subst (λ (p : Parsed Extent). SurveyedIn s p r) (sym first) q

    -- tables
    pub elements-rows : (ob : Object) (t j : ℕ) → k ≡ OfObject ob → ob ≡ O.Table t → j ≡ t → (r : Option Surveyed)
        → SurveyedIn s (survey_elements child o S (OfObject (O.Table j)) n.value (opened n.value z) (drop n.next (bits s))) r
        → SurveyedIn s (survey_content child o S (O.List i) (drop at (bits s))) r
    elements-rows ob t j eo et ej r q =
        elements_simple r (subst (λ (y : Kind). SurveyedIn s (survey_elements child o S y n.value (opened n.value z) (drop n.next (bits s))) r) (sym (rw (eo, et, ej))) q)

pub row-counted : (b dir : List ℕ) → Accepted b dir → (i : ℕ) (k : Kind) → k ≡ Sc.element_of (P.parse b) i → (ob : Object) (t j : ℕ) → k ≡ OfObject ob → ob ≡ O.Table t → j ≡ t
    → j < P.table_count b
row-counted b dir a i k e ob t j eo et ej =
    rw ej (table_index b t (subst (ObjectSound (P.parse b)) et (subst (KindSound (P.parse b)) eo (element_sound b dir a i k e))))

pub object-marked : (ob : Object) → unmarked (OfObject ob) ≡ false
unfolding unmarked
object-marked ob = refl

pub rows_start : (o : ℕ) (child : Surveyor) (S : Schema) (s : List ℕ) (k : Kind) (n total at : ℕ) (a : Extent) → Fits (opened n total) a
    → survey_elements child o S k n (opened n total) (drop at (bits s)) ≡ survey_elements child o S k (n - 0) a (drop at (bits s))
rows_start o child S s k n total at a f =
    let e : n ≡ n - 0 = omega arith in
    ap (λ (y : Extent). survey_elements child o S k n y (drop at (bits s))) (sym f.is) ∙ ap (λ (y : ℕ). survey_elements child o S k y a (drop at (bits s))) e

-- `p`: all of them
module _ (o : ℕ) (child : Surveyor) (S : Schema) (s : List ℕ) (at : ℕ) (p : Parsed Extent) where
  module _ (k : Kind) (n : ℕ) (a : Extent) (pos j : ℕ) (inv : p ≡ survey_elements child o S k (n - j) a (drop pos (bits s))) where
    pub elements_done : n ≤ j → pos ≤ 8 * length s → Small a → SurveyedAt s p (record { extent = a; next = pos })
    unfolding survey_elements
    elements_done h l sm =
        let z : n - j ≡ 0 = omega arith in
        record { is = inv ∙ ap (λ (m : ℕ). survey_elements child o S k m a (drop pos (bits s))) z; inside = l; small = sm }

    module _ (h : j < n) (marks : unmarked k ≡ false) where
      abbrev left : Extent → List ℕ → Parsed Extent
      left e ys = survey_elements child o S k (n - (j + 1)) (joined a e) ys

      opens : p ≡ bind (survey_part child o S k true false (drop pos (bits s))) left
      unfolding survey_elements survey_element
      opens =
          let z : n - j ≡ suc (n - (j + 1)) = omega arith in
          inv ∙ ap (λ (m : ℕ). survey_elements child o S k m a (drop pos (bits s))) z ∙ rw marks

      pub elements_fail : survey_part child o S k true false (drop pos (bits s)) ≡ fail → p ≡ fail
      elements_fail e = opens ∙ bind_fails (survey_part child o S k true false (drop pos (bits s))) left e

      pub elements_turn : (x : Surveyed) → SurveyedAt s (survey_part child o S k true false (drop pos (bits s))) x → (g : Extent) → Fits (joined a x.extent) g
          → p ≡ survey_elements child o S k (n - (j + 1)) g (drop x.next (bits s))
      unfolding bind
      elements_turn x q g fit =
          opens ∙ ap (λ r. bind r left) q.is ∙ ap (λ (y : Extent). survey_elements child o S k (n - (j + 1)) y (drop x.next (bits s))) (sym fit.is)

-- ---- the elements of a direct list, from element j on
pub directs_start : (o : ℕ) (child : Surveyor) (S : Schema) (s : List ℕ) (t at : ℕ) (n : Number) → NumberAt s at 32 n → (z : ℕ) → z ≡ L.fixed_size o S (Sc.table_of S t).members
    → (y : ℕ) → y ≡ 8 + n.value * z → (a : Extent) → Fits (opened n.value y) a
    → survey_content child o S (O.DirectList t) (drop at (bits s)) ≡ survey_directs child t (n.value - 0) a (drop n.next (bits s))
unfolding survey_content bind direct_size
directs_start o child S s t at n taken z ez y ey a f =
    let e : n.value ≡ n.value - 0 = omega arith in
    rw (taken.number, ← ez, ← ey)
    (ap (λ (v : Extent). survey_directs child t n.value v (drop n.next (bits s))) (sym f.is) ∙ ap (λ (v : ℕ). survey_directs child t v a (drop n.next (bits s))) e)

-- `p`: all of them
module _ (child : Surveyor) (s : List ℕ) (at : ℕ) (p : Parsed Extent) where
  module _ (t n : ℕ) (a : Extent) (pos j : ℕ) (inv : p ≡ survey_directs child t (n - j) a (drop pos (bits s))) where
    pub directs_done : n ≤ j → pos ≤ 8 * length s → Small a → SurveyedAt s p (record { extent = a; next = pos })
    unfolding survey_directs
    directs_done h l sm =
        let z : n - j ≡ 0 = omega arith in
        record { is = inv ∙ ap (λ (m : ℕ). survey_directs child t m a (drop pos (bits s))) z; inside = l; small = sm }

    module _ (h : j < n) where
      abbrev others : Extent → List ℕ → Parsed Extent
      others e ys = survey_directs child t (n - (j + 1)) (joined a e) ys

      begun : p ≡ bind (child (O.Table t) (drop pos (bits s))) others
      unfolding survey_directs
      begun =
          let z : n - j ≡ suc (n - (j + 1)) = omega arith in
          inv ∙ ap (λ (m : ℕ). survey_directs child t m a (drop pos (bits s))) z

      pub directs_fail : child (O.Table t) (drop pos (bits s)) ≡ fail → p ≡ fail
      directs_fail e = begun ∙ bind_fails (child (O.Table t) (drop pos (bits s))) others e

      pub directs_turn : (x : Surveyed) → SurveyedAt s (child (O.Table t) (drop pos (bits s))) x → (g : Extent) → Fits (joined a x.extent) g
          → p ≡ survey_directs child t (n - (j + 1)) g (drop x.next (bits s))
      unfolding bind
      directs_turn x q g fit =
          begun ∙ ap (λ r. bind r others) q.is ∙ ap (λ (y : Extent). survey_directs child t (n - (j + 1)) y (drop x.next (bits s))) (sym fit.is)

-- ---- an object
module _ (o : ℕ) (d : ℕ) (S : Schema) (s : List ℕ) (ob : Object) (pos : ℕ) where
  pub object_deep : d ≡ 0 → survey d o S ob (drop pos (bits s)) ≡ fail
  unfolding survey
  object_deep z = rw z

  module _ (h : d ≡ 0 → ⊥) where
    is : survey d o S ob (drop pos (bits s)) ≡ survey_content (survey (d - 1) o S) o S ob (drop pos (bits s))
    unfolding survey
    is = by d h
      where
        by : (k : ℕ) → (k ≡ 0 → ⊥) → survey k o S ob (drop pos (bits s)) ≡ survey_content (survey (k - 1) o S) o S ob (drop pos (bits s))
        by zero f = absurd (f refl)
        by (suc k) f = rw sub-one

    module _ (r : Option Surveyed) where
      content : SurveyedIn s (survey_content (survey (d - 1) o S) o S ob (drop pos (bits s))) r → SurveyedIn s (survey d o S ob (drop pos (bits s))) r
      content q = subst (λ (p : Parsed Extent). SurveyedIn s p r) (sym is) q

      pub object-text : ob ≡ O.Text → SurveyedIn s (survey_blob 1 (drop pos (bits s))) r → SurveyedIn s (survey d o S ob (drop pos (bits s))) r
      unfolding survey_content
      object-text eo q = content (rw eo q)

      pub object_bytes : ob ≡ O.Bytes → SurveyedIn s (survey_blob 0 (drop pos (bits s))) r → SurveyedIn s (survey d o S ob (drop pos (bits s))) r
      unfolding survey_content
      object_bytes eo q = content (rw eo q)

      module _ (i j : ℕ) (ej : j ≡ i) where
        pub object_list : ob ≡ O.List i → SurveyedIn s (survey_content (survey (d - 1) o S) o S (O.List j) (drop pos (bits s))) r → SurveyedIn s (survey d o S ob (drop pos (bits s))) r
        object_list eo q = content (rw (eo, ← ej) q)

        pub object-table : ob ≡ O.Table i → SurveyedIn s (survey_content (survey (d - 1) o S) o S (O.Table j) (drop pos (bits s))) r → SurveyedIn s (survey d o S ob (drop pos (bits s))) r
        object-table eo q = content (rw (eo, ← ej) q)

        pub object-direct : ob ≡ O.DirectList i → SurveyedIn s (survey_content (survey (d - 1) o S) o S (O.DirectList j) (drop pos (bits s))) r
            → SurveyedIn s (survey d o S ob (drop pos (bits s))) r
        object-direct eo q = content (rw (eo, ← ej) q)

-- ---- a table of a list of tables, and of a direct list
module _ (o : ℕ) (d : ℕ) (S : Schema) (s : List ℕ) (t pos : ℕ) where
  pub direct_there : (d ≡ 0 → ⊥) → (r : Option Surveyed) → SurveyedIn s (survey_content (survey (d - 1) o S) o S (O.Table t) (drop pos (bits s))) r
      → SurveyedIn s (survey d o S (O.Table t) (drop pos (bits s))) r
  direct_there h r q = object-table o d S s (O.Table t) pos h r t t refl refl q

  pub row_deep : d ≡ 0 → survey_object (survey d o S) o false false (O.Table t) (drop pos (bits s)) ≡ fail
  unfolding survey_object survey bind
  row_deep z = rw z

  pub row_fails : (d ≡ 0 → ⊥) → survey_content (survey (d - 1) o S) o S (O.Table t) (drop pos (bits s)) ≡ fail
      → survey_object (survey d o S) o false false (O.Table t) (drop pos (bits s)) ≡ fail
  unfolding survey_object
  row_fails h e = bind_fails (survey d o S (O.Table t) (drop pos (bits s))) _ (is o d S s (O.Table t) pos h ∙ e)

  pub row_there : (d ≡ 0 → ⊥) → (x : Surveyed) → SurveyedAt s (survey_content (survey (d - 1) o S) o S (O.Table t) (drop pos (bits s))) x
      → (e : Extent) → Fits (referred o false false x.extent) e
      → SurveyedAt s (survey_object (survey d o S) o false false (O.Table t) (drop pos (bits s))) (record { extent = e; next = x.next })
  row_there h x q e f =
      refer_surveyed o (survey d o S) s false false (O.Table t) pos x (record { is = is o d S s (O.Table t) pos h ∙ q.is; inside = q.inside; small = q.small }) e f
