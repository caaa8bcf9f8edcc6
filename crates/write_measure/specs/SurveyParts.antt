-- The survey of members and elements is what decode gives, with the writer's tests and sizes, given that of the objects one
-- level down.
use Rattle.std.specs.Prelude.{◌≡◌, ◌&&◌, length, ltb}
use Rattle.std.proofs.Math.Path.{refl, ap}
use Rattle.std.proofs.Common.{sym, ap₂, ◌∙◌, add-zero, add_assoc}
use mathlib.Core.List.{List, [], ◌∷◌}
use Rattle.std.proofs.Math.Bool.{Bool, true, false, and-true, and_assoc}
use Prim.Native.Nat.{ℕ, zero, suc, ◌+◌}
use Rattle.std.proofs.Math.Dec.{leb}
use Rattle.coding.specs.Lists.{pick}
use Rattle.coding.specs.Schema.{Schema, cases_of, case_of, table_of}
use Rattle.coding.specs.Layout.{fixed_size}
use Rattle.coding.specs.Value.{Value, Values, absent, unknown, chosen, ◌then◌, present, known, as_number, as_object, first, others}
use Rattle.coding.specs.Cells.{width, chain, below, pack_bits}
use Rattle.coding.specs.Sheet.{Parsed, fail, got, bind, take_number, take_if, take_flat, take_struct, Decoder, take_choice, take_body, take_unknown_flat, take_unknown, take_part, unmarked, take_element, take_members, take_elements, take_directs}
use Rattle.coding.specs.Message.{length_of, flat_writable, Test, keeps_unions, value_writable, members_writable, elements_writable, directs_writable, Planner, members_slots, elements_slots, directs_slots}
use Rattle.coding.specs.declared.Flat.{Flat}
use Rattle.coding.specs.declared.Flat.TheVariants as F
use Rattle.coding.specs.declared.Object.{Object}
use Rattle.coding.specs.declared.Object.TheVariants as O
use Rattle.coding.specs.declared.Kind.{Kind}
use Rattle.coding.specs.declared.Kind.TheVariants.{OfFlat, OfObject, OfUnion}
use Rattle.coding.specs.declared.Member.{Member}
use Rattle.laws.specs.Sound.{Sound}
use Rattle.write_measure.specs.Survey.{test_if, plain, joined, referred, Surveyor, plain_of, survey_object, survey_choice, survey_body, above_count, survey_unknown, flat_may_lack, may_lack, survey_part, survey_element, survey_members, survey_elements, survey_directs}
use Rattle.write_measure.specs.Mapped.{mapped, Has, mapped-same, bind-mapped, mapped_got, seq, mark-mapped}
use Rattle.write_measure.specs.Summed.{summed, plain-summed, joined-summed, refer_fine, referred-summed}
use Rattle.write_measure.specs.SlotSizes.{object_chain, object_below, value_chain, value_below, value-chain, value-below, member-chain, member_below}
use Rattle.write_measure.specs.SurveyFlats.{Present, flat_surveyed, unknown_surveyed}
use Rattle.write_measure.specs.declared.Extent.{Extent}

pub has_all : {A : Type 0} (P : A → Type 0) → ((a : A) → P a) → (p : Parsed A) → Has P p
has_all P h fail = tt
has_all P h (got a xs) = h a

summed_same : (t u : Bool) (n w x x' y y' : ℕ) → t ≡ u → x ≡ x' → y ≡ y' → summed t n w x y ≡ summed u n w x' y'
summed_same t u n w x x' y y' e f g = ap (λ (p : Bool). summed p n w x y) e ∙ ap₂ (λ (p q : ℕ). summed u n w p q) f g

if-plain : (f : Value → Extent) (w : ℕ) (ok : ℕ → Bool) (make : ℕ → Value) (answer : Bool) → ((x : ℕ) → plain answer ≡ f (make x)) → (xs : List ℕ)
    → plain_of (test_if w ok answer xs) ≡ mapped f (take_if w ok make xs)
unfolding plain_of test_if take_if bind
if-plain f w ok make answer h xs = by (take_number w xs)
  where
    at : (x : ℕ) (ys : List ℕ) (t : Bool) → bind (pick t (got answer ys) fail) (λ u zs. got (plain u) zs) ≡ mapped f (pick t (got (make x) ys) fail)
    at x ys true = ap (λ a. got a ys) (h x)
    at x ys false = refl

    by : (p : Parsed ℕ)
        → bind (bind p (λ x ys. pick (ok x) (got answer ys) fail)) (λ u zs. got (plain u) zs)
        ≡ mapped f (bind p (λ x ys. pick (ok x) (got (make x) ys) fail))
    by fail = refl
    by (got x ys) = at x ys (ok x)

-- the content of a table takes a full fixed part
abbrev pub Full : ℕ → Schema → Object → ℕ → Type 0
Full o S O.Text n = Unit {0}
Full o S O.Bytes n = Unit {0}
Full o S (O.List i) n = Unit {0}
Full o S (O.Table t) n = n ≡ fixed_size o S (table_of S t).members
Full o S (O.DirectList t) n = Unit {0}

-- ---- whether an object can be written where it stands
fine-object : (o : ℕ) (inplace t : Bool) (n : ℕ) → refer_fine o inplace false n t ≡ (pick inplace (ltb 0 n) true && t)
fine-object o true t n = refl
fine-object o false t n = refl

fine-choice : (o : ℕ) (inplace t : Bool) (n : ℕ) → refer_fine o inplace true n t ≡ (pick inplace (keeps_unions o) true && t)
fine-choice o true t n = refl
fine-choice o false t n = refl

module _ (o : ℕ) (S : Schema) (sound : Sound S) (child : Surveyor) (decoder : Decoder) (P : Planner) (test : Test) where
  -- an object's extent, by its tree
  abbrev pub object_extent : Object → Value → Extent
  object_extent ob v =
      summed (test ob v) (length_of o S ob v) (width o (pack_bits 0 (P ob v))) (chain o (pack_bits 0 (P ob v))) (below o (pack_bits 0 (P ob v)))

  -- what a part adds, by its tree
  abbrev pub part_extent : Kind → Bool → Bool → Value → Extent
  part_extent k optional inplace v =
      summed (value_writable test (keeps_unions o) o S k optional inplace v) 0 0 (value_chain o P S k inplace v) (value_below o P S k inplace v)

  -- what is known of the objects one level down
  pub record ObjectSurveyed (ob : Object) (xs : List ℕ) : Type 0 where
    pub is : child ob xs ≡ mapped (object_extent ob) (decoder ob xs)
    pub there : Has Present (decoder ob xs)
    pub full : Has (λ v. Full o S ob (width o (pack_bits 0 (P ob v)))) (decoder ob xs)

  module _ (inner : (ob : Object) (xs : List ℕ) → ObjectSurveyed ob xs) where
    object_there : (inplace union : Bool) (ob : Object) (f : Value → Extent) (xs : List ℕ)
        → ((v : Value) → Present v → referred o inplace union (object_extent ob v) ≡ f v)
        → survey_object child o inplace union ob xs ≡ mapped f (decoder ob xs)
    unfolding survey_object
    object_there inplace union ob f xs h =
        ap (λ p. bind p (λ e ys. got (referred o inplace union e) ys)) (inner ob xs).is
        ∙ mapped_got (object_extent ob) (referred o inplace union) f (decoder ob xs) (all (decoder ob xs) (inner ob xs).there)
      where
        all : (p : Parsed Value) → Has Present p → Has (λ v. referred o inplace union (object_extent ob v) ≡ f v) p
        all fail g = tt
        all (got v ys) g = h v g

    object-part : (optional inplace : Bool) (ob : Object) (v : Value) → Present v
        → referred o inplace false (object_extent ob v) ≡ part_extent (OfObject ob) optional inplace v
    unfolding value_writable
    object-part optional inplace ob v h =
        referred-summed o inplace false (test ob v) (length_of o S ob v) (width o (pack_bits 0 (P ob v))) (chain o (pack_bits 0 (P ob v))) (below o (pack_bits 0 (P ob v)))
        ∙ ap (λ t. summed t 0 0 (object_chain o P S inplace ob v) (object_below o P S inplace ob v)) (fine-object o inplace (test ob v) (length_of o S ob v))
        ∙ by (present v) h
      where
        fine : Bool
        fine = pick inplace (ltb 0 (length_of o S ob v)) true && test ob v

        by : (t : Bool) → t ≡ true → summed fine 0 0 (object_chain o P S inplace ob v) (object_below o P S inplace ob v)
            ≡ summed (pick t fine true) 0 0 (pick t (object_chain o P S inplace ob v) 0) (pick t (object_below o P S inplace ob v) 0)
        by t e = rw e

    choice-part : (optional inplace : Bool) (i c : ℕ) (v : Value)
        → referred o inplace true (object_extent (case_of (cases_of S i) c) v) ≡ part_extent (OfUnion i) optional inplace (chosen c v)
    unfolding value_writable present as_number as_object
    choice-part optional inplace i c v =
        let ob = case_of (cases_of S i) c in
        referred-summed o inplace true (test ob v) (length_of o S ob v) (width o (pack_bits 0 (P ob v))) (chain o (pack_bits 0 (P ob v))) (below o (pack_bits 0 (P ob v)))
        ∙ ap (λ t. summed t 0 0 (object_chain o P S inplace ob v) (object_below o P S inplace ob v)) (fine-choice o inplace (test ob v) (length_of o S ob v))

    choice_surveyed : (optional inplace : Bool) (i : ℕ) (xs : List ℕ)
        → survey_choice child o inplace (cases_of S i) xs ≡ mapped (part_extent (OfUnion i) optional inplace) (take_choice decoder (cases_of S i) xs)
    unfolding survey_choice take_choice bind
    choice_surveyed optional inplace i xs =
        bind-mapped (part_extent (OfUnion i) optional inplace) (take_number 16 xs) _ _ (λ c ys. by c ys (leb 1 c && leb c (length (cases_of S i))))
      where
        close : (c : ℕ) (p : Parsed Value)
            → mapped (λ v. part_extent (OfUnion i) optional inplace (chosen c v)) p ≡ mapped (part_extent (OfUnion i) optional inplace) (bind p (λ v zs. got (chosen c v) zs))
        close c fail = refl
        close c (got v zs) = refl

        by : (c : ℕ) (ys : List ℕ) (t : Bool)
            → pick t (survey_object child o inplace true (case_of (cases_of S i) c) ys) fail
            ≡ mapped (part_extent (OfUnion i) optional inplace) (pick t (bind (decoder (case_of (cases_of S i) c) ys) (λ v zs. got (chosen c v) zs)) fail)
        by c ys true =
            object_there inplace true (case_of (cases_of S i) c) (λ v. part_extent (OfUnion i) optional inplace (chosen c v)) ys
            (λ v g. choice-part optional inplace i c v)
            ∙ close c (decoder (case_of (cases_of S i) c) ys)
        by c ys false = refl

    body_surveyed : (k : Kind) (optional inplace : Bool) (xs : List ℕ)
        → survey_body child o S k optional inplace xs ≡ mapped (part_extent k optional inplace) (take_body decoder S k xs)
    unfolding survey_body take_body plain_of value_writable
    body_surveyed (OfFlat k) optional inplace xs =
        ap (λ p. bind p (λ t ys. got (plain t) ys)) (flat_surveyed S sound optional k xs)
        ∙ mapped_got (flat_writable S optional k) plain (part_extent (OfFlat k) optional inplace) (take_flat (take_struct S) k xs)
        (has_all _ (λ v. plain-summed (flat_writable S optional k v)) (take_flat (take_struct S) k xs))
    body_surveyed (OfObject ob) optional inplace xs =
        object_there inplace false ob (part_extent (OfObject ob) optional inplace) xs (λ v g. object-part optional inplace ob v g)
    body_surveyed (OfUnion i) optional inplace xs = choice_surveyed optional inplace i xs

    unknown-part : (k : Kind) (optional inplace : Bool) (xs : List ℕ)
        → survey_unknown S k xs ≡ mapped (part_extent k optional inplace) (take_unknown S k xs)
    unfolding survey_unknown take_unknown plain_of value_writable present known
    unknown-part (OfFlat k) optional inplace xs =
        ap (λ p. bind p (λ t ys. got (plain t) ys)) (unknown_surveyed S sound optional k xs)
        ∙ mapped_got (flat_writable S optional k) plain (part_extent (OfFlat k) optional inplace) (take_unknown_flat k xs)
        (has_all _ (λ v. plain-summed (flat_writable S optional k v)) (take_unknown_flat k xs))
    unknown-part (OfObject ob) optional inplace xs = refl
    unknown-part (OfUnion i) optional inplace xs =
        if-plain (part_extent (OfUnion i) optional inplace) 16 (above_count (length (cases_of S i))) unknown false (λ x. plain-summed false) xs

    none-flat : (k : Flat) (optional : Bool) → flat_may_lack optional k ≡ flat_writable S optional k absent
    unfolding flat_may_lack flat_writable present known
    none-flat F.Boolean optional = refl
    none-flat (F.Integer s w) optional = refl
    none-flat (F.Float w) optional = refl
    none-flat (F.Enumerated n) optional = refl
    none-flat (F.Struct i) optional = refl

    none-part : (k : Kind) (optional inplace : Bool) → plain (may_lack optional k) ≡ part_extent k optional inplace absent
    unfolding may_lack value_writable present known
    none-part (OfFlat k) optional inplace = plain-summed (flat_may_lack optional k) ∙ ap (λ t. summed t 0 0 0 0) (none-flat k optional)
    none-part (OfObject ob) optional inplace = plain-summed true
    none-part (OfUnion i) optional inplace = plain-summed true

    part_surveyed : (k : Kind) (optional inplace : Bool) (xs : List ℕ)
        → survey_part child o S k optional inplace xs ≡ mapped (part_extent k optional inplace) (take_part decoder S k xs)
    unfolding survey_part take_part
    part_surveyed k optional inplace xs =
        mark-mapped (part_extent k optional inplace) (plain (may_lack optional k)) (survey_unknown S k) (survey_body child o S k optional inplace)
        (take_unknown S k) (take_body decoder S k) (none-part k optional inplace) (λ ys. unknown-part k optional inplace ys)
        (λ ys. body_surveyed k optional inplace ys) xs

    element_surveyed : (k : Kind) (xs : List ℕ) → survey_element child o S k xs ≡ mapped (part_extent k true false) (take_element decoder S k xs)
    unfolding survey_element take_element
    element_surveyed k xs = by (unmarked k)
      where
        by : (t : Bool) → pick t (survey_body child o S k true false xs) (survey_part child o S k true false xs)
            ≡ mapped (part_extent k true false) (pick t (take_body decoder S k xs) (take_part decoder S k xs))
        by true = body_surveyed k true false xs
        by false = part_surveyed k true false xs

    -- ---- members and elements: what stands before is t, x and y
    abbrev pub members_extent : Bool → ℕ → ℕ → ℕ → ℕ → List Member → Values → Extent
    members_extent t n w x y rs vs =
        summed (t && members_writable test (keeps_unions o) o S rs vs) n w (x + chain o (pack_bits 0 (members_slots P o S rs vs))) (y + below o (pack_bits 0 (members_slots P o S rs vs)))

    pub members_surveyed : (rs : List Member) (t : Bool) (n w x y : ℕ) (xs : List ℕ)
        → survey_members child o S rs (summed t n w x y) xs ≡ mapped (members_extent t n w x y rs) (take_members decoder S rs xs)
    unfolding survey_members take_members members_writable members_slots first others chain below pack_bits
    members_surveyed [] t n w x y xs =
        ap (λ e. got e xs) (summed_same t (t && true) n w x (x + 0) y (y + 0) (sym (and-true t)) (sym (add-zero x)) (sym (add-zero y)))
    members_surveyed (r ∷ rs) t n w x y xs =
        ap (λ p. bind p (λ e ys. survey_members child o S rs (joined (summed t n w x y) e) ys)) (part_surveyed r.kind r.optional r.inplace xs)
        ∙ seq (take_part decoder S r.kind xs) (part_extent r.kind r.optional r.inplace) (take_members decoder S rs)
        (λ e ys. survey_members child o S rs (joined (summed t n w x y) e) ys) (members_extent t n w x y (r ∷ rs))
        (λ v ys. ap (λ a. survey_members child o S rs a ys) (joined-summed t (fine v) n w x y 0 0 (c v) (b v))
        ∙ members_surveyed rs (t && fine v) n w (x + c v) (y + b v) ys
        ∙ mapped-same _ _ (take_members decoder S rs ys) (has_all _ (λ vs. one v vs) (take_members decoder S rs ys)))
      where
        fine : Value → Bool
        fine v = value_writable test (keeps_unions o) o S r.kind r.optional r.inplace v

        c : Value → ℕ
        c v = value_chain o P S r.kind r.inplace v

        b : Value → ℕ
        b v = value_below o P S r.kind r.inplace v

        one : (v : Value) (vs : Values) → members_extent (t && fine v) n w (x + c v) (y + b v) rs vs ≡ members_extent t n w x y (r ∷ rs) (v then vs)
        one v vs =
            let rest = members_slots P o S rs vs in
            summed_same _ _ n w _ _ _ _ (and_assoc t (fine v) (members_writable test (keeps_unions o) o S rs vs))
            (add_assoc x (c v) (chain o (pack_bits 0 rest)) ∙ ap (λ (k : ℕ). x + k) (sym (member-chain o P S r v rest)))
            (add_assoc y (b v) (below o (pack_bits 0 rest)) ∙ ap (λ (k : ℕ). y + k) (sym (member_below o P S r v rest)))

    abbrev pub elements_extent : Bool → ℕ → ℕ → ℕ → ℕ → Kind → Values → Extent
    elements_extent t n w x y k vs =
        summed (t && elements_writable test (keeps_unions o) o S k vs) n w (x + chain o (pack_bits 0 (elements_slots P o S k vs))) (y + below o (pack_bits 0 (elements_slots P o S k vs)))

    pub elements_surveyed : (k : Kind) (l : ℕ) (t : Bool) (n w x y : ℕ) (xs : List ℕ)
        → survey_elements child o S k l (summed t n w x y) xs ≡ mapped (elements_extent t n w x y k) (take_elements decoder S k l xs)
    unfolding survey_elements take_elements elements_writable elements_slots chain below pack_bits
    elements_surveyed k zero t n w x y xs =
        ap (λ e. got e xs) (summed_same t (t && true) n w x (x + 0) y (y + 0) (sym (and-true t)) (sym (add-zero x)) (sym (add-zero y)))
    elements_surveyed k (suc l) t n w x y xs =
        ap (λ p. bind p (λ e ys. survey_elements child o S k l (joined (summed t n w x y) e) ys)) (element_surveyed k xs)
        ∙ seq (take_element decoder S k xs) (part_extent k true false) (take_elements decoder S k l)
        (λ e ys. survey_elements child o S k l (joined (summed t n w x y) e) ys) (elements_extent t n w x y k)
        (λ v ys. ap (λ a. survey_elements child o S k l a ys) (joined-summed t (fine v) n w x y 0 0 (c v) (b v))
        ∙ elements_surveyed k l (t && fine v) n w (x + c v) (y + b v) ys
        ∙ mapped-same _ _ (take_elements decoder S k l ys) (has_all _ (λ vs. one v vs) (take_elements decoder S k l ys)))
      where
        fine : Value → Bool
        fine v = value_writable test (keeps_unions o) o S k true false v

        c : Value → ℕ
        c v = value_chain o P S k false v

        b : Value → ℕ
        b v = value_below o P S k false v

        one : (v : Value) (vs : Values) → elements_extent (t && fine v) n w (x + c v) (y + b v) k vs ≡ elements_extent t n w x y k (v then vs)
        one v vs =
            let rest = elements_slots P o S k vs in
            summed_same _ _ n w _ _ _ _ (and_assoc t (fine v) (elements_writable test (keeps_unions o) o S k vs))
            (add_assoc x (c v) (chain o (pack_bits 0 rest)) ∙ ap (λ (j : ℕ). x + j) (sym (value-chain o P S 0 k false v rest)))
            (add_assoc y (b v) (below o (pack_bits 0 rest)) ∙ ap (λ (j : ℕ). y + j) (sym (value-below o P S 0 k false v rest)))

    abbrev pub directs_extent : Bool → ℕ → ℕ → ℕ → ℕ → ℕ → Values → Extent
    directs_extent u n w x y t vs =
        summed (u && directs_writable test t vs) n w (x + chain o (pack_bits 0 (directs_slots P t vs))) (y + below o (pack_bits 0 (directs_slots P t vs)))

    pub directs_surveyed : (t l : ℕ) (u : Bool) (n w x y : ℕ) (xs : List ℕ)
        → survey_directs child t l (summed u n w x y) xs ≡ mapped (directs_extent u n w x y t) (take_directs decoder t l xs)
    unfolding survey_directs take_directs directs_writable directs_slots chain below pack_bits
    directs_surveyed t zero u n w x y xs =
        ap (λ e. got e xs) (summed_same u (u && true) n w x (x + 0) y (y + 0) (sym (and-true u)) (sym (add-zero x)) (sym (add-zero y)))
    directs_surveyed t (suc l) u n w x y xs =
        ap (λ p. bind p (λ e ys. survey_directs child t l (joined (summed u n w x y) e) ys)) (inner (O.Table t) xs).is
        ∙ seq (decoder (O.Table t) xs) (object_extent (O.Table t)) (take_directs decoder t l)
        (λ e ys. survey_directs child t l (joined (summed u n w x y) e) ys) (directs_extent u n w x y t)
        (λ v ys. ap (λ a. survey_directs child t l a ys)
        (joined-summed u (fine v) n w x y (length_of o S (O.Table t) v) (width o (pack_bits 0 (P (O.Table t) v))) (c v) (b v))
        ∙ directs_surveyed t l (u && fine v) n w (x + c v) (y + b v) ys
        ∙ mapped-same _ _ (take_directs decoder t l ys) (has_all _ (λ vs. one v vs) (take_directs decoder t l ys)))
      where
        fine : Value → Bool
        fine v = test (O.Table t) v

        c : Value → ℕ
        c v = chain o (pack_bits 0 (P (O.Table t) v))

        b : Value → ℕ
        b v = below o (pack_bits 0 (P (O.Table t) v))

        one : (v : Value) (vs : Values) → directs_extent (u && fine v) n w (x + c v) (y + b v) t vs ≡ directs_extent u n w x y t (v then vs)
        one v vs =
            let rest = directs_slots P t vs in
            summed_same _ _ n w _ _ _ _ (and_assoc u (fine v) (directs_writable test t vs)) (add_assoc x (c v) (chain o (pack_bits 0 rest)))
            (add_assoc y (b v) (below o (pack_bits 0 rest)))
