-- The survey of an object is what decode gives, with the writer's tests and sizes.
use Rattle.std.specs.Prelude.{◌≡◌, Bool, false, drop, leb}
use Rattle.std.proofs.Math.Path.{refl, sym, ap}
use Rattle.std.proofs.Common.{ap₂, ◌∙◌, zero-add, arith}
use mathlib.Core.List.{List}
use Rattle.std.proofs.Math.Bool.{true}
use Prim.Native.Nat.{ℕ, zero, suc, ◌+◌, ◌*◌}
use Rattle.std.proofs.Math.Nat.{suc-mul}
use Rattle.std.proofs.Math.ListN.{length}
use Rattle.coding.specs.Lists.{pick}
use Rattle.coding.specs.Schema.{Schema, element_of, table_of}
use Rattle.coding.specs.Layout.{fixed_size}
use Rattle.coding.specs.Step.{elements_size}
use Rattle.coding.specs.Value.{Value, Values, blob, row, ◌then◌, present, as_blob, as_row, count}
use Rattle.coding.specs.Bits.{pack}
use Rattle.coding.specs.Cells.{width, chain, below, pack_bits}
use Rattle.coding.specs.Sheet.{Parsed, fail, got, bind, take_number, take_bytes, Decoder, take_element, take_elements, take_members, take_blob, take_directs, take_content, decode}
use Rattle.coding.specs.Message.{length_of, Test, keeps_unions, members_writable, elements_writable, directs_writable, content_writable, writable, Planner, members_slots, elements_slots, directs_slots, direct_slots, content_slots, plan}
use Rattle.coding.specs.declared.Object.{Object}
use Rattle.coding.specs.declared.Object.TheVariants as O
use Rattle.coding.specs.declared.Kind.{Kind}
use Rattle.laws.specs.Bits.{pack-length}
use Rattle.laws.specs.Sound.{Sound}
use Rattle.write_text.specs.Texts.{blob_fine}
use Rattle.write_measure.specs.Survey.{direct_size, opened, Surveyor, survey_members, survey_elements, survey_directs, blob_opened, survey_blob, survey_content, survey}
use Rattle.write_measure.specs.Mapped.{mapped, Has, bind-mapped, bind_has}
use Rattle.write_measure.specs.Summed.{summed, opened-summed, blob-summed}
use Rattle.write_measure.specs.SlotSizes.{length-le_bytes}
use Rattle.write_measure.specs.SurveyFlats.{Present}
use Rattle.write_measure.specs.SurveyParts.{has_all, Full, ObjectSurveyed, members_extent, members_surveyed, elements_extent, elements_surveyed, directs_extent, directs_surveyed}
use Rattle.write_measure.specs.Widths.{members-wide, elements-wide}
use Rattle.write_measure.specs.declared.Extent.{Extent}

-- as many elements as were asked for
module _ (decoder : Decoder) (S : Schema) (k : Kind) where
  pub elements-count : (n : ℕ) (xs : List ℕ) → Has (λ vs. count vs ≡ n) (take_elements decoder S k n xs)
  unfolding take_elements count bind
  elements-count zero xs = refl
  elements-count (suc n) xs =
      bind_has _ (take_element decoder S k xs) _ (λ v ys. more v (take_elements decoder S k n ys) (elements-count n ys))
    where
      more : (v : Value) (p : Parsed Values) → Has (λ vs. count vs ≡ n) p → Has (λ vs. count vs ≡ suc n) (bind p (λ vs zs. got (v then vs) zs))
      more v fail h = tt
      more v (got vs zs) h = ap suc h

summed_is : (t : Bool) (n n' w w' x x' y y' : ℕ) → n ≡ n' → w ≡ w' → x ≡ x' → y ≡ y' → summed t n w x y ≡ summed t n' w' x' y'
summed_is t n n' w w' x x' y y' e f g h =
    ap₂ (λ (p q : ℕ). summed t p q x y) e f ∙ ap₂ (λ (p q : ℕ). summed t n' w' p q) g h

module _ (o : ℕ) (S : Schema) (sound : Sound S) (child : Surveyor) (decoder : Decoder) (P : Planner) (test : Test)
    (inner : (ob : Object) (xs : List ℕ) → ObjectSurveyed o S sound child decoder P test ob xs) where
  -- by the content's own slots and test
  abbrev content_extent : Object → Value → Extent
  content_extent ob v =
      summed (content_writable test (keeps_unions o) o S ob v) (length_of o S ob v) (width o (pack_bits 0 (content_slots P o S ob v)))
      (chain o (pack_bits 0 (content_slots P o S ob v))) (below o (pack_bits 0 (content_slots P o S ob v)))

  blob_surveyed : (f : Value → Extent) (more : ℕ) → ((l : List ℕ) → summed (blob_fine more l) (length l) (length l + more) 0 0 ≡ f (blob l)) → (xs : List ℕ)
      → survey_blob more xs ≡ mapped f (take_blob xs)
  unfolding survey_blob take_blob take_bytes bind
  blob_surveyed f more h xs =
      bind-mapped f (take_number 32 xs) _ _ (λ n ys. by n ys (leb (8 * n) (length ys)))
    where
      one : (n : ℕ) (l : List ℕ) → length l ≡ n → blob_opened more n l ≡ f (blob l)
      one n l e = blob-summed more n l ∙ ap (λ (k : ℕ). summed (blob_fine more l) k (k + more) 0 0) (sym e) ∙ h l

      by : (n : ℕ) (ys : List ℕ) (t : Bool)
          → bind (pick t (got (pack n ys) (drop (8 * n) ys)) fail) (λ l zs. got (blob_opened more n l) zs)
          ≡ mapped f (bind (pick t (got (pack n ys) (drop (8 * n) ys)) fail) (λ l zs. got (blob l) zs))
      by n ys true = ap (λ e. got e (drop (8 * n) ys)) (one n (pack n ys) (pack-length n ys))
      by n ys false = refl

  blob_there : (xs : List ℕ) → Has Present (take_blob xs)
  unfolding take_blob present
  blob_there xs = bind_has Present (take_number 32 xs) _ (λ n ys. bind_has Present (take_bytes n ys) _ (λ l zs. refl))

  content_there : (ob : Object) (xs : List ℕ) → Has Present (take_content decoder S ob xs)
  unfolding take_content present
  content_there O.Text xs = blob_there xs
  content_there O.Bytes xs = blob_there xs
  content_there (O.List i) xs =
      bind_has Present (take_number 32 xs) _ (λ n ys. bind_has Present (take_elements decoder S (element_of S i) n ys) _ (λ vs zs. refl))
  content_there (O.Table i) xs = bind_has Present (take_members decoder S (table_of S i).members xs) _ (λ vs ys. refl)
  content_there (O.DirectList t) xs =
      bind_has Present (take_number 32 xs) _ (λ n ys. bind_has Present (take_directs decoder t n ys) _ (λ vs zs. refl))

  content_full : (ob : Object) (xs : List ℕ) → Has (λ v. Full o S ob (width o (pack_bits 0 (content_slots P o S ob v)))) (take_content decoder S ob xs)
  unfolding content_slots
  content_full O.Text xs = has_all _ (λ v. tt) (take_content decoder S O.Text xs)
  content_full O.Bytes xs = has_all _ (λ v. tt) (take_content decoder S O.Bytes xs)
  content_full (O.List i) xs = has_all _ (λ v. tt) (take_content decoder S (O.List i) xs)
  content_full (O.Table i) xs = has_all _ (λ v. members-wide o S sound P (table_of S i).members (as_row v)) (take_content decoder S (O.Table i) xs)
  content_full (O.DirectList t) xs = has_all _ (λ v. tt) (take_content decoder S (O.DirectList t) xs)

  table_surveyed : (i : ℕ) (xs : List ℕ) → survey_content child o S (O.Table i) xs ≡ mapped (content_extent (O.Table i)) (take_content decoder S (O.Table i) xs)
  unfolding survey_content take_content content_writable content_slots length_of as_row bind
  table_surveyed i xs =
      let rs = (table_of S i).members in
      let n = fixed_size o S rs in
      ap (λ a. survey_members child o S rs a xs) (opened-summed n n)
      ∙ members_surveyed o S sound child decoder P test inner rs true n n 0 0 xs
      ∙ close (take_members decoder S rs xs)
    where
      one : (vs : Values) → members_extent o S sound child decoder P test inner true (fixed_size o S (table_of S i).members) (fixed_size o S (table_of S i).members) 0 0 (table_of S i).members vs
          ≡ content_extent (O.Table i) (row vs)
      one vs =
          let rs = (table_of S i).members in
          let s = members_slots P o S rs vs in
          summed_is (members_writable test (keeps_unions o) o S rs vs) (fixed_size o S rs) (fixed_size o S rs) (fixed_size o S rs) (width o (pack_bits 0 s))
          (0 + chain o (pack_bits 0 s)) (chain o (pack_bits 0 s)) (0 + below o (pack_bits 0 s)) (below o (pack_bits 0 s))
          refl (sym (members-wide o S sound P rs vs)) (zero-add (chain o (pack_bits 0 s))) (zero-add (below o (pack_bits 0 s)))

      close : (p : Parsed Values)
          → mapped (members_extent o S sound child decoder P test inner true (fixed_size o S (table_of S i).members) (fixed_size o S (table_of S i).members) 0 0 (table_of S i).members) p
          ≡ mapped (content_extent (O.Table i)) (bind p (λ vs ys. got (row vs) ys))
      close fail = refl
      close (got vs ys) = ap (λ e. got e ys) (one vs)

  list_surveyed : (i : ℕ) (xs : List ℕ) → survey_content child o S (O.List i) xs ≡ mapped (content_extent (O.List i)) (take_content decoder S (O.List i) xs)
  unfolding survey_content take_content content_writable content_slots length_of as_row bind
  list_surveyed i xs = bind-mapped (content_extent (O.List i)) (take_number 32 xs) _ _ (λ n ys. by n ys)
    where
      one : (n : ℕ) (vs : Values) → count vs ≡ n
          → elements_extent o S sound child decoder P test inner true n (elements_size o S (element_of S i) n) 0 0 (element_of S i) vs ≡ content_extent (O.List i) (row vs)
      one n vs e =
          let k = element_of S i in
          let s = elements_slots P o S k vs in
          summed_is (elements_writable test (keeps_unions o) o S k vs) n (count vs) (elements_size o S k n) (width o (pack_bits 0 s))
          (0 + chain o (pack_bits 0 s)) (chain o (pack_bits 0 s)) (0 + below o (pack_bits 0 s)) (below o (pack_bits 0 s))
          (sym e) (ap (elements_size o S k) (sym e) ∙ sym (elements-wide o S sound P k vs)) (zero-add (chain o (pack_bits 0 s))) (zero-add (below o (pack_bits 0 s)))

      close : (n : ℕ) (p : Parsed Values) → Has (λ vs. count vs ≡ n) p
          → mapped (elements_extent o S sound child decoder P test inner true n (elements_size o S (element_of S i) n) 0 0 (element_of S i)) p
          ≡ mapped (content_extent (O.List i)) (bind p (λ vs ys. got (row vs) ys))
      close n fail h = refl
      close n (got vs ys) h = ap (λ e. got e ys) (one n vs h)

      by : (n : ℕ) (ys : List ℕ)
          → survey_elements child o S (element_of S i) n (opened n (elements_size o S (element_of S i) n)) ys
          ≡ mapped (content_extent (O.List i)) (bind (take_elements decoder S (element_of S i) n ys) (λ vs zs. got (row vs) zs))
      by n ys =
          let k = element_of S i in
          ap (λ a. survey_elements child o S k n a ys) (opened-summed n (elements_size o S k n))
          ∙ elements_surveyed o S sound child decoder P test inner k n true n (elements_size o S k n) 0 0 ys
          ∙ close n (take_elements decoder S k n ys) (elements-count decoder S k n ys)

  -- as many elements of a direct list as were asked for, each of the full size
  abbrev Filled : ℕ → ℕ → Values → Type 0
  Filled t n vs = (count vs ≡ n) × (width o (pack_bits 0 (directs_slots P t vs)) ≡ n * fixed_size o S (table_of S t).members)

  directs_filled : (t n : ℕ) (xs : List ℕ) → Has (Filled t n) (take_directs decoder t n xs)
  unfolding take_directs directs_slots count width pack_bits bind
  directs_filled t zero xs = (refl, omega arith)
  directs_filled t (suc n) xs = one (decoder (O.Table t) xs) (inner (O.Table t) xs).full (λ ys. directs_filled t n ys)
    where
      more : (v : Value) → width o (pack_bits 0 (P (O.Table t) v)) ≡ fixed_size o S (table_of S t).members → (p : Parsed Values) → Has (Filled t n) p
          → Has (Filled t (suc n)) (bind p (λ vs zs. got (v then vs) zs))
      more v e fail h = tt
      more v e (got vs zs) h = (ap suc h.0, omega (arith, e, h.1, suc-mul n (fixed_size o S (table_of S t).members)))

      one : (p : Parsed Value) → Has (λ v. width o (pack_bits 0 (P (O.Table t) v)) ≡ fixed_size o S (table_of S t).members) p
          → ((ys : List ℕ) → Has (Filled t n) (take_directs decoder t n ys))
          → Has (Filled t (suc n)) (bind p (λ v ys. bind (take_directs decoder t n ys) (λ vs zs. got (v then vs) zs)))
      one fail h k = tt
      one (got v ys) h k = more v h (take_directs decoder t n ys) (k ys)

  direct_surveyed : (t : ℕ) (xs : List ℕ)
      → survey_content child o S (O.DirectList t) xs ≡ mapped (content_extent (O.DirectList t)) (take_content decoder S (O.DirectList t) xs)
  unfolding survey_content take_content content_writable content_slots direct_slots length_of as_row bind chain below pack_bits
  direct_surveyed t xs = bind-mapped (content_extent (O.DirectList t)) (take_number 32 xs) _ _ (λ n ys. by n ys)
    where
      wide : (n : ℕ) (vs : Values) → Filled t n vs → direct_size o S t n ≡ width o (pack_bits 0 (direct_slots P o S t vs))
      wide n vs f =
          unfold direct_size direct_slots width pack_bits in
          omega (arith, f.1, length-le_bytes 4 (table_of S t).id, length-le_bytes 4 (fixed_size o S (table_of S t).members))

      one : (n : ℕ) (vs : Values) → Filled t n vs
          → directs_extent o S sound child decoder P test inner true n (direct_size o S t n) 0 0 t vs ≡ content_extent (O.DirectList t) (row vs)
      one n vs f =
          let s = directs_slots P t vs in
          summed_is (directs_writable test t vs) n (count vs) (direct_size o S t n) (width o (pack_bits 0 (direct_slots P o S t vs)))
          (0 + chain o (pack_bits 0 s)) (chain o (pack_bits 0 s)) (0 + below o (pack_bits 0 s)) (below o (pack_bits 0 s))
          (sym f.0) (wide n vs f) (zero-add (chain o (pack_bits 0 s))) (zero-add (below o (pack_bits 0 s)))

      close : (n : ℕ) (p : Parsed Values) → Has (Filled t n) p
          → mapped (directs_extent o S sound child decoder P test inner true n (direct_size o S t n) 0 0 t) p
          ≡ mapped (content_extent (O.DirectList t)) (bind p (λ vs ys. got (row vs) ys))
      close n fail h = refl
      close n (got vs ys) h = ap (λ e. got e ys) (one n vs h)

      by : (n : ℕ) (ys : List ℕ)
          → survey_directs child t n (opened n (direct_size o S t n)) ys
          ≡ mapped (content_extent (O.DirectList t)) (bind (take_directs decoder t n ys) (λ vs zs. got (row vs) zs))
      by n ys =
          ap (λ a. survey_directs child t n a ys) (opened-summed n (direct_size o S t n))
          ∙ directs_surveyed o S sound child decoder P test inner t n true n (direct_size o S t n) 0 0 ys
          ∙ close n (take_directs decoder t n ys) (directs_filled t n ys)

  content_surveyed : (ob : Object) (xs : List ℕ) → survey_content child o S ob xs ≡ mapped (content_extent ob) (take_content decoder S ob xs)
  unfolding survey_content take_content
  content_surveyed O.Text xs =
      blob_surveyed (content_extent O.Text) 1 (λ l. text l) xs
    where
      text : (l : List ℕ) → summed (blob_fine 1 l) (length l) (length l + 1) 0 0 ≡ content_extent O.Text (blob l)
      text l = unfold blob_fine content_writable length_of content_slots as_blob width chain below pack_bits in refl
  content_surveyed O.Bytes xs =
      blob_surveyed (content_extent O.Bytes) 0 (λ l. bytes l) xs
    where
      bytes : (l : List ℕ) → summed (blob_fine 0 l) (length l) (length l + 0) 0 0 ≡ content_extent O.Bytes (blob l)
      bytes l = unfold blob_fine content_writable length_of content_slots as_blob width chain below pack_bits in refl
  content_surveyed (O.List i) xs = list_surveyed i xs
  content_surveyed (O.Table i) xs = table_surveyed i xs
  content_surveyed (O.DirectList t) xs = direct_surveyed t xs

-- ---- the whole
module _ (o : ℕ) (S : Schema) (sound : Sound S) where
  -- an object's extent, by its tree
  unfoldable pub extent_of : ℕ → Object → Value → Extent
  extent_of d ob v =
      summed (writable d o S ob v) (length_of o S ob v) (width o (pack_bits 0 (plan d o S ob v)))
      (chain o (pack_bits 0 (plan d o S ob v))) (below o (pack_bits 0 (plan d o S ob v)))

  pub object_surveyed : (d : ℕ) (ob : Object) (xs : List ℕ) → ObjectSurveyed o S sound (survey d o S) (decode d S) (plan d o S) (writable d o S) ob xs
  unfolding survey decode plan writable
  object_surveyed zero ob xs = record { is = refl; there = tt; full = tt }
  object_surveyed (suc d) ob xs =
      record {
        is = content_surveyed o S sound (survey d o S) (decode d S) (plan d o S) (writable d o S) (object_surveyed d) ob xs;
        there = content_there o S sound (survey d o S) (decode d S) (plan d o S) (writable d o S) (object_surveyed d) ob xs;
        full = content_full o S sound (survey d o S) (decode d S) (plan d o S) (writable d o S) (object_surveyed d) ob xs;
      }

  -- "the survey of an object": what decode gives, with the writer's tests and sizes
  pub survey_is : (d : ℕ) (ob : Object) (xs : List ℕ) → survey d o S ob xs ≡ mapped (extent_of d ob) (decode d S ob xs)
  unfolding extent_of
  survey_is d ob xs = (object_surveyed d ob xs).is
