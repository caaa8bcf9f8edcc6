-- The writer's answers by the survey and the pass over the sheet.
use Rattle.std.specs.Prelude.{◌≡◌, List, [], Bool, ◌&&◌, ℕ, ◌+◌, ◌≤◌, ◌<◌, ltb}
use Rattle.std.proofs.Math.Path.{refl, sym, ap, ap₂, subst}
use Rattle.std.proofs.Common.{◌∙◌}
use Rattle.std.proofs.Math.Bool.{true, false}
use Rattle.std.proofs.Math.Option.{Option}
use Rattle.std.proofs.Math.Option as Op
use native.Mathlib.Omega.{arith}
use Rattle.std.proofs.Math.ListN.{length}
use Rattle.std.proofs.Math.Dec.{leb}
use borrow.Author.Tests.{le-leb, lt-leb, leb-true, leb-false}
use Rattle.coding.specs.Bytes.{le_bytes, largest, deepest}
use Rattle.coding.specs.Bits.{bits, all_zero}
use Rattle.coding.specs.Schema.{Schema}
use Rattle.coding.specs.Packed.{parse}
use Rattle.coding.specs.Lawful.{lawful}
use Rattle.coding.specs.Walk.{start_size, magic}
use Rattle.coding.specs.Value.{Value}
use Rattle.coding.specs.Cells.{width, chain, below, Slots, pack_bits}
use Rattle.coding.specs.Cells.Slots.{end, bytes, reference}
use Rattle.coding.specs.Sheet.{Parsed, fail, got, decode, closed, tree_of, sheet_tree}
use Rattle.coding.specs.Message.{length_of, writable, object_slots, refer_slots, plan, message_of, refused, message, written_tree, written}
use Rattle.coding.specs.declared.Object.TheVariants as O
use Rattle.laws.specs.Sound.{Sound}
use Rattle.laws.specs.Lists.{never}
use Rattle.write_measure.specs.Survey.{capped, head_size, survey}
use Rattle.write_measure.specs.Mapped.{mapped}
use Rattle.write_measure.specs.Summed.{capped_in, capped_over}
use Rattle.write_measure.specs.SlotSizes.{length-le_bytes}
use Rattle.write_measure.specs.SurveyObjects.{extent_of, object_surveyed, survey_is}
use Rattle.write_pass.specs.CellLengths.{length-layout}
use Rattle.write_store.specs.State.{State, put_number}
use Rattle.write_pass.specs.Emit.{emit_slots}
use Rattle.write_pass.specs.EmitLayout.{state, emit-layout}
use Rattle.write_pass.specs.EmitSheet.{emit, emit_message}
use Rattle.write_pass.specs.EmitParts.{refer_emitted}
use Rattle.write_pass.specs.EmitObjects.{is_got, mapped_fail_is, emit_is}
use Rattle.write_measure.specs.declared.Extent.{Extent}
use Rattle.write.specs.Writing.{message_size}

-- ---- what was got, through a function
abbrev got-first : {A : Type 0} → A → Parsed A → A
got-first d fail = d
got-first d (got a xs) = a

abbrev got-rest : {A : Type 0} → Parsed A → List ℕ
got-rest fail = []
got-rest (got a xs) = xs

mapped_got_is : {A B : Type 0} (f : A → B) (p : Parsed A) (x : B) (ys : List ℕ) → mapped f p ≡ got x ys → (a : A) × (p ≡ got a ys) × (f a ≡ x)
mapped_got_is f fail x ys e = never (ap is_got e)
mapped_got_is f (got a xs) x ys e = (a, ap (got a) (ap got-rest e), ap (got-first x) e)

-- ---- the whole sheet
module _ (o : ℕ) (S : Schema) (sound : Sound S) where
  -- the slots of a message: its start, and the root table
  abbrev pub message_slots : Value → Slots
  message_slots v = bytes (le_bytes 4 0xB5C0_C4B3) (reference (object_slots (plan deepest o S) o S (O.Table S.root) v) end)

  message_state : List ℕ → State
  message_state out = state o 0 0 0 0 (start_size o) (start_size o) out

  message_is : (out xs : List ℕ)
      → emit_message o S out xs ≡ mapped (λ v. emit_slots o (message_state out) (message_slots v)) (decode deepest S (O.Table S.root) xs)
  unfolding emit_message message_state emit_slots put_number refer_slots
  message_is out xs =
      refer_emitted o S sound (emit deepest o S) (survey deepest o S) (decode deepest S) (plan deepest o S) (writable deepest o S)
      (λ ob ys. object_surveyed o S sound deepest ob ys) (λ ob st ys. emit_is o S sound deepest ob st ys) false (O.Table S.root)
      (put_number 4 0xB5C0_C4B3 (message_state out)) xs

  -- ---- the message's length
  module _ (v : Value) where
    abbrev root : Extent
    root = extent_of o S sound deepest (O.Table S.root) v

    slots-width : width o (pack_bits 0 (message_slots v)) ≡ start_size o
    unfolding width pack_bits start_size
    slots-width = omega (arith, length-le_bytes 4 0xB5C0_C4B3)

    slots-chain : chain o (pack_bits 0 (message_slots v)) ≡ 0
    unfolding chain pack_bits
    slots-chain = refl

    whole : ℕ
    whole = start_size o + (head_size o + width o (pack_bits 0 (plan deepest o S (O.Table S.root) v)) + chain o (pack_bits 0 (plan deepest o S (O.Table S.root) v))
        + below o (pack_bits 0 (plan deepest o S (O.Table S.root) v)))

    message-length : length (message_of o S v) ≡ whole
    unfolding message_of whole
    message-length =
        length-layout o (pack_bits 0 (message_slots v))
        ∙ (unfold width chain below pack_bits object_slots start_size head_size in
        omega (arith, length-le_bytes 4 0xB5C0_C4B3, length-le_bytes 4 (magic S (O.Table S.root)), length-le_bytes o (length_of o S (O.Table S.root) v)))

    -- the sizes are cut only where the message is over the size
    size_in : message_size o root ≤ largest → message_size o root ≡ whole
    unfolding message_size extent_of whole
    size_in h =
        let c = chain o (pack_bits 0 (plan deepest o S (O.Table S.root) v)) in
        let b = below o (pack_bits 0 (plan deepest o S (O.Table S.root) v)) in
        let ec : capped c ≡ c = uncut c (omega arith) in
        let eb : capped b ≡ b = uncut b (omega arith) in
        omega arith
      where
        uncut : (n : ℕ) → capped n ≤ largest → capped n ≡ n
        uncut n l = by (leb n largest) refl
          where
            by : (t : Bool) → leb n largest ≡ t → capped n ≡ n
            by true e = capped_in n (leb-true n largest e)
            by false e =
                let k = leb-false n largest e in
                let z = capped_over n k in
                absurd (let y : ⊥ = omega arith in y)

    size_over : largest < message_size o root → largest < whole
    unfolding message_size extent_of whole
    size_over h =
        let c = chain o (pack_bits 0 (plan deepest o S (O.Table S.root) v)) in
        let b = below o (pack_bits 0 (plan deepest o S (O.Table S.root) v)) in
        omega (arith, cut c, cut b)
      where
        cut : (n : ℕ) → capped n ≤ n
        cut n = by (leb n largest) refl
          where
            by : (t : Bool) → leb n largest ≡ t → capped n ≤ n
            by true e = let z = capped_in n (leb-true n largest e) in omega arith
            by false e = let k = leb-false n largest e in let z = capped_over n k in omega arith

    -- what the pass leaves in a buffer as long as the message
    message_emitted : (out : List ℕ) → length out ≡ whole → whole ≤ largest → (emit_slots o (message_state out) (message_slots v)).out ≡ message_of o S v
    unfolding message_state message_of
    message_emitted out e l =
        let p = pack_bits 0 (message_slots v) in
        let w = slots-width in
        let c = slots-chain in
        let n : width o p + chain o p ≡ start_size o = omega arith in
        ap₂ (λ (i j : ℕ). (emit_slots o (state o 0 0 0 0 i j out) (message_slots v)).out) (sym w) (sym n)
        ∙ emit-layout o out (message_slots v) (e ∙ sym message-length) (omega arith)

-- ---- the answers, each over the whole sheet
module _ (o : ℕ) (b s : List ℕ) (right : lawful o b ≡ true) (sound : Sound (parse b)) where
  abbrev S : Schema
  S = parse b

  abbrev sheet : Parsed Extent
  sheet = survey deepest o S (O.Table S.root) (bits s)

  by_tree : (t : Option Value) → sheet_tree S s ≡ t → written o b s ≡ written_tree o S t
  unfolding written
  by_tree t e = rw (right, e)

  pub written_long : largest < length s → written o b s ≡ refused 11
  unfolding sheet_tree written_tree
  written_long h = by_tree Op.none (rw (lt-leb (length s) largest h))

  module _ (short : length s ≤ largest) where
    tree-of : (p : Parsed Value) → decode deepest S (O.Table S.root) (bits s) ≡ p → sheet_tree S s ≡ closed p
    unfolding sheet_tree tree_of
    tree-of p e = rw (le-leb (length s) largest short, e)

    pub written-cut : sheet ≡ fail → written o b s ≡ refused 11
    unfolding closed written_tree
    written-cut h =
        by_tree Op.none (tree-of fail (mapped_fail_is (extent_of o S sound deepest (O.Table S.root)) (decode deepest S (O.Table S.root) (bits s))
        (sym (survey_is o S sound deepest (O.Table S.root) (bits s)) ∙ h)))

    module _ (x : Extent) (ys : List ℕ) (h : sheet ≡ got x ys) where
      found : (v : Value) × (decode deepest S (O.Table S.root) (bits s) ≡ got v ys) × (extent_of o S sound deepest (O.Table S.root) v ≡ x)
      found =
          mapped_got_is (extent_of o S sound deepest (O.Table S.root)) (decode deepest S (O.Table S.root) (bits s)) x ys
          (sym (survey_is o S sound deepest (O.Table S.root) (bits s)) ∙ h)

      -- the pass does not fail
      pub message_got : (out : List ℕ) → (st : State) × (emit_message o S out (bits s) ≡ got st ys)
      message_got out = (
        emit_slots o (message_state o S sound out) (message_slots o S sound found.0),
        message_is o S sound out (bits s) ∙ ap (mapped (λ w. emit_slots o (message_state o S sound out) (message_slots o S sound w))) found.1,
      )

      pub written_open : (ltb (length ys) 8 && all_zero ys) ≡ false → written o b s ≡ refused 11
      unfolding closed written_tree
      written_open e = by_tree Op.none (tree-of (got found.0 ys) found.1 ∙ rw e)

      module _ (e : (ltb (length ys) 8 && all_zero ys) ≡ true) where
        tree_is : sheet_tree S s ≡ Op.some found.0
        unfolding closed
        tree_is = tree-of (got found.0 ys) found.1 ∙ rw e

        fine_is : (t : Bool) → x.writable ≡ t → writable deepest o S (O.Table S.root) found.0 ≡ t
        unfolding extent_of
        fine_is t f = ap (λ (y : Extent). y.writable) found.2 ∙ f

        pub written-not : x.writable ≡ false → written o b s ≡ refused 12
        unfolding written_tree
        written-not f = by_tree (Op.some found.0) tree_is ∙ rw (fine_is false f)

        module _ (f : x.writable ≡ true) where
          pub written_over : largest < message_size o x → written o b s ≡ refused 13
          unfolding written_tree
          written_over l =
              let v = found.0 in
              let k : largest < message_size o (extent_of o S sound deepest (O.Table S.root) v) = subst (λ (y : Extent). largest < message_size o y) (sym found.2) l in
              let n = size_over o S sound v k in
              let m = message-length o S sound v in
              let q : largest < length (message_of o S v) = omega arith in
              by_tree (Op.some v) tree_is ∙ rw (fine_is true f, lt-leb (length (message_of o S v)) largest q)

          module _ (l : message_size o x ≤ largest) where
            size_is : message_size o x ≡ length (message_of o S found.0)
            size_is =
                let v = found.0 in
                let e1 = ap (message_size o) found.2 in
                let k : message_size o (extent_of o S sound deepest (O.Table S.root) v) ≤ largest = omega arith in
                let n = size_in o S sound v k in
                let m = message-length o S sound v in
                omega arith

            -- the message, which is as long as the survey says; the pass leaves it in a buffer of that length
            pub written-message : (m : List ℕ) × (written o b s ≡ message m) × (length m ≡ message_size o x)
                × ((out : List ℕ) (st : State) (zs : List ℕ) → length out ≡ message_size o x → emit_message o S out (bits s) ≡ got st zs → st.out ≡ m)
            written-message = (message_of o S found.0, is, sym size_is, stores)
              where
                is : written o b s ≡ message (message_of o S found.0)
                is =
                    unfold written_tree in
                    let q : length (message_of o S found.0) ≤ largest = let z = size_is in omega arith in
                    by_tree (Op.some found.0) tree_is ∙ rw (fine_is true f, le-leb (length (message_of o S found.0)) largest q)

                stores : (out : List ℕ) (st : State) (zs : List ℕ) → length out ≡ message_size o x → emit_message o S out (bits s) ≡ got st zs → st.out ≡ message_of o S found.0
                stores out st zs e1 e2 =
                    let v = found.0 in
                    let z = size_is in
                    let m = message-length o S sound v in
                    let same : mapped (λ w. emit_slots o (message_state o S sound out) (message_slots o S sound w)) (got v ys) ≡ got st zs =
                    ap (mapped (λ w. emit_slots o (message_state o S sound out) (message_slots o S sound w))) (sym found.1) ∙ sym (message_is o S sound out (bits s)) ∙ e2 in
                    ap (λ (y : State). y.out) (sym (ap (got-first st) same)) ∙ message_emitted o S sound v out (omega arith) (omega arith)
