-- The ways out of the walkers of a list, one lemma for each.
use Rattle.std.specs.Prelude.{Ok}
use mathlib.Core.Path.{◌≡◌, refl, sym, ap, ◌∙◌, subst}
use mathlib.Core.Bool.{Bool, true, false, ◌&&◌, not}
use mathlib.Core.List.{List}
use Prim.Native.Nat.{ℕ, zero, suc, ◌+◌, ◌-◌, ◌*◌, ◌%◌, ◌^◌, ◌<◌, ◌≤◌}
use native.Mathlib.Nat.{add-mul}
use native.Mathlib.Omega.{arith}
use lib.ListN.{length, get_or}
use lib.Dec.{ltb, leb, eqb}
use borrow.Author.Tests.{eq-eqb, ne_eqb, le-leb, lt-leb, ltb-true}
use Rattle.coding.specs.Lists.{pick}
use Rattle.coding.specs.Bytes.{le, is_nan}
use Rattle.coding.specs.Schema as Sc
use Rattle.coding.specs.Schema.{Schema}
use Rattle.coding.specs.Packed as P
use Rattle.coding.specs.Layout as L
use Rattle.coding.specs.Step as T
use Rattle.coding.specs.Walk as W
use Rattle.coding.specs.Walk.{Walked}
use Rattle.coding.specs.declared.Flat.{Flat}
use Rattle.coding.specs.declared.Flat.TheVariants as F
use Rattle.coding.specs.declared.Object.{Object}
use Rattle.coding.specs.declared.Object.TheVariants as O
use Rattle.coding.specs.declared.Kind.{Kind}
use Rattle.coding.specs.declared.Kind.TheVariants.{OfFlat, OfObject, OfUnion}
use Rattle.coding.specs.declared.Place.TheVariants.{ByOffset}
use Rattle.coding.specs.declared.Step.{Step}
use Rattle.coding.specs.declared.Step.TheVariants as St
use Rattle.coding.specs.declared.Spent.{Spent}
use Rattle.laws.specs.Sound.{NoStruct, ObjectSound, KindSound}
use Rattle.laws.specs.SoundAt.{union_index, case_sound-at}
use Rattle.schema.specs.Directory.{Accepted, accepted_sound}
use Rattle.wire.specs.Numbers.{Number}
use Rattle.outcome.specs.declared.Outcome.{Outcome}
use Rattle.outcome.specs.Answers.{walked_of, left_of}
use Rattle.judge_text.specs.Texts.{is_text}
use Rattle.message_header.proofs.SizeCases.{element-flat, element-object, element-union, list_kind}
use Rattle.judge_member.proofs.RowRecords.{object_kind, union_kind}
use Rattle.judge_text.proofs.TextCases.{text_only}
use Rattle.judge_text.proofs.ElementCases.{elements_stopped, elements_turn}

-- ---- elements that lead nowhere
flat_follows : (child : W.Child) (holder j : ℕ) (S : Schema) (m : List ℕ) (k : Flat) (at bit : ℕ) (v : Spent) → NoStruct (OfFlat k)
    → W.follow child holder j (T.struct_tested S m (T.flat_step m k true at bit)) v ≡ Ok v
unfolding T.flat_step T.float_step T.enum_step T.struct_tested W.follow
flat_follows child holder j S m F.Boolean at bit v h = refl
flat_follows child holder j S m (F.Integer s w) at bit v h = refl
flat_follows child holder j S m (F.Float w) at bit v h = by (is_nan w (le m at w))
  where
    by : (t : Bool) → W.follow child holder j (T.struct_tested S m (pick t St.Absent (St.Value (le m at w)))) v ≡ Ok v
    by true = refl
    by false = refl
flat_follows child holder j S m (F.Enumerated n) at bit v h = by (eqb (get_or m at 0) 255) (ltb (get_or m at 0) n)
  where
    by : (t u : Bool) → W.follow child holder j (T.struct_tested S m (pick t St.Absent (pick u (St.Value (get_or m at 0)) (St.Unknown (get_or m at 0))))) v ≡ Ok v
    by true u = refl
    by false true = refl
    by false false = refl
flat_follows child holder j S m (F.Struct i) at bit v h = absurd h

first_goes : (child : W.Child) (o : ℕ) (S : Schema) (m : List ℕ) (holder start : ℕ) (k : Kind) (f : Flat) (i : ℕ) (s : Spent) → k ≡ OfFlat f → NoStruct k
    → W.follow child holder i (T.element_step o S m k start i) s ≡ Ok s
unfolding T.element_step T.value_step
first_goes child o S m holder start k f i s e h =
    rw e (flat_follows child holder i S m f (T.element_place o S (OfFlat f) start i) (i % 8) s (subst NoStruct e h))

scalars_go : (child : W.Child) (o : ℕ) (S : Schema) (m : List ℕ) (holder start : ℕ) (k : Kind) (f : Flat) (n i : ℕ) (s : Spent) → k ≡ OfFlat f → NoStruct k
    → Ok s ≡ W.elements child o S m holder start k n i s
unfolding W.elements W.and_then
scalars_go child o S m holder start k f zero i s e h = refl
scalars_go child o S m holder start k f (suc n) i s e h =
    scalars_go child o S m holder start k f n (i + 1) s e h
    ∙ sym (ap (λ (w : Walked). W.and_then w (W.elements child o S m holder start k n (i + 1))) (first_goes child o S m holder start k f i s e h))

-- ---- a list by the number of its element's kind
pub list-flat : (o : ℕ) (b dir : List ℕ) → Accepted b dir → (child : W.Child) (m : List ℕ) (holder start i n : ℕ) (s : Spent) → i < P.list_count b → (at : ℕ) → at ≡ P.list_place b i
    → (k : ℕ) → k ≡ P.kind_at b at → (t : Bool) → t ≡ ltb k 13 → t ≡ true → (r : Walked) → r ≡ Ok s → r ≡ W.elements child o (P.parse b) m holder start (Sc.element_of (P.parse b) i) n 0 s
list-flat o b dir a child m holder start i n s l at ea k ek t et h r f =
    f ∙ scalars_go child o (P.parse b) m holder start (Sc.element_of (P.parse b) i) (P.flat_of k (P.argument_at b at)) n 0 s
    (sym (list_kind b i at l ea) ∙ element-flat b at k ek (ltb-true k 13 (sym et ∙ h))) ((accepted_sound b dir a).lists i).scalar

-- what is not flat is an object or a union
module _ (b : List ℕ) (i : ℕ) (l : i < P.list_count b) (at : ℕ) (ea : at ≡ P.list_place b i) (k : ℕ) (ek : k ≡ P.kind_at b at) (t : Bool) (et : t ≡ ltb k 13) (ft : t ≡ false) (q : Bool)
    (eq : q ≡ (not (ltb k 13) && not (eqb k 17))) where
  of-object : q ≡ true → (ob : Object) → ob ≡ P.object_at b at → OfObject ob ≡ Sc.element_of (P.parse b) i
  of-object h ob eo =
      let g = object_kind k (sym eq ∙ h) in
      sym (element-object b at k ek g.0 g.1 ob eo) ∙ list_kind b i at l ea

  of-union : q ≡ false → (a u : ℕ) → a ≡ P.argument_at b at → u ≡ a → OfUnion u ≡ Sc.element_of (P.parse b) i
  of-union h a u e eu = sym (element-union b at k ek (union_kind k (sym et ∙ ft) (sym eq ∙ h)) u (eu ∙ e)) ∙ list_kind b i at l ea

  module _ (o : ℕ) (child : W.Child) (m : List ℕ) (holder start n : ℕ) (s : Spent) (r : Walked) where
    pub list_objects : q ≡ true → (ob : Object) → ob ≡ P.object_at b at → r ≡ W.elements child o (P.parse b) m holder start (OfObject ob) n 0 s
        → r ≡ W.elements child o (P.parse b) m holder start (Sc.element_of (P.parse b) i) n 0 s
    list_objects h ob eo g = g ∙ ap (λ (w : Kind). W.elements child o (P.parse b) m holder start w n 0 s) (of-object h ob eo)

    pub list-unions : q ≡ false → (a u : ℕ) → a ≡ P.argument_at b at → u ≡ a → r ≡ W.elements child o (P.parse b) m holder start (OfUnion u) n 0 s
        → r ≡ W.elements child o (P.parse b) m holder start (Sc.element_of (P.parse b) i) n 0 s
    list-unions h a u e eu g = g ∙ ap (λ (w : Kind). W.elements child o (P.parse b) m holder start w n 0 s) (of-union h a u e eu)

  -- what its walkers require
  module _ (dir : List ℕ) (acc : Accepted b dir) where
    pub objects_sound : q ≡ true → (ob : Object) → ob ≡ P.object_at b at → ObjectSound (P.parse b) ob
    objects_sound h ob eo = subst (KindSound (P.parse b)) (sym (of-object h ob eo)) ((accepted_sound b dir acc).lists i).kind

    pub unions-counted : q ≡ false → (a u : ℕ) → a ≡ P.argument_at b at → u ≡ a → u < P.union_count b
    unions-counted h a u e eu = union_index b u (subst (KindSound (P.parse b)) (sym (of-union h a u e eu)) ((accepted_sound b dir acc).lists i).kind)

  module _ (o start n c : ℕ) (fits : start + T.elements_size o (P.parse b) (Sc.element_of (P.parse b) i) n ≤ c) where
    pub objects_there : q ≡ true → (ob : Object) → ob ≡ P.object_at b at → start + o * n ≤ c
    unfolding T.elements_size L.is_bool L.width
    objects_there h ob eo = subst (λ (w : Kind). start + T.elements_size o (P.parse b) w n ≤ c) (sym (of-object h ob eo)) fits

    pub unions_there : q ≡ false → (a u : ℕ) → a ≡ P.argument_at b at → u ≡ a → start + (2 + o) * n ≤ c
    unfolding T.elements_size L.is_bool L.width
    unions_there h a u e eu = subst (λ (w : Kind). start + T.elements_size o (P.parse b) w n ≤ c) (sym (of-union h a u e eu)) fits

-- ---- the choices of a list
-- the number of one is a number of 32 bits: each takes more than a byte of the message
pub choice-number : (o start n j c : ℕ) → j < n → start + (2 + o) * n ≤ c → c ≤ 16777215 → j < 2 ^ 32
choice-number o start n j c h l small = omega (arith, add-mul 2 o n)

-- no union is a struct
union_tested : (child : W.Child) (S : Schema) (m : List ℕ) (holder j : ℕ) (cases : List Object) (c x : ℕ) (v : Spent)
    → W.follow child holder j (T.struct_tested S m (T.union_step cases false 0 c x)) v ≡ W.follow child holder j (T.union_step cases false 0 c x) v
unfolding T.union_step T.struct_tested
union_tested child S m holder j cases c x v = by (eqb c 0) (leb c (length cases))
  where
    by : (t u : Bool)
        → W.follow child holder j (T.struct_tested S m (pick t St.Absent (pick u (St.Choice c (Sc.case_of cases c) (T.place_of false 0 x)) (St.Unknown c)))) v
        ≡ W.follow child holder j (pick t St.Absent (pick u (St.Choice c (Sc.case_of cases c) (T.place_of false 0 x)) (St.Unknown c))) v
    by true u = refl
    by false true = refl
    by false false = refl

choice_step : (o : ℕ) (S : Schema) (m : List ℕ) (i start j at : ℕ) → at ≡ start + (2 + o) * j
    → T.struct_tested S m (T.union_step (Sc.cases_of S i) false 0 (le m at 2) (le m (at + 2) o)) ≡ T.element_step o S m (OfUnion i) start j
unfolding T.element_step T.value_step T.element_place L.is_bool L.width
choice_step o S m i start j at ea = ap (λ (q : ℕ). T.struct_tested S m (T.union_step (Sc.cases_of S i) false 0 (le m q 2) (le m (q + 2) o))) ea

module _ (o : ℕ) (child : W.Child) (S : Schema) (m : List ℕ) (holder start i n : ℕ) (s : Spent) (j : ℕ) (v : Spent)
    (inv : W.elements child o S m holder start (OfUnion i) n 0 s ≡ W.elements child o S m holder start (OfUnion i) (n - j) j v) (h : j < n) (at : ℕ)
    (ea : at ≡ start + (2 + o) * j) (g : Outcome) (eg : walked_of g ≡ W.follow child holder j (T.union_step (Sc.cases_of S i) false 0 (le m at 2) (le m (at + 2) o)) v) where
  by-choice : walked_of g ≡ W.follow child holder j (T.element_step o S m (OfUnion i) start j) v
  by-choice = eg ∙ sym (union_tested child S m holder j (Sc.cases_of S i) (le m at 2) (le m (at + 2) o) v) ∙ ap (λ (q : Step). W.follow child holder j q v) (choice_step o S m i start j at ea)

  pub choices_stopped : (g.code ≡ 0 → ⊥) → walked_of g ≡ W.elements child o S m holder start (OfUnion i) n 0 s
  choices_stopped f = elements_stopped child o S m holder start (OfUnion i) n s j v inv h g by-choice f

  pub choices_turn : g.code ≡ 0
      → W.elements child o S m holder start (OfUnion i) n 0 s ≡ W.elements child o S m holder start (OfUnion i) (n - (j + 1)) (j + 1) (left_of g)
  choices_turn f = elements_turn child o S m holder start (OfUnion i) n s j v inv h g by-choice f

module _ (o : ℕ) (child : W.Child) (m : List ℕ) (holder j : ℕ) (cases : List Object) (at : ℕ) (s : Spent) (c : ℕ) (nc : Number m at 2 c) where
  pub choice_none : c ≡ 0 → (r : Walked) → r ≡ Ok s → r ≡ W.follow child holder j (T.union_step cases false 0 (le m at 2) (le m (at + 2) o)) s
  unfolding T.union_step W.follow
  choice_none h r f = simp (← nc.is, eq-eqb _ _ h) f

  module _ (h : c ≡ 0 → ⊥) (n : ℕ) (en : n ≡ length cases) where
    pub choice-unknown : n < c → (r : Walked) → r ≡ Ok s → r ≡ W.follow child holder j (T.union_step cases false 0 (le m at 2) (le m (at + 2) o)) s
    unfolding T.union_step W.follow
    choice-unknown l r f = simp (← nc.is, ne_eqb _ _ h, ← en, lt-leb _ _ l) f

    pub choice-known : c ≤ n → (ob : Object) → ob ≡ Sc.case_of cases c → (x : ℕ) → x ≡ le m (at + 2) o → (r : Walked)
        → r ≡ W.follow_choice child holder j ob (ByOffset x) s → r ≡ W.follow child holder j (T.union_step cases false 0 (le m at 2) (le m (at + 2) o)) s
    unfolding T.union_step T.place_of W.follow
    choice-known l ob eo x ex r f = simp (← nc.is, ← ex, ne_eqb _ _ h, ← en, le-leb _ _ l, ← eo) f

pub choice_sound : (b dir : List ℕ) → Accepted b dir → (u c n : ℕ) → (c ≡ 0 → ⊥) → n ≡ length (Sc.cases_of (P.parse b) u) → c ≤ n
    → (ob : Object) → ob ≡ Sc.case_of (Sc.cases_of (P.parse b) u) c → ObjectSound (P.parse b) ob
choice_sound b dir a u c n h en l ob e = rw e (case_sound-at (P.parse b) (accepted_sound b dir a) u c (omega arith) (omega arith))

-- ---- texts
pub references-texts : (child : W.Child) (o : ℕ) (S : Schema) (m : List ℕ) (holder start : ℕ) (ob : Object) (n : ℕ) (s : Spent) (t : Bool) → t ≡ is_text ob → t ≡ true → (r : Walked)
    → r ≡ W.elements child o S m holder start (OfObject O.Text) n 0 s → r ≡ W.elements child o S m holder start (OfObject ob) n 0 s
references-texts child o S m holder start ob n s t et h r f =
    f ∙ ap (λ (q : Object). W.elements child o S m holder start (OfObject q) n 0 s) (sym (text_only ob t et h))
