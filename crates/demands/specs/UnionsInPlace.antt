-- 02, K12: "From now the writer refuses a present one under the 48-bit coding of document 000; absent is still written.", "The 32-bit
-- coding keeps them.": under the first a tree can be written exactly where it could before and has no present union in place; under
-- the second exactly where it could before.
use Rattle.std.specs.Prelude.{◌≡◌, Bool, ◌&&◌, ℕ, zero, suc, ltb}
use Rattle.std.proofs.Math.Path.{refl, sym, fun_ext}
use Rattle.std.proofs.Common.{◌∙◌}
use Rattle.std.proofs.Math.Bool.{true, false, and-true, and-false, and_assoc}
use mathlib.Core.List.{List, [], ◌∷◌}
use Rattle.std.proofs.Math.Option.{some}
use Rattle.coding.specs.Lists.{pick}
use Rattle.coding.specs.Bytes.{u48, u32, deepest}
use Rattle.coding.specs.Schema.{Schema, element_of, cases_of, case_of, table_of}
use Rattle.coding.specs.Packed.{parse}
use Rattle.coding.specs.Lawful.{lawful}
use Rattle.coding.specs.Value.{Value, Values, none, ◌then◌, as_number, as_row, as_object, present, known, first, others}
use Rattle.coding.specs.Sheet.{sheet_tree}
use Rattle.coding.specs.Message.{length_of, flat_writable, Test, keeps_unions, value_writable, members_writable, elements_writable, directs_writable, content_writable, writable, refused, written_tree, written}
use Rattle.coding.specs.declared.Object.{Object}
use Rattle.coding.specs.declared.Object.TheVariants as O
use Rattle.coding.specs.declared.Kind.{Kind}
use Rattle.coding.specs.declared.Kind.TheVariants.{OfFlat, OfObject, OfUnion}
use Rattle.coding.specs.declared.Member.{Member}

-- ---- before K12: the same tests, with every union in place kept
unfoldable pub writable_before : ℕ → ℕ → Schema → Test
writable_before zero o S ob v = false
writable_before (suc d) o S ob v = content_writable (writable_before d o S) true o S ob v

-- ---- whether a tree has no present union in place
-- a member or element; what it leads to by `child`
unfoldable pub part_free : Test → Schema → Kind → Bool → Value → Bool
part_free child S (OfFlat k) inplace v = true
part_free child S (OfObject ob) inplace v = pick (present v) (child ob v) true
part_free child S (OfUnion i) inplace v =
    pick (present v) (pick inplace false true && child (case_of (cases_of S i) (as_number v)) (as_object v)) true

unfoldable pub members_free : Test → Schema → List Member → Values → Bool
members_free child S [] vs = true
members_free child S (r ∷ rs) vs = part_free child S r.kind r.inplace (first vs) && members_free child S rs (others vs)

unfoldable pub elements_free : Test → Schema → Kind → Values → Bool
elements_free child S k none = true
elements_free child S k (v then vs) = part_free child S k false v && elements_free child S k vs

unfoldable pub directs_free : Test → ℕ → Values → Bool
directs_free child t none = true
directs_free child t (v then vs) = child (O.Table t) v && directs_free child t vs

unfoldable pub content_free : Test → Schema → Test
content_free child S O.Text v = true
content_free child S O.Bytes v = true
content_free child S (O.List i) v = elements_free child S (element_of S i) (as_row v)
content_free child S (O.Table i) v = members_free child S (table_of S i).members (as_row v)
content_free child S (O.DirectList t) v = directs_free child t (as_row v)

-- an object, with d objects of depth left, this one counted; no lawful sheet goes deeper
unfoldable pub tree_free : ℕ → Schema → Test
tree_free zero S ob v = true
tree_free (suc d) S ob v = content_free (tree_free d S) S ob v

-- ---- the two tests together are the one of now
two-and-two : (a b c d : Bool) → (a && b && (c && d)) ≡ (a && c && (b && d))
two-and-two true true c d = refl
two-and-two true false c d = sym (and-false c)
two-and-two false b c d = refl

module _ (o : ℕ) (S : Schema) (before free : Test) where
  abbrev both : Test
  both ob v = before ob v && free ob v

  object_splits : (p long rest : Bool) (ob : Object) (v : Value)
      → pick p (long && both ob v) rest ≡ (pick p (long && before ob v) rest && pick p (free ob v) true)
  object_splits true long rest ob v = sym (and_assoc long (before ob v) (free ob v))
  object_splits false long rest ob v = sym (and-true rest)

  choice_splits : (p inplace rest : Bool) (ob : Object) (v : Value)
      → pick p (pick inplace false true && both ob v) rest
      ≡ (pick p (pick inplace true true && before ob v) rest && pick p (pick inplace false true && free ob v) true)
  choice_splits true true rest ob v = sym (and-false (before ob v))
  choice_splits true false rest ob v = refl
  choice_splits false inplace rest ob v = sym (and-true rest)

  part_splits : (k : Kind) (optional inplace : Bool) (v : Value) → value_writable both false o S k optional inplace v
      ≡ (value_writable before true o S k optional inplace v && part_free free S k inplace v)
  unfolding value_writable part_free
  part_splits (OfFlat k) optional inplace v = sym (and-true (flat_writable S optional k v))
  part_splits (OfObject ob) optional inplace v = object_splits (present v) (pick inplace (ltb 0 (length_of o S ob v)) true) true ob v
  part_splits (OfUnion i) optional inplace v =
      choice_splits (present v) inplace (known v) (case_of (cases_of S i) (as_number v)) (as_object v)

  members_split : (rs : List Member) (vs : Values) → members_writable both false o S rs vs
      ≡ (members_writable before true o S rs vs && members_free free S rs vs)
  unfolding members_writable members_free
  members_split [] vs = refl
  members_split (r ∷ rs) vs =
      rw (part_splits r.kind r.optional r.inplace (first vs), members_split rs (others vs))
      (two-and-two
      (value_writable before true o S r.kind r.optional r.inplace (first vs))
      (part_free free S r.kind r.inplace (first vs))
      (members_writable before true o S rs (others vs))
      (members_free free S rs (others vs)))

  elements_split : (k : Kind) (vs : Values) → elements_writable both false o S k vs
      ≡ (elements_writable before true o S k vs && elements_free free S k vs)
  unfolding elements_writable elements_free
  elements_split k none = refl
  elements_split k (v then vs) =
      rw (part_splits k true false v, elements_split k vs)
      (two-and-two (value_writable before true o S k true false v) (part_free free S k false v)
      (elements_writable before true o S k vs) (elements_free free S k vs))

  directs_split : (t : ℕ) (vs : Values) → directs_writable both t vs ≡ (directs_writable before t vs && directs_free free t vs)
  unfolding directs_writable directs_free
  directs_split t none = refl
  directs_split t (v then vs) =
      rw (directs_split t vs)
      (two-and-two (before (O.Table t) v) (free (O.Table t) v) (directs_writable before t vs) (directs_free free t vs))

  content_splits : (ob : Object) (v : Value) → content_writable both false o S ob v
      ≡ (content_writable before true o S ob v && content_free free S ob v)
  unfolding content_writable content_free
  content_splits O.Text v = sym (and-true _)
  content_splits O.Bytes v = refl
  content_splits (O.List i) v = elements_split (element_of S i) (as_row v)
  content_splits (O.Table i) v = members_split (table_of S i).members (as_row v)
  content_splits (O.DirectList t) v = directs_split t (as_row v)

-- THE CLAIM: where unions in place are not kept, a tree can be written exactly where it could before and has none that is present,
pub writable_splits : (d o : ℕ) (S : Schema) (ob : Object) (v : Value) → keeps_unions o ≡ false
    → writable d o S ob v ≡ (writable_before d o S ob v && tree_free d S ob v)
unfolding writable writable_before tree_free
writable_splits zero o S ob v e = refl
writable_splits (suc d) o S ob v e =
    let same : writable d o S ≡ both o S (writable_before d o S) (tree_free d S) =
    fun_ext (λ k. fun_ext (λ w. writable_splits d o S k w e)) in
    rw (e, same) (content_splits o S (writable_before d o S) (tree_free d S) ob v)

-- where they are kept, exactly where it could before;
pub writable_stays : (d o : ℕ) (S : Schema) (ob : Object) (v : Value) → keeps_unions o ≡ true
    → writable d o S ob v ≡ writable_before d o S ob v
unfolding writable writable_before
writable_stays zero o S ob v e = refl
writable_stays (suc d) o S ob v e =
    let same : writable d o S ≡ writable_before d o S = fun_ext (λ k. fun_ext (λ w. writable_stays d o S k w e)) in
    rw (e, same)

-- the coding of 000 does not keep them, and the older coding does
pub writable_48 : (d : ℕ) (S : Schema) (ob : Object) (v : Value)
    → writable d u48 S ob v ≡ (writable_before d u48 S ob v && tree_free d S ob v)
unfolding keeps_unions u48
writable_48 d S ob v = writable_splits d u48 S ob v refl

pub writable_32 : (d : ℕ) (S : Schema) (ob : Object) (v : Value) → writable d u32 S ob v ≡ writable_before d u32 S ob v
unfolding keeps_unions u48 u32
writable_32 d S ob v = writable_stays d u32 S ob v refl

-- THE CLAIM: "the writer refuses a present one": a lawful sheet with a present union in place is 12
pub present_refused : (b s : List ℕ) (v : Value) → lawful u48 b ≡ true → sheet_tree (parse b) s ≡ some v
    → tree_free deepest (parse b) (O.Table (parse b).root) v ≡ false → written u48 b s ≡ refused 12
unfolding written written_tree
present_refused b s v l d f =
    let root = O.Table (parse b).root in
    let w : writable deepest u48 (parse b) root v ≡ false =
    writable_48 deepest (parse b) root v ∙ rw f (and-false (writable_before deepest u48 (parse b) root v)) in
    rw (l, d, w)
