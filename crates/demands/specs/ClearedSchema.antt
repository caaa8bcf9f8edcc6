-- A schema in which only the in-place flag of unions is cleared (02, K12), once it is read. A sheet does not tell the two apart: each
-- tree has the same sheet by both, and each sheet the same tree. By the cleared one a tree can be written exactly where it could be
-- by the first before K12.
use Rattle.std.specs.Prelude.{◌≡◌, Bool, ltb}
use Rattle.std.proofs.Math.Path.{refl, ap, ap₂, fun_ext}
use Rattle.std.proofs.Common.{◌∙◌}
use Rattle.std.proofs.Math.Bool.{true, false, ◌&&◌, and-true, and-false}
use mathlib.Core.List.{List, [], ◌∷◌, ◌++◌, map}
use Prim.Native.Nat.{ℕ, zero, suc}
use Rattle.std.proofs.Math.ListN.{get_or-map}
use Rattle.coding.specs.Lists.{pick}
use Rattle.coding.specs.Bytes.{deepest}
use Rattle.coding.specs.Schema.{Schema, Table, struct_of, element_of, cases_of, case_of, table_of}
use Rattle.coding.specs.Structs.{struct_size, size_by}
use Rattle.coding.specs.Layout.{is_bool, width, has_flag, begin, after_bit, after_bytes, after_flag, after_value, after_member, after_members, fixed_size}
use Rattle.coding.specs.Value.{Value, Values, none, ◌then◌, row, as_number, as_row, as_object, present, first, others, count}
use Rattle.coding.specs.Bits.{bits, bits_of, packed}
use Rattle.coding.specs.Sheet.{Encoder, mark_bits, bits_by, struct_bits, body_bits, unknown_width, part_bits, unmarked, element_bits, members_bits, elements_bits, content_bits, encode, sheet_bits, sheet_of, Parsed, got, bind, take_number, take_mark, take_by, take_struct, Decoder, take_body, take_unknown, take_part, take_element, take_members, take_elements, take_content, decode, closed, tree_of, sheet_tree}
use Rattle.coding.specs.Message.{length_of, known_by, struct_known, flat_writable, Test, keeps_unions, value_writable, members_writable, elements_writable, content_writable, writable}
use Rattle.coding.specs.declared.Flat.{Flat}
use Rattle.coding.specs.declared.Flat.TheVariants as F
use Rattle.coding.specs.declared.Object.{Object}
use Rattle.coding.specs.declared.Object.TheVariants as O
use Rattle.coding.specs.declared.Kind.{Kind}
use Rattle.coding.specs.declared.Kind.TheVariants.{OfFlat, OfObject, OfUnion}
use Rattle.coding.specs.declared.Member.{Member}
use Rattle.coding.specs.declared.Cursor.{Cursor}
use Rattle.laws.specs.Sound.{All}
use Rattle.demands.specs.UnionsInPlace.{writable_before, part_free, members_free, elements_free, directs_free, content_free, tree_free, writable_splits, writable_stays}

-- ---- the cleared schema
unfoldable pub is_union : Kind → Bool
is_union (OfFlat k) = false
is_union (OfObject ob) = false
is_union (OfUnion i) = true

unfoldable pub cleared_member : Member → Member
cleared_member r = record { kind = r.kind; optional = r.optional; inplace = pick (is_union r.kind) false r.inplace }

unfoldable pub cleared_table : Table → Table
cleared_table t = record { id = t.id; members = map cleared_member t.members }

unfoldable pub cleared_schema : Schema → Schema
cleared_schema S =
    record {
      structs = S.structs;
      lists = S.lists;
      unions = S.unions;
      tables = map cleared_table S.tables;
      root = S.root;
    }

pub table_cleared : (S : Schema) (i : ℕ) → table_of (cleared_schema S) i ≡ cleared_table (table_of S i)
unfolding table_of cleared_schema cleared_table
table_cleared S i = get_or-map cleared_table S.tables i (record { id = 0; members = [] })

members_cleared : (S : Schema) (i : ℕ) → (table_of (cleared_schema S) i).members ≡ map cleared_member (table_of S i).members
unfolding cleared_table
members_cleared S i = ap (λ (t : Table). t.members) (table_cleared S i)

-- ---- a tree's sheet
module _ (S : Schema) (child : Encoder) where
  body_same : (k : Kind) (v : Value) → body_bits child (cleared_schema S) k v ≡ body_bits child S k v
  unfolding body_bits struct_bits bits_by struct_of cases_of cleared_schema
  body_same (OfFlat k) v = refl
  body_same (OfObject ob) v = refl
  body_same (OfUnion i) v = refl

  part_same : (k : Kind) (v : Value) → part_bits child (cleared_schema S) k v ≡ part_bits child S k v
  unfolding part_bits
  part_same k v = ap (λ (f : Value → List ℕ). mark_bits (unknown_width k) f v) (fun_ext (body_same k))

  element-same : (k : Kind) (v : Value) → element_bits child (cleared_schema S) k v ≡ element_bits child S k v
  unfolding element_bits
  element-same k v = ap₂ (pick (unmarked k)) (body_same k v) (part_same k v)

  elements_same : (k : Kind) (vs : Values) → elements_bits child (cleared_schema S) k vs ≡ elements_bits child S k vs
  unfolding elements_bits
  elements_same k none = refl
  elements_same k (v then vs) = ap₂ ◌++◌ (element-same k v) (elements_same k vs)

  members-same : (rs : List Member) (vs : Values) → members_bits child (cleared_schema S) (map cleared_member rs) vs ≡ members_bits child S rs vs
  unfolding members_bits cleared_member
  members-same [] vs = refl
  members-same (r ∷ rs) vs = ap₂ ◌++◌ (part_same r.kind (first vs)) (members-same rs (others vs))

  content-same : (ob : Object) (v : Value) → content_bits child (cleared_schema S) ob v ≡ content_bits child S ob v
  unfolding content_bits element_of cleared_schema
  content-same O.Text v = refl
  content-same O.Bytes v = refl
  content-same (O.List i) v = ap (λ (xs : List ℕ). bits_of 32 (count (as_row v)) ++ xs) (elements_same (element_of S i) (as_row v))
  content-same (O.Table i) v =
      ap (λ (rs : List Member). members_bits child (cleared_schema S) rs (as_row v)) (members_cleared S i)
      ∙ members-same (table_of S i).members (as_row v)
  content-same (O.DirectList t) v = refl

pub encode_same : (d : ℕ) (S : Schema) (ob : Object) (v : Value) → encode d (cleared_schema S) ob v ≡ encode d S ob v
unfolding encode
encode_same zero S ob v = refl
encode_same (suc d) S ob v =
    let same : encode d (cleared_schema S) ≡ encode d S = fun_ext (λ k. fun_ext (λ w. encode_same d S k w)) in
    ap (λ (f : Encoder). content_bits f (cleared_schema S) ob v) same ∙ content-same S (encode d S) ob v

-- a tree has the same sheet by both
pub sheet-same : (S : Schema) (v : Value) → sheet_of (cleared_schema S) v ≡ sheet_of S v
unfolding sheet_of sheet_bits cleared_schema
sheet-same S v = ap packed (encode_same deepest S (O.Table S.root) v)

-- ---- a sheet's tree
module _ (S : Schema) (child : Decoder) where
  takes-body : (k : Kind) (xs : List ℕ) → take_body child (cleared_schema S) k xs ≡ take_body child S k xs
  unfolding take_body take_struct take_by struct_of cases_of cleared_schema
  takes-body (OfFlat k) xs = refl
  takes-body (OfObject ob) xs = refl
  takes-body (OfUnion i) xs = refl

  takes-unknown : (k : Kind) (xs : List ℕ) → take_unknown (cleared_schema S) k xs ≡ take_unknown S k xs
  unfolding take_unknown cases_of cleared_schema
  takes-unknown (OfFlat k) xs = refl
  takes-unknown (OfObject ob) xs = refl
  takes-unknown (OfUnion i) xs = refl

  takes_part : (k : Kind) (xs : List ℕ) → take_part child (cleared_schema S) k xs ≡ take_part child S k xs
  unfolding take_part
  takes_part k xs =
      ap₂ (λ (f g : List ℕ → Parsed Value). take_mark f g xs) (fun_ext (takes-unknown k)) (fun_ext (takes-body k))

  takes-element : (k : Kind) (xs : List ℕ) → take_element child (cleared_schema S) k xs ≡ take_element child S k xs
  unfolding take_element
  takes-element k xs = ap₂ (pick (unmarked k)) (takes-body k xs) (takes_part k xs)

  takes-elements : (k : Kind) (n : ℕ) (xs : List ℕ) → take_elements child (cleared_schema S) k n xs ≡ take_elements child S k n xs
  unfolding take_elements
  takes-elements k zero xs = refl
  takes-elements k (suc n) xs =
      ap₂ (λ (g : Parsed Value) (f : List ℕ → Parsed Values). bind g (λ v ys. bind (f ys) (λ vs zs. got (v then vs) zs)))
      (takes-element k xs) (fun_ext (takes-elements k n))

  takes-members : (rs : List Member) (xs : List ℕ) → take_members child (cleared_schema S) (map cleared_member rs) xs ≡ take_members child S rs xs
  unfolding take_members cleared_member
  takes-members [] xs = refl
  takes-members (r ∷ rs) xs =
      ap₂ (λ (g : Parsed Value) (f : List ℕ → Parsed Values). bind g (λ v ys. bind (f ys) (λ vs zs. got (v then vs) zs)))
      (takes_part r.kind xs) (fun_ext (takes-members rs))

  takes-content : (ob : Object) (xs : List ℕ) → take_content child (cleared_schema S) ob xs ≡ take_content child S ob xs
  unfolding take_content element_of cleared_schema
  takes-content O.Text xs = refl
  takes-content O.Bytes xs = refl
  takes-content (O.List i) xs =
      ap (λ (f : ℕ → List ℕ → Parsed Values). bind (take_number 32 xs) (λ n ys. bind (f n ys) (λ vs zs. got (row vs) zs)))
      (fun_ext (λ n. fun_ext (takes-elements (element_of S i) n)))
  takes-content (O.Table i) xs =
      ap (λ (g : Parsed Values). bind g (λ vs ys. got (row vs) ys))
      (ap (λ (rs : List Member). take_members child (cleared_schema S) rs xs) (members_cleared S i) ∙ takes-members (table_of S i).members xs)
  takes-content (O.DirectList t) xs = refl

pub decode-same : (d : ℕ) (S : Schema) (ob : Object) (xs : List ℕ) → decode d (cleared_schema S) ob xs ≡ decode d S ob xs
unfolding decode
decode-same zero S ob xs = refl
decode-same (suc d) S ob xs =
    let same : decode d (cleared_schema S) ≡ decode d S = fun_ext (λ k. fun_ext (λ w. decode-same d S k w)) in
    ap (λ (f : Decoder). take_content f (cleared_schema S) ob xs) same ∙ takes-content S (decode d S) ob xs

-- a sheet has the same tree by both, or none, with or without the limit on its size
pub tree-same : (S : Schema) (s : List ℕ) → tree_of (cleared_schema S) s ≡ tree_of S s
unfolding tree_of cleared_schema
tree-same S s = ap closed (decode-same deepest S (O.Table S.root) (bits s))

pub sheet_tree-same : (S : Schema) (s : List ℕ) → sheet_tree (cleared_schema S) s ≡ sheet_tree S s
unfolding sheet_tree
sheet_tree-same S s = rw (tree-same S s)

-- ---- what can be written
-- the fixed part has the same bytes
width_same : (o : ℕ) (S : Schema) (k : Kind) → width o (cleared_schema S) k ≡ width o S k
unfolding width struct_size size_by struct_of cleared_schema
width_same o S (OfFlat k) = refl
width_same o S (OfObject ob) = refl
width_same o S (OfUnion i) = refl

member-same : (o : ℕ) (S : Schema) (r : Member) (c : Cursor)
    → after_member o (cleared_schema S) (cleared_member r) c ≡ after_member o S r c
unfolding after_member after_value after_flag has_flag cleared_member
member-same o S r c =
    ap (λ (w : ℕ). pick (is_bool r.kind) (after_bit (after_flag r c)) (after_bytes w (after_flag r c))) (width_same o S r.kind)

after_same : (o : ℕ) (S : Schema) (rs : List Member) (c : Cursor)
    → after_members o (cleared_schema S) (map cleared_member rs) c ≡ after_members o S rs c
unfolding after_members
after_same o S [] c = refl
after_same o S (r ∷ rs) c =
    ap (after_members o (cleared_schema S) (map cleared_member rs)) (member-same o S r c) ∙ after_same o S rs (after_member o S r c)

fixed_same : (o : ℕ) (S : Schema) (i : ℕ)
    → fixed_size o (cleared_schema S) (table_of (cleared_schema S) i).members ≡ fixed_size o S (table_of S i).members
unfolding fixed_size
fixed_same o S i =
    ap (λ (rs : List Member). (after_members o (cleared_schema S) rs begin).end) (members_cleared S i)
    ∙ ap (λ (c : Cursor). c.end) (after_same o S (table_of S i).members begin)

length-same : (o : ℕ) (S : Schema) (ob : Object) (v : Value) → length_of o (cleared_schema S) ob v ≡ length_of o S ob v
unfolding length_of
length-same o S O.Text v = refl
length-same o S O.Bytes v = refl
length-same o S (O.List i) v = refl
length-same o S (O.Table i) v = fixed_same o S i
length-same o S (O.DirectList t) v = refl

module _ (o : ℕ) (S : Schema) (child : Test) where
  flat-before : (optional : Bool) (k : Flat) (v : Value) → flat_writable (cleared_schema S) optional k v ≡ flat_writable S optional k v
  unfolding flat_writable struct_known known_by struct_of cleared_schema
  flat-before optional F.Boolean v = refl
  flat-before optional (F.Integer s w) v = refl
  flat-before optional (F.Float w) v = refl
  flat-before optional (F.Enumerated n) v = refl
  flat-before optional (F.Struct i) v = refl

  either_way : (t : Bool) → pick t true true ≡ true
  either_way true = refl
  either_way false = refl

  part-before : (k : Kind) (optional inplace : Bool) (v : Value)
      → value_writable child true o (cleared_schema S) k optional (pick (is_union k) false inplace) v ≡ value_writable child true o S k optional inplace v
  unfolding value_writable is_union cases_of cleared_schema
  part-before (OfFlat k) optional inplace v = flat-before optional k v
  part-before (OfObject ob) optional inplace v =
      ap (λ (n : ℕ). pick (present v) (pick inplace (ltb 0 n) true && child ob v) true) (length-same o S ob v)
  part-before (OfUnion i) optional inplace v = rw (either_way inplace)

  members-before : (rs : List Member) (vs : Values)
      → members_writable child true o (cleared_schema S) (map cleared_member rs) vs ≡ members_writable child true o S rs vs
  unfolding members_writable cleared_member
  members-before [] vs = refl
  members-before (r ∷ rs) vs = ap₂ ◌&&◌ (part-before r.kind r.optional r.inplace (first vs)) (members-before rs (others vs))

  element-before : (k : Kind) (v : Value) → value_writable child true o (cleared_schema S) k true false v ≡ value_writable child true o S k true false v
  unfolding value_writable cases_of cleared_schema
  element-before (OfFlat k) v = flat-before true k v
  element-before (OfObject ob) v = refl
  element-before (OfUnion i) v = refl

  elements-before : (k : Kind) (vs : Values)
      → elements_writable child true o (cleared_schema S) k vs ≡ elements_writable child true o S k vs
  unfolding elements_writable
  elements-before k none = refl
  elements-before k (v then vs) = ap₂ ◌&&◌ (element-before k v) (elements-before k vs)

  content-before : (ob : Object) (v : Value) → content_writable child true o (cleared_schema S) ob v ≡ content_writable child true o S ob v
  unfolding content_writable element_of cleared_schema
  content-before O.Text v = refl
  content-before O.Bytes v = refl
  content-before (O.List i) v = elements-before (element_of S i) (as_row v)
  content-before (O.Table i) v =
      ap (λ (rs : List Member). members_writable child true o (cleared_schema S) rs (as_row v)) (members_cleared S i)
      ∙ members-before (table_of S i).members (as_row v)
  content-before (O.DirectList t) v = refl

pub before_same : (d o : ℕ) (S : Schema) (ob : Object) (v : Value) → writable_before d o (cleared_schema S) ob v ≡ writable_before d o S ob v
unfolding writable_before
before_same zero o S ob v = refl
before_same (suc d) o S ob v =
    let same : writable_before d o (cleared_schema S) ≡ writable_before d o S = fun_ext (λ k. fun_ext (λ w. before_same d o S k w)) in
    ap (λ (f : Test). content_writable f true o (cleared_schema S) ob v) same ∙ content-before o S (writable_before d o S) ob v

-- ---- a schema without unions in place
-- no member of a table is a union in place
abbrev pub NotInplaceUnion : Member → Type 0
NotInplaceUnion r = (is_union r.kind && r.inplace) ≡ false

pub record NoInplaceUnions (S : Schema) : Type 0 where
  pub tables : (i : ℕ) → All NotInplaceUnion (table_of S i).members

members_free_lem : (rs : List Member) → All NotInplaceUnion (map cleared_member rs)
unfolding cleared_member
members_free_lem [] = tt
members_free_lem (r ∷ rs) = (by (is_union r.kind), members_free_lem rs)
  where
    by : (t : Bool) → (t && pick t false r.inplace) ≡ false
    by true = refl
    by false = refl

-- the cleared schema is one
pub cleared_none : (S : Schema) → NoInplaceUnions (cleared_schema S)
cleared_none S = record { tables = λ i. rw (members_cleared S i) (members_free_lem (table_of S i).members) }

module _ (S : Schema) (free : Test) (below : (ob : Object) (v : Value) → free ob v ≡ true) where
  present_free : (p : Bool) (ob : Object) (v : Value) → pick p (free ob v) true ≡ true
  present_free true ob v = below ob v
  present_free false ob v = refl

  part_free_lem : (k : Kind) (inplace : Bool) (v : Value) → (is_union k && inplace) ≡ false → part_free free S k inplace v ≡ true
  unfolding part_free is_union
  part_free_lem (OfFlat k) inplace v e = refl
  part_free_lem (OfObject ob) inplace v e = present_free (present v) ob v
  part_free_lem (OfUnion i) inplace v e = rw e (present_free (present v) (case_of (cases_of S i) (as_number v)) (as_object v))

  all_free : (rs : List Member) (vs : Values) → All NotInplaceUnion rs → members_free free S rs vs ≡ true
  unfolding members_free
  all_free [] vs h = refl
  all_free (r ∷ rs) vs h = rw (part_free_lem r.kind r.inplace (first vs) h.0) (all_free rs (others vs) h.1)

  no-union : (k : Kind) → (is_union k && false) ≡ false
  no-union k = and-false (is_union k)

  elements_free_lem : (k : Kind) (vs : Values) → elements_free free S k vs ≡ true
  unfolding elements_free
  elements_free_lem k none = refl
  elements_free_lem k (v then vs) = rw (part_free_lem k false v (no-union k)) (elements_free_lem k vs)

  directs_free_lem : (t : ℕ) (vs : Values) → directs_free free t vs ≡ true
  unfolding directs_free
  directs_free_lem t none = refl
  directs_free_lem t (v then vs) = rw (below (O.Table t) v) (directs_free_lem t vs)

  content_free_lem : NoInplaceUnions S → (ob : Object) (v : Value) → content_free free S ob v ≡ true
  unfolding content_free
  content_free_lem h O.Text v = refl
  content_free_lem h O.Bytes v = refl
  content_free_lem h (O.List i) v = elements_free_lem (element_of S i) (as_row v)
  content_free_lem h (O.Table i) v = all_free (table_of S i).members (as_row v) (h.tables i)
  content_free_lem h (O.DirectList t) v = directs_free_lem t (as_row v)

tree_free_lem : (d : ℕ) (S : Schema) → NoInplaceUnions S → (ob : Object) (v : Value) → tree_free d S ob v ≡ true
unfolding tree_free
tree_free_lem zero S h ob v = refl
tree_free_lem (suc d) S h ob v = content_free_lem S (tree_free d S) (tree_free_lem d S h) h ob v

-- THE CLAIM: by a schema without unions in place a tree can be written exactly where it could before K12, under every coding,
pub writable_as-before : (d o : ℕ) (S : Schema) → NoInplaceUnions S → (ob : Object) (v : Value)
    → writable d o S ob v ≡ writable_before d o S ob v
writable_as-before d o S h ob v = by (keeps_unions o) refl
  where
    by : (t : Bool) → keeps_unions o ≡ t → writable d o S ob v ≡ writable_before d o S ob v
    by true e = writable_stays d o S ob v e
    by false e = writable_splits d o S ob v e ∙ rw (tree_free_lem d S h ob v) (and-true (writable_before d o S ob v))

-- and by the cleared schema exactly where it could by the first
pub cleared-writable : (d o : ℕ) (S : Schema) (ob : Object) (v : Value)
    → writable d o (cleared_schema S) ob v ≡ writable_before d o S ob v
cleared-writable d o S ob v = writable_as-before d o (cleared_schema S) (cleared_none S) ob v ∙ before_same d o S ob v
