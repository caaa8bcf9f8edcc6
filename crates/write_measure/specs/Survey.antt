-- The survey of a sheet: decode without the tree. It goes over the same bits, and keeps of each object whether it can be
-- written and how many bytes it takes. `o` is the width of an offset in bytes.
use Rattle.std.specs.Prelude.{ℕ, zero, suc, ◌+◌, ◌*◌, List, [], ◌∷◌, Bool, true, false, ◌&&◌, not, length, ltb, leb, eqb}
use Rattle.coding.specs.Lists.{pick}
use Rattle.coding.specs.Bytes.{is_nan, largest}
use Rattle.coding.specs.Schema.{Schema, struct_of, element_of, cases_of, case_of, table_of}
use Rattle.coding.specs.Structs.{by_index}
use Rattle.coding.specs.Layout.{fixed_size}
use Rattle.coding.specs.Message.{keeps_unions}
use Rattle.coding.specs.Step.{elements_size}
use Rattle.coding.specs.Sheet.{Parsed, fail, got, bind, take_number, take_bytes, unknown_enum, unmarked}
use Rattle.coding.specs.declared.Flat.{Flat}
use Rattle.coding.specs.declared.Flat.TheVariants.{Boolean, Integer, Float, Enumerated, Struct}
use Rattle.coding.specs.declared.Object.{Object}
use Rattle.coding.specs.declared.Object.TheVariants as O
use Rattle.coding.specs.declared.Kind.{Kind}
use Rattle.coding.specs.declared.Kind.TheVariants.{OfFlat, OfObject, OfUnion}
use Rattle.coding.specs.declared.Member.{Member}
use Rattle.write_text.specs.Texts.{blob_fine}
use Rattle.write_measure.specs.declared.Extent.{Extent}

-- ---- numbers
-- a count of bytes, to one past the size
unfoldable pub capped : ℕ → ℕ
capped n = pick (leb n largest) n (suc largest)

-- a number of w bits, and what a test says of it
unfoldable pub test_number : ℕ → (ℕ → Bool) → List ℕ → Parsed Bool
test_number w test xs = bind (take_number w xs) (λ x ys. got (test x) ys)

-- a number of w bits that must pass a test; the answer is the same for all that do
unfoldable pub test_if : ℕ → (ℕ → Bool) → Bool → List ℕ → Parsed Bool
test_if w ok answer xs = bind (take_number w xs) (λ x ys. pick (ok x) (got answer ys) fail)

-- a mark, and what it says comes next: the answer `none` where there is no value, an unknown number, or the value's body
unfoldable pub survey_mark : {A : Type 0} → A → (List ℕ → Parsed A) → (List ℕ → Parsed A) → List ℕ → Parsed A
survey_mark none unknown body xs =
    bind (take_number 2 xs)
    (λ mark ys. pick (eqb mark 0) (got none ys) (pick (eqb mark 1) (body ys) (pick (eqb mark 2) (unknown ys) fail)))

-- ---- flat values (bools, numbers, enums and structs, which lead to no object): whether they can be written
abbrev pub any_number : ℕ → Bool
any_number x = true

-- a float that is not a NaN where that means no value
unfoldable pub float_fine : Bool → ℕ → ℕ → Bool
float_fine optional w x = not (optional && is_nan w x)

abbrev pub below_count : ℕ → ℕ → Bool
below_count n x = ltb x n

-- a flat value of a member or an element, present, behind its mark; `inner` surveys a struct by its number
unfoldable pub survey_flat : (ℕ → List ℕ → Parsed Bool) → Bool → Flat → List ℕ → Parsed Bool
survey_flat inner optional Boolean xs = test_number 1 any_number xs
survey_flat inner optional (Integer s w) xs = test_number (8 * w) any_number xs
survey_flat inner optional (Float w) xs = test_number (8 * w) (float_fine optional w) xs
survey_flat inner optional (Enumerated n) xs = test_if 8 (below_count n) true xs
survey_flat inner optional (Struct i) xs = inner i xs

-- an enum of a struct: its mark, and its number if there is one
unfoldable pub enum_field : ℕ → List ℕ → Parsed Bool
enum_field n xs = survey_mark true (test_if 8 (unknown_enum n) false) (test_if 8 (below_count n) true) xs

-- a member of a struct
unfoldable pub survey_field : (ℕ → List ℕ → Parsed Bool) → Flat → List ℕ → Parsed Bool
survey_field inner Boolean xs = survey_flat inner false Boolean xs
survey_field inner (Integer s w) xs = survey_flat inner false (Integer s w) xs
survey_field inner (Float w) xs = survey_flat inner false (Float w) xs
survey_field inner (Enumerated n) xs = enum_field n xs
survey_field inner (Struct i) xs = survey_flat inner false (Struct i) xs

-- the members of a struct in turn; `fine`: those before can be written
unfoldable pub survey_fields : (ℕ → List ℕ → Parsed Bool) → List Flat → Bool → List ℕ → Parsed Bool
survey_fields inner [] fine xs = got fine xs
survey_fields inner (k ∷ ks) fine xs = bind (survey_field inner k xs) (λ t ys. survey_fields inner ks (fine && t) ys)

unfoldable pub survey_by : Schema → (ℕ → List ℕ → Parsed Bool) → ℕ → List ℕ → Parsed Bool
survey_by S inner i xs = survey_fields inner (struct_of S i) true xs

abbrev pub survey_nothing : List ℕ → Parsed Bool
survey_nothing xs = fail

unfoldable pub survey_struct : Schema → ℕ → List ℕ → Parsed Bool
survey_struct S i = by_index survey_nothing (survey_by S) i

-- ---- extents
-- the extent of a flat value: nothing stands in place behind it, and nothing below
unfoldable pub plain : Bool → Extent
plain fine = record { writable = fine; length = 0; width = 0; chain = 0; below = 0 }

-- an object of a length, before its parts are gone over
unfoldable pub opened : ℕ → ℕ → Extent
opened n w = record { writable = true; length = n; width = w; chain = 0; below = 0 }

-- what stands before, and one part more
unfoldable pub joined : Extent → Extent → Extent
joined a e =
    record {
      writable = a.writable && e.writable;
      length = a.length;
      width = a.width;
      chain = capped (a.chain + e.chain);
      below = capped (a.below + e.below);
    }

-- the magic and the length before an object's content. What the header of a direct list says more is counted with its content.
unfoldable pub head_size : ℕ → ℕ
head_size o = 4 + o

-- the bytes of n elements of a direct list of table t, and what its header says of them: the table's id and its full size
unfoldable pub direct_size : ℕ → Schema → ℕ → ℕ → ℕ
direct_size o S t n = 8 + n * fixed_size o S (table_of S t).members

-- what an object adds to the object that refers to it, or in which it stands; `union`: it is a union's. "a present in-place text,
-- bytes, list or table of length 0" is not writable, nor a present union in place where the coding does not keep them
unfoldable pub referred : ℕ → Bool → Bool → Extent → Extent
referred o inplace union e =
    pick inplace
    (record {
      writable = pick union (keeps_unions o) (ltb 0 e.length) && e.writable;
      length = 0;
      width = 0;
      chain = capped (e.width + e.chain);
      below = e.below;
    })
    (record {
      writable = e.writable;
      length = 0;
      width = 0;
      chain = 0;
      below = capped (head_size o + e.width + e.chain + e.below);
    })

-- ---- members, elements and objects
abbrev pub Surveyor : Type 0
Surveyor = Object → List ℕ → Parsed Extent

-- a flat value as a part of an object
unfoldable pub plain_of : Parsed Bool → Parsed Extent
plain_of p = bind p (λ t ys. got (plain t) ys)

-- an object, with what it adds to its holder
unfoldable pub survey_object : Surveyor → ℕ → Bool → Bool → Object → List ℕ → Parsed Extent
survey_object child o inplace union ob xs = bind (child ob xs) (λ e ys. got (referred o inplace union e) ys)

-- a union's known choice, and the object of that case
unfoldable pub survey_choice : Surveyor → ℕ → Bool → List Object → List ℕ → Parsed Extent
survey_choice child o inplace cases xs =
    bind (take_number 16 xs)
    (λ c ys. pick (leb 1 c && leb c (length cases)) (survey_object child o inplace true (case_of cases c) ys) fail)

-- a member or an element, present, behind its mark
unfoldable pub survey_body : Surveyor → ℕ → Schema → Kind → Bool → Bool → List ℕ → Parsed Extent
survey_body child o S (OfFlat k) optional inplace xs = plain_of (survey_flat (survey_struct S) optional k xs)
survey_body child o S (OfObject ob) optional inplace xs = survey_object child o inplace false ob xs
survey_body child o S (OfUnion i) optional inplace xs = survey_choice child o inplace (cases_of S i) xs

-- the unknown number of a flat value, which only an enum can have
unfoldable pub survey_unknown_flat : Flat → List ℕ → Parsed Bool
survey_unknown_flat Boolean xs = fail
survey_unknown_flat (Integer s w) xs = fail
survey_unknown_flat (Float w) xs = fail
survey_unknown_flat (Enumerated n) xs = test_if 8 (unknown_enum n) false xs
survey_unknown_flat (Struct i) xs = fail

abbrev pub above_count : ℕ → ℕ → Bool
above_count n c = ltb n c

-- the unknown number of a member or an element: an enum's, or a union's choice
unfoldable pub survey_unknown : Schema → Kind → List ℕ → Parsed Extent
survey_unknown S (OfFlat k) xs = plain_of (survey_unknown_flat k xs)
survey_unknown S (OfObject ob) xs = fail
survey_unknown S (OfUnion i) xs = plain_of (test_if 16 (above_count (length (cases_of S i))) false xs)

-- whether a member or an element may have no value
unfoldable pub flat_may_lack : Bool → Flat → Bool
flat_may_lack optional Boolean = optional
flat_may_lack optional (Integer s w) = optional
flat_may_lack optional (Float w) = optional
flat_may_lack optional (Enumerated n) = true
flat_may_lack optional (Struct i) = optional

unfoldable pub may_lack : Bool → Kind → Bool
may_lack optional (OfFlat k) = flat_may_lack optional k
may_lack optional (OfObject ob) = true
may_lack optional (OfUnion i) = true

-- a member or an element: its mark, and what the mark says comes next
unfoldable pub survey_part : Surveyor → ℕ → Schema → Kind → Bool → Bool → List ℕ → Parsed Extent
survey_part child o S k optional inplace xs =
    survey_mark (plain (may_lack optional k)) (survey_unknown S k) (survey_body child o S k optional inplace) xs

-- an element, with its mark if it has one
unfoldable pub survey_element : Surveyor → ℕ → Schema → Kind → List ℕ → Parsed Extent
survey_element child o S k xs = pick (unmarked k) (survey_body child o S k true false xs) (survey_part child o S k true false xs)

-- members, and elements, in turn; `a` is the extent of what stands before them
unfoldable pub survey_members : Surveyor → ℕ → Schema → List Member → Extent → List ℕ → Parsed Extent
survey_members child o S [] a xs = got a xs
survey_members child o S (r ∷ rs) a xs =
    bind (survey_part child o S r.kind r.optional r.inplace xs) (λ e ys. survey_members child o S rs (joined a e) ys)

unfoldable pub survey_elements : Surveyor → ℕ → Schema → Kind → ℕ → Extent → List ℕ → Parsed Extent
survey_elements child o S k zero a xs = got a xs
survey_elements child o S k (suc n) a xs =
    bind (survey_element child o S k xs) (λ e ys. survey_elements child o S k n (joined a e) ys)

-- the elements of a direct list of table t in turn: what stands in place behind an element stands behind the list
unfoldable pub survey_directs : Surveyor → ℕ → ℕ → Extent → List ℕ → Parsed Extent
survey_directs child t zero a xs = got a xs
survey_directs child t (suc n) a xs = bind (child (O.Table t) xs) (λ e ys. survey_directs child t n (joined a e) ys)

-- a text or bytes of n bytes l, with `more` bytes behind them
unfoldable pub blob_opened : ℕ → ℕ → List ℕ → Extent
blob_opened more n l = record { writable = blob_fine more l; length = n; width = n + more; chain = 0; below = 0 }

-- the content of a text or bytes, with `more` bytes behind its own: 1 of a text, 0 of bytes
unfoldable pub survey_blob : ℕ → List ℕ → Parsed Extent
survey_blob more xs = bind (take_number 32 xs) (λ n ys. bind (take_bytes n ys) (λ l zs. got (blob_opened more n l) zs))

unfoldable pub survey_content : Surveyor → ℕ → Schema → Object → List ℕ → Parsed Extent
survey_content child o S O.Text xs = survey_blob 1 xs
survey_content child o S O.Bytes xs = survey_blob 0 xs
survey_content child o S (O.List i) xs =
    bind (take_number 32 xs)
    (λ n ys. survey_elements child o S (element_of S i) n (opened n (elements_size o S (element_of S i) n)) ys)
survey_content child o S (O.Table i) xs =
    survey_members child o S (table_of S i).members
    (opened (fixed_size o S (table_of S i).members) (fixed_size o S (table_of S i).members)) xs
survey_content child o S (O.DirectList t) xs =
    bind (take_number 32 xs) (λ n ys. survey_directs child t n (opened n (direct_size o S t n)) ys)

-- an object's content, where d objects may stand below each other, this one counted
unfoldable pub survey : ℕ → ℕ → Schema → Object → List ℕ → Parsed Extent
survey zero o S ob xs = fail
survey (suc d) o S ob xs = survey_content (survey d o S) o S ob xs
