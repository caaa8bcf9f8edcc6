-- What the contracts of this crate say, in few words: the survey of each part by the schema's bytes b, and a function's answer
-- for the sheet s from bit `pos` on. `o` is the width of an offset in bytes; d objects may stand below.
use Rattle.std.specs.Prelude.{ℕ, ◌*◌, ◌≤◌, List, Bool, true, false, length, drop, ◌≡◌, Option, MatchOption}
use Rattle.coding.specs.Bits.{bits}
use Rattle.coding.specs.Schema.{cases_of, table_of}
use Rattle.coding.specs.Packed.{parse, optional_at, inplace_at, flat_at, object_at, member_at}
use Rattle.coding.specs.Layout.{fixed_size}
use Rattle.coding.specs.Sheet.{Parsed, fail}
use Rattle.coding.specs.declared.Flat.{Flat}
use Rattle.coding.specs.declared.Object.{Object}
use Rattle.coding.specs.declared.Kind.{Kind}
use Rattle.coding.specs.declared.Kind.TheVariants.{OfObject}
use Rattle.write_measure.specs.Survey.{test_if, above_count, survey_flat, survey_field, survey_struct, survey_object, survey_choice, survey_body, survey_unknown, survey_part, survey_members, survey_elements, survey_directs, survey_content, survey}
use Rattle.write_measure.specs.Surveyed.{TestedIn, SurveyedIn}
use Rattle.write_measure.specs.SimpleMembers.{flat_part, joined_part, LeftIn}
use Rattle.write_measure.specs.Marks.{mark_of, MarkedAt}
use Rattle.write_measure.specs.declared.Extent.{Extent}
use Rattle.write_measure.specs.declared.Tested.{Tested}
use Rattle.write_measure.specs.declared.Surveyed.{Surveyed}
use Rattle.write_measure.specs.declared.Left.{Left}
use Rattle.write_measure.specs.declared.Marked.{Marked}

-- ---- what leads to no object
module _ (b : List ℕ) where
  abbrev pub struct : ℕ → List ℕ → Parsed Bool
  struct i xs = survey_struct (parse b) i xs

  -- a member of a struct
  abbrev pub field : Flat → List ℕ → Parsed Bool
  field k xs = survey_field (survey_struct (parse b)) k xs

  abbrev pub flat : Bool → Flat → List ℕ → Parsed Bool
  flat optional k xs = survey_flat (survey_struct (parse b)) optional k xs

  -- the flat member of the record at `at`, present; and with its mark
  abbrev pub flat_body : ℕ → List ℕ → Parsed Bool
  flat_body at xs = survey_flat (survey_struct (parse b)) (optional_at b at) (flat_at b at) xs

  abbrev pub flat_marked : ℕ → List ℕ → Parsed Bool
  flat_marked at xs = flat_part (survey_struct (parse b)) (optional_at b at) (flat_at b at) xs

  -- a flat element with its mark
  abbrev pub flat_element : Flat → List ℕ → Parsed Bool
  flat_element k xs = flat_part (survey_struct (parse b)) true k xs

  -- an unknown choice of union u; and the unknown number of a member or element
  abbrev pub unknown_choice : ℕ → List ℕ → Parsed Bool
  unknown_choice u xs = test_if 16 (above_count (length (cases_of (parse b) u))) false xs

  abbrev pub unknown : Kind → List ℕ → Parsed Extent
  unknown k xs = survey_unknown (parse b) k xs

-- the size of table t's full fixed part
abbrev pub fixed : ℕ → List ℕ → ℕ → ℕ
fixed o b t = fixed_size o (parse b) (table_of (parse b) t).members

-- ---- members, elements and objects
module _ (o d : ℕ) (b : List ℕ) where
  abbrev pub object : Object → List ℕ → Parsed Extent
  object ob xs = survey d o (parse b) ob xs

  -- an object with what it adds to the one that holds it
  abbrev pub held : Bool → Bool → Object → List ℕ → Parsed Extent
  held inplace union ob xs = survey_object (survey d o (parse b)) o inplace union ob xs

  -- a known choice of union u
  abbrev pub choice : Bool → ℕ → List ℕ → Parsed Extent
  choice inplace u xs = survey_choice (survey d o (parse b)) o inplace (cases_of (parse b) u) xs

  -- a member or element, present; and with its mark
  abbrev pub body : Kind → Bool → Bool → List ℕ → Parsed Extent
  body k optional inplace xs = survey_body (survey d o (parse b)) o (parse b) k optional inplace xs

  abbrev pub part : Kind → Bool → Bool → List ℕ → Parsed Extent
  part k optional inplace xs = survey_part (survey d o (parse b)) o (parse b) k optional inplace xs

  -- the text or bytes of the record at `at`; and any member, with what stands before it
  abbrev pub blob_member : ℕ → List ℕ → Parsed Extent
  blob_member at xs = survey_part (survey d o (parse b)) o (parse b) (OfObject (object_at b at)) false (inplace_at b at) xs

  abbrev pub member : ℕ → Extent → List ℕ → Parsed Extent
  member at a xs = joined_part (survey d o (parse b)) o (parse b) (member_at b at) a xs

  -- the members of table t from `from` on, with what stands before them
  abbrev pub members : ℕ → ℕ → Extent → List ℕ → Parsed Extent
  members t from a xs = survey_members (survey d o (parse b)) o (parse b) (drop from (table_of (parse b) t).members) a xs

  -- n elements of kind k, with what stands before them
  abbrev pub elements : Kind → ℕ → Extent → List ℕ → Parsed Extent
  elements k n a xs = survey_elements (survey d o (parse b)) o (parse b) k n a xs

  -- n elements of a direct list of table t, with what stands before them
  abbrev pub directs : ℕ → ℕ → Extent → List ℕ → Parsed Extent
  directs t n a xs = survey_directs (survey d o (parse b)) t n a xs

  abbrev pub content : Object → List ℕ → Parsed Extent
  content ob xs = survey_content (survey d o (parse b)) o (parse b) ob xs

-- ---- answers: none where the sheet is not lawful
abbrev pub Marks : List ℕ → ℕ → Option Marked → Type 0
Marks s pos r = MatchOption r (mark_of (drop pos (bits s)) ≡ fail) (MarkedAt s pos)

abbrev pub Tests : List ℕ → ℕ → (List ℕ → Parsed Bool) → Option Tested → Type 0
Tests s pos f r = TestedIn s (f (drop pos (bits s))) r

abbrev pub Surveys : List ℕ → ℕ → (List ℕ → Parsed Extent) → Option Surveyed → Type 0
Surveys s pos f r = SurveyedIn s (f (drop pos (bits s))) r

-- some members of table t from `from` on are gone over
abbrev pub Leaves : ℕ → ℕ → List ℕ → ℕ → ℕ → Extent → List ℕ → ℕ → Option Left → Type 0
Leaves o d b t from a s pos r =
    LeftIn (survey d o (parse b)) o (parse b) (table_of (parse b) t).members s from (members o d b t from a (drop pos (bits s))) r

-- bit `pos` of the sheet s stands in it, or at its end; and s is within the size
abbrev pub Inside : List ℕ → ℕ → Type 0
Inside s pos = (length s ≤ 16777215) × (pos ≤ 8 * length s)
