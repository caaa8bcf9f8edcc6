-- What stands at the directory's places is what the typed schema has there.
use mathlib.Core.Path.{◌≡◌, refl, sym, ap, ◌∙◌, subst}
use mathlib.Core.List.{List}
use Prim.Native.Nat.{ℕ, ◌+◌, ◌-◌, ◌*◌, ◌<◌, ◌≤◌}
use native.Mathlib.Omega.{arith}
use lib.ListN.{length, get_or}
use Rattle.coding.specs.Packed as P
use Rattle.coding.specs.Schema as Sc
use Rattle.coding.specs.Structs as S
use Rattle.coding.specs.declared.Flat.{Flat}
use Rattle.coding.specs.declared.Object.{Object}
use Rattle.coding.specs.declared.Kind.{Kind}
use Rattle.coding.specs.declared.Member.{Member}
use Rattle.laws.specs.Parsed as Pa
use Rattle.laws.specs.Rules.{struct_small}
use Rattle.laws.specs.Sound.{MemberSound}
use Rattle.laws.specs.SoundAt.{member_sound-at}
use Rattle.schema.specs.Directory.{Block, Accepted, accepted_sound, accepted_formed}
use Rattle.schema.specs.Representatives.{Represents}

module _ (b : List ℕ) (i at : ℕ) where
  -- ---- a struct's fields
  module _ (l : i < P.struct_count b) (B : Block b 0 (P.struct_place b i) at) where
    struct-records : length (Sc.struct_of (P.parse b) i) ≡ P.records b 0 at
    struct-records = Pa.struct-length b i l ∙ ap (P.records b 0) (sym B.is)

    pub field-count_is : (r : ℕ) → r ≡ P.records b 0 at → r ≡ length (Sc.struct_of (P.parse b) i)
    field-count_is r e = e ∙ sym struct-records

    module _ (j p : ℕ) (m : j < length (Sc.struct_of (P.parse b) i)) where
      pub field-inside : p ≡ at + 0 + 1 + 2 * j → p + 1 < length b
      field-inside e = omega (arith, struct-records, B.inside)

      pub field_is : (r : Flat) → p ≡ P.record_place 0 at j → r ≡ P.flat_at b p → r ≡ Sc.field_of (P.parse b) i j
      field_is r ep er =
          er ∙ rw (ep, B.is) (sym (Pa.field_at b i j l (omega (arith, Pa.struct-length b i l))))

  -- ---- a union's cases
  module _ (l : i < P.union_count b) (B : Block b 0 (P.union_place b i) at) where
    union-records : length (Sc.cases_of (P.parse b) i) ≡ P.records b 0 at
    union-records = Pa.cases-length b i l ∙ ap (P.records b 0) (sym B.is)

    pub case-count_is : (r : ℕ) → r ≡ P.records b 0 at → r ≡ length (Sc.cases_of (P.parse b) i)
    case-count_is r e = e ∙ sym union-records

    module _ (c p : ℕ) (some : 0 < c) (m : c ≤ length (Sc.cases_of (P.parse b) i)) where
      pub case-inside : p ≡ at + 0 + 1 + 2 * (c - 1) → p + 1 < length b
      case-inside e = omega (arith, union-records, B.inside)

      pub case_is : (r : Object) → p ≡ P.record_place 0 at (c - 1) → r ≡ P.object_at b p → r ≡ Sc.case_of (Sc.cases_of (P.parse b) i) c
      case_is r ep er =
          let q : c - 1 + 1 ≡ c = omega arith in
          let h : Sc.case_of (Sc.cases_of (P.parse b) i) (c - 1 + 1) ≡ P.object_at b (P.record_place 0 (P.union_place b i) (c - 1)) =
          Pa.case_at b i (c - 1) l (omega (arith, Pa.cases-length b i l)) in
          er ∙ rw (ep, B.is) (sym (rw q at h))

  -- ---- a table
  module _ (l : i < P.table_count b) (B : Block b 4 (P.table_place b i) at) where
    table-records : length (Sc.table_of (P.parse b) i).members ≡ P.records b 4 at
    table-records = Pa.members-length b i l ∙ ap (P.records b 4) (sym B.is)

    pub member-count_is : (r : ℕ) → r ≡ P.records b 4 at → r ≡ length (Sc.table_of (P.parse b) i).members
    member-count_is r e = e ∙ sym table-records

    pub table_id_is : (r : ℕ) → r ≡ P.id_at b at → r ≡ (Sc.table_of (P.parse b) i).id
    table_id_is r e = e ∙ rw B.is (sym (Pa.id-at b i l))

    module _ (j p : ℕ) (m : j < length (Sc.table_of (P.parse b) i).members) where
      pub member-inside : p ≡ at + 4 + 1 + 2 * j → p + 1 < length b
      member-inside e = omega (arith, table-records, B.inside)

      pub member_is : (r : Member) → p ≡ P.record_place 4 at j → r ≡ P.member_at b p → r ≡ Sc.member_of (P.parse b) i j
      member_is r ep er =
          er ∙ rw (ep, B.is) (sym (Pa.member-at b i j l (omega (arith, Pa.members-length b i l))))

  -- ---- a list's element
  pub element_is : i < P.list_count b → (r : Kind) → at ≡ P.list_place b i → r ≡ P.element_at b at → r ≡ Sc.element_of (P.parse b) i
  element_is l r ea er = er ∙ rw ea (sym (Pa.element-at b i l))

pub root_is : (b : List ℕ) (r : ℕ) → r ≡ get_or b 4 0 → r ≡ (P.parse b).root
unfolding P.parse
root_is b r e = e

module _ (b dir : List ℕ) (s r : ℕ) (A : Accepted b dir) (l : s < P.struct_count b) where
  pub size_is : r ≡ get_or dir (256 + s) 0 → r ≡ S.struct_size (P.parse b) s
  size_is e = e ∙ A.sizes s l

  pub size_small : r ≡ get_or dir (256 + s) 0 → r ≤ 4096
  size_small e = let q : r ≡ S.struct_size (P.parse b) s = size_is e in omega (arith, struct_small b (accepted_formed b dir A) s l)

  pub representative_is : r ≡ get_or dir (320 + s) 0 → Represents (P.parse b) s r
  representative_is e = subst (Represents (P.parse b) s) (sym e) (A.representatives s l)

-- ---- the record of a member
module _ (b : List ℕ) (t j first r : ℕ) (l : t < P.table_count b) (B : Block b 4 (P.table_place b t) first) (m : j < length (Sc.table_of (P.parse b) t).members)
    (e : r ≡ P.record_place 4 first j) where
  pub record_is : P.member_at b r ≡ Sc.member_of (P.parse b) t j
  record_is = member_is b t first l B j r m (P.member_at b r) e refl

  pub record-stands : (dir : List ℕ) → Accepted b dir → MemberSound (P.parse b) (P.member_at b r)
  record-stands dir a = rw record_is (member_sound-at (P.parse b) (accepted_sound b dir a) t j m)
