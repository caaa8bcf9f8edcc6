-- Members that lead nowhere, whatever stands there.
use Rattle.std.specs.Prelude.{Ok, Option, Some, None}
use mathlib.Core.Path.{◌≡◌, refl, sym, ap, ◌∙◌, subst}
use mathlib.Core.Bool.{Bool, true, false, ◌&&◌}
use mathlib.Core.List.{List}
use Prim.Native.Nat.{ℕ, ◌+◌, ◌*◌, ◌^◌, ◌<◌, ◌≤◌}
use native.Mathlib.Omega.{arith}
use lib.ListN.{length, get_or}
use lib.Dec.{ltb, leb, eqb}
use borrow.Author.Tests.{le-leb, lt-leb, eqb-true}
use Rattle.coding.specs.Lists.{pick}
use Rattle.coding.specs.Bytes.{le, is_nan}
use Rattle.coding.specs.Schema as Sc
use Rattle.coding.specs.Schema.{Schema}
use Rattle.coding.specs.Packed as P
use Rattle.coding.specs.Layout as L
use Rattle.coding.specs.Structs.{struct_ok}
use Rattle.coding.specs.Step as T
use Rattle.coding.specs.declared.Flat.{Flat}
use Rattle.coding.specs.declared.Flat.TheVariants as F
use Rattle.coding.specs.declared.Object.TheVariants as O
use Rattle.coding.specs.declared.Kind.{Kind}
use Rattle.coding.specs.declared.Kind.TheVariants.{OfFlat}
use Rattle.coding.specs.declared.Member.{Member}
use Rattle.coding.specs.declared.Cursor.{Cursor}
use Rattle.coding.specs.declared.Slot.{Slot}
use Rattle.coding.specs.declared.Step.{Step}
use Rattle.coding.specs.declared.Step.TheVariants as St
use Rattle.laws.specs.Lists.{never}
use Rattle.laws.specs.Sound.{ObjectSound, KindSound}
use Rattle.laws.specs.SoundAt.{struct_index, table_index}
use Rattle.schema.specs.Representatives.{Represents}
use Rattle.message_layout.specs.Bounds.{Laid, Stands}
use Rattle.message_step.specs.Lead.{lead_of}
use Rattle.judge_rows.proofs.MemberCases.{members_start, members_ended, members_done, members_nowhere}
use Rattle.judge_direct.specs.Direct.{Harmless, uncut, Quiet, Passed, Led, Onto, Silent}

-- ---- a kind
module _ (S : Schema) (k : Kind) (f : Flat) (e : k ≡ OfFlat f) where
  by-flat : ((m : List ℕ) (none : Bool) (at bit : ℕ) → lead_of (T.struct_tested S m (T.flat_step m f none at bit)) ≡ St.Absent) → Harmless S k
  unfolding T.value_step
  by-flat h = record { nowhere = λ o m none inplace tail at bit. rw e (h m none at bit) }

  pub harmless_bool : f ≡ F.Boolean → Harmless S k
  unfolding T.flat_step T.struct_tested lead_of
  harmless_bool g = by-flat (λ m none at bit. rw g refl)

  pub harmless_integer : (s : Bool) (w : ℕ) → f ≡ F.Integer s w → Harmless S k
  unfolding T.flat_step T.struct_tested lead_of
  harmless_integer s w g = by-flat (λ m none at bit. rw g refl)

  pub harmless_float : (w : ℕ) → f ≡ F.Float w → Harmless S k
  unfolding T.flat_step T.float_step T.struct_tested lead_of
  harmless_float w g = by-flat (λ m none at bit. rw g (by m at (none && is_nan w (le m at w))))
    where
      by : (m : List ℕ) (at : ℕ) (t : Bool) → lead_of (T.struct_tested S m (pick t St.Absent (St.Value (le m at w)))) ≡ St.Absent
      by m at true = refl
      by m at false = refl

  pub harmless-enum : (n : ℕ) → f ≡ F.Enumerated n → Harmless S k
  unfolding T.flat_step T.enum_step T.struct_tested lead_of
  harmless-enum n g = by-flat (λ m none at bit. rw g (by m at (eqb (get_or m at 0) 255) (ltb (get_or m at 0) n)))
    where
      by : (m : List ℕ) (at : ℕ) (t u : Bool) → lead_of (T.struct_tested S m (pick t St.Absent (pick u (St.Value (get_or m at 0)) (St.Unknown (get_or m at 0))))) ≡ St.Absent
      by m at true u = refl
      by m at false true = refl
      by m at false false = refl

  -- a struct without a bool
  pub harmless-struct : (i j r : ℕ) → f ≡ F.Struct i → j ≡ i → Represents S j r → (t : Bool) → t ≡ eqb r 65535 → t ≡ true → Harmless S k
  unfolding T.flat_step T.struct_tested lead_of
  harmless-struct i j r g ej R t et h =
      by-flat (λ m none at bit. rw g (by m at (struct_ok S m i at) (ap (λ (q : ℕ). struct_ok S m q at) (sym ej) ∙ R.none (eqb-true r 65535 (sym et ∙ h)) m at)))
    where
      by : (m : List ℕ) (at : ℕ) (u : Bool) → u ≡ true → lead_of (pick u (St.Struct i at) (St.Refused 10)) ≡ St.Absent
      by m at true q = refl
      by m at false q = never q

pub struct-counted : (b : List ℕ) (k : Kind) (f : Flat) (i j : ℕ) → KindSound (P.parse b) k → k ≡ OfFlat f → f ≡ F.Struct i → j ≡ i → j < P.struct_count b
struct-counted b k f i j h e g ej =
    let q : i < length (P.parse b).structs = subst (λ (y : Flat). KindSound (P.parse b) (OfFlat y)) g (subst (KindSound (P.parse b)) e h) in
    rw ej (struct_index b i q)

-- ---- a slot
module _ (w : ℕ) (slot : Slot) where
  pub uncut_past : w ≤ slot.at → true ≡ uncut w slot
  unfolding uncut
  uncut_past h = simp (le-leb w slot.at h)

  pub uncut-inside : slot.at < w → (r : Bool) → r ≡ leb (slot.at + slot.size) w → r ≡ uncut w slot
  unfolding uncut
  uncut-inside h r f = simp (lt-leb w slot.at h) f

-- ---- its step
inside_nowhere : (S : Schema) (m : List ℕ) (w : ℕ) (slot : Slot) (here : Step) → uncut w slot ≡ true → lead_of (T.struct_tested S m here) ≡ St.Absent
    → lead_of (T.struct_tested S m (T.inside w slot St.Absent here)) ≡ St.Absent
unfolding uncut T.inside T.struct_tested lead_of
inside_nowhere S m w slot here h e = by (leb w slot.at) (leb (slot.at + slot.size) w) h
  where
    by : (t u : Bool) → pick t true u ≡ true → lead_of (T.struct_tested S m (pick t St.Absent (pick u here (St.Refused 8)))) ≡ St.Absent
    by true u g = refl
    by false true g = e
    by false false g = never g

quiet_nowhere : (o : ℕ) (S : Schema) (m : List ℕ) (start w : ℕ) (c : Cursor) (r : Member) → Quiet S r w (L.member_slot o S r c)
    → lead_of (T.member_step o S m start w c r) ≡ St.Absent
unfolding T.member_step T.placed_step L.placement_of
quiet_nowhere o S m start w c r q =
    by (L.has_flag r) (L.member_slot o S r c) q.plain q.whole
    (q.value.nowhere o m r.optional r.inplace (start + w) (start + (L.member_slot o S r c).at) (L.member_slot o S r c).bit)
  where
    by : (f : Bool) (slot : Slot) → f ≡ false → uncut w slot ≡ true
        → lead_of (T.struct_tested S m (T.value_step o S m r.kind r.optional r.inplace (start + w) (start + slot.at) slot.bit)) ≡ St.Absent
        → lead_of
        (T.struct_tested S m
        (pick f
        (T.flagged m start w (L.bit_slot c) slot (T.value_step o S m r.kind r.optional r.inplace (start + w) (start + slot.at) slot.bit))
        (T.inside w slot St.Absent (T.value_step o S m r.kind r.optional r.inplace (start + w) (start + slot.at) slot.bit))))
        ≡ St.Absent
    by true slot e u h = never (sym e)
    by false slot e u h =
        inside_nowhere S m w slot (T.value_step o S m r.kind r.optional r.inplace (start + w) (start + slot.at) slot.bit) u h

pub quiet_is : (S : Schema) (r : Member) (w : ℕ) (slot : Slot) (f : Bool) → f ≡ L.has_flag r → f ≡ false → Harmless S r.kind → (u : Bool) → u ≡ uncut w slot → u ≡ true
    → Quiet S r w slot
quiet_is S r w slot f ef zf h u eu zu = record { plain = sym ef ∙ zf; value = h; whole = sym eu ∙ zu }

-- ---- member j of a table
pub quiet_led : (o : ℕ) (b : List ℕ) (t j w : ℕ) (c : Cursor) (r : Member) → r ≡ Sc.member_of (P.parse b) t j → Laid (4097 * j) c → (slot : Slot) (next : Cursor)
    → Stands (L.member_slot o (P.parse b) r c) (L.after_member o (P.parse b) r c) (c.end + 1) slot next → (q : Bool) → (q ≡ true → Quiet (P.parse b) r w slot) → q ≡ true → Passed o b t j w c next
quiet_led o b t j w c r er lc slot next st q h z =
    record {
      nowhere = λ m start. subst (λ (k : Member). lead_of (T.member_step o (P.parse b) m start w c k) ≡ St.Absent) er
          (quiet_nowhere o (P.parse b) m start w c r (subst (λ (k : Slot). Quiet (P.parse b) r w k) st.slot_is (h z)));
      next_is = st.next_is ∙ ap (λ (k : Member). L.after_member o (P.parse b) k c) er;
      laid = quiet_laid;
    }
  where
    quiet_laid : Laid (4097 * (j + 1)) next
    quiet_laid =
        let x = lc.end in
        let y = st.laid.end in
        record { end = omega arith; byte = st.laid.byte; bit = st.laid.bit }

pub led_passed : (o : ℕ) (b : List ℕ) (t j w : ℕ) (c : Cursor) (q : Option Cursor) (next : Cursor) → Led o b t j w c q → q ≡ Some next → Passed o b t j w c next
led_passed o b t j w c q next e z = subst (Led o b t j w c) z e

pub led_laid : (o : ℕ) (b : List ℕ) (t j w : ℕ) (c : Cursor) (q : Option Cursor) (next : Cursor) → Led o b t j w c q → q ≡ Some next → Laid (4097 * (j + 1)) next
led_laid o b t j w c q next e z = (led_passed o b t j w c q next e z).laid

-- ---- the members of a table, from member j on
module _ (o : ℕ) (b : List ℕ) (t w : ℕ) where
  pub onto_start : (c : Cursor) → c ≡ L.begin → Onto o b t w c 0
  onto_start c e = record { same = λ child m holder start s. members_start child o (P.parse b) m holder start w t s c e }

  module _ (c : Cursor) (j : ℕ) (inv : Onto o b t w c j) where
    pub onto_ended : (x : ℕ) → x ≡ L.bit_byte c → x ≤ c.end → w ≤ x → Silent o b t w
    onto_ended x ex l h =
        record {
          goes = λ child m holder start s.
              sym (members_ended child o (P.parse b) m holder start w t s c j s (inv.same child m holder start s) x ex l h (Ok s) refl);
        }

    module _ (count : ℕ) (ec : count ≡ length (Sc.table_of (P.parse b) t).members) where
      pub onto_done : count ≤ j → Silent o b t w
      onto_done h =
          record {
            goes = λ child m holder start s.
                sym (members_done child o (P.parse b) m holder start w t s c j s (inv.same child m holder start s) count ec h (Ok s) refl);
          }

      pub onto_next : j < count → (q : Option Cursor) (next : Cursor) → Led o b t j w c q → q ≡ Some next → Onto o b t w next (j + 1)
      onto_next h q next e z =
          let l : Passed o b t j w c next = led_passed o b t j w c q next e z in
          record {
            same = λ child m holder start s.
                members_nowhere child o (P.parse b) m holder start w t s c j s (inv.same child m holder start s) count ec h
                (lead_of (T.member_step o (P.parse b) m start w c (Sc.member_of (P.parse b) t j))) refl (l.nowhere m start) next l.next_is;
          }

pub laid_end : (j : ℕ) (c : Cursor) → Laid (4097 * j) c → j < 256 → c.end < 2 ^ 58
laid_end j c l h = let e = l.end in omega arith

pub same_silent : (o : ℕ) (b : List ℕ) (t i w : ℕ) → i ≡ t → Silent o b i w → Silent o b t w
same_silent o b t i w e h = subst (λ (k : ℕ). Silent o b k w) e h

pub table_there : (b : List ℕ) (t i : ℕ) → ObjectSound (P.parse b) (O.Table t) → i ≡ t → i < P.table_count b
table_there b t i h e = rw e (table_index b t h)
