-- 02, K13, of three schemas, each appending to the one before, and bytes that the newest accepts: "the newest sheet cut down to the
-- middle schema and then to the oldest, as demand 3 does it, equals the newest cut down to the oldest at once, and both are the oldest
-- reader's sheet". Under either coding, as trees of any bytes and as sheets.
use Rattle.std.specs.Prelude.{ℕ, List, ◌≡◌}
use Rattle.std.proofs.Common.{sym, ap, ◌∙◌}
use Rattle.coding.specs.Bytes.{deepest}
use Rattle.coding.specs.Packed.{parse}
use Rattle.coding.specs.Value.{Value}
use Rattle.coding.specs.Read.{message_read}
use Rattle.coding.specs.Walk.{verdict}
use Rattle.coding.specs.Message.{message_sheet}
use Rattle.coding.specs.Append.{Appends, without, sheet_without}
use Rattle.coding.specs.declared.Object.TheVariants as Ob
use Rattle.coding.specs.declared.Budget.{Budget}
use Rattle.demands.specs.Appending.{AreBytes, OlderAgrees, older_reads, older_agrees}
use Rattle.demands.specs.AppendsTwice.{appends-twice}

-- a tree of the newer "without the appended members", by the older schema
abbrev pub cut : List ℕ → Value → Value
cut older v = without deepest (parse older) (Ob.Table (parse older).root) v

-- ---- trees, of any bytes
module _ (o : ℕ) (oldest middle newest : List ℕ) (oldest-bytes : AreBytes oldest) (middle-bytes : AreBytes middle)
    (first : Appends o oldest middle) (second : Appends o middle newest) (m : List ℕ) where
  pub three_trees : (message_read o (parse oldest) m ≡ cut oldest (cut middle (message_read o (parse newest) m)))
      × (message_read o (parse oldest) m ≡ cut oldest (message_read o (parse newest) m))
  three_trees = (
    older_reads o oldest middle oldest-bytes first m ∙ ap (cut oldest) (older_reads o middle newest middle-bytes second m),
    older_reads o oldest newest oldest-bytes (appends-twice o oldest middle newest first second) m,
  )

-- ---- sheets, of what the newest accepts
pub record ThreeAgree (o : ℕ) (oldest middle newest m : List ℕ) (b : Budget) : Type 0 where
  -- the middle reads what the newest accepts, and the oldest what the middle accepts
  pub middle_agrees : OlderAgrees o middle newest m b
  pub oldest_agrees : OlderAgrees o oldest middle m b
  -- "the newest cut down to the oldest at once"
  pub at_once : OlderAgrees o oldest newest m b
  -- "the newest sheet cut down to the middle schema and then to the oldest ... equals" that
  pub cut_twice : sheet_without oldest middle (sheet_without middle newest (message_sheet o newest m))
      ≡ sheet_without oldest newest (message_sheet o newest m)
  -- "and both are the oldest reader's sheet"
  pub twice_is : sheet_without oldest middle (sheet_without middle newest (message_sheet o newest m)) ≡ message_sheet o oldest m
  pub once_is : sheet_without oldest newest (message_sheet o newest m) ≡ message_sheet o oldest m

-- THE CLAIM
pub three_agree : (o : ℕ) (oldest middle newest m : List ℕ) → AreBytes oldest → AreBytes middle → AreBytes newest → AreBytes m
    → Appends o oldest middle → Appends o middle newest → (b : Budget) → (verdict o newest m b).number ≡ 0
    → ThreeAgree o oldest middle newest m b
three_agree o oldest middle newest m oldest-bytes middle-bytes newest-bytes message_bytes first second b h =
    let x = older_agrees o middle newest m middle-bytes newest-bytes message_bytes second b h in
    let y = older_agrees o oldest middle m oldest-bytes middle-bytes message_bytes first b x.accepts in
    let both = appends-twice o oldest middle newest first second in
    let z = older_agrees o oldest newest m oldest-bytes newest-bytes message_bytes both b h in
    let twice = ap (sheet_without oldest middle) (sym x.sheet) ∙ sym y.sheet in
    record {
      middle_agrees = x;
      oldest_agrees = y;
      at_once = z;
      cut_twice = twice ∙ z.sheet;
      twice_is = twice;
      once_is = sym z.sheet;
    }
