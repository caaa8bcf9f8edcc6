-- Decode undoes encode on every value a schema can show; a sheet that decodes is the encoding of what it decodes to, byte
-- for byte, so a lawful sheet has one tree and a tree one sheet; the sheet of an accepted message is lawful unless it is
-- over the size. Which values a schema can show is said in Shown.
use Rattle.std.specs.Prelude.{◌≡◌, List, ◌++◌, Bool, ◌&&◌, ℕ, ◌<◌, ◌≤◌, length, get_or, replicate, ltb, Ok}
use Rattle.std.proofs.Math.Path.{refl}
use Rattle.std.proofs.Common.{sym, ap, ◌∙◌, arith}
use Rattle.std.proofs.Math.Bool.{true, false}
use Rattle.std.proofs.Math.Option.{some, some-injective, none-ne-some}
use Rattle.std.proofs.Math.Option as Op
use Rattle.std.proofs.lemmas.List.{length-replicate}
use Rattle.std.proofs.Math.Dec.{leb}
use borrow.Author.Tests.{ltb-true, lt-ltb, leb-true, le-leb}
use Rattle.coding.specs.Lists.{pick}
use Rattle.coding.specs.Bytes.{deepest, largest}
use Rattle.coding.specs.Schema.{Schema}
use Rattle.coding.specs.Value.{Value}
use Rattle.coding.specs.Bits.{bits, packed, all_zero}
use Rattle.coding.specs.Sheet.{sheet_bits, sheet_of, Parsed, got, encode, closed, tree_of, sheet_tree}
use Rattle.coding.specs.Packed.{parse}
use Rattle.coding.specs.Walk.{walk, verdict}
use Rattle.coding.specs.Read.{message_read}
use Rattle.coding.specs.Message.{message_sheet}
use Rattle.coding.specs.declared.Object.TheVariants as O
use Rattle.coding.specs.declared.Budget.{Budget}
use Rattle.coding.specs.declared.Spent.{Spent}
use Rattle.laws.specs.Sound.{Sound}
use Rattle.laws.specs.LawfulSound.{lawful_sound}
use Rattle.laws.specs.Rules.{lawful-wide}
use Rattle.laws.specs.All.{all_index, index_all}
use Rattle.laws.specs.Bits.{Byte, bits-bits, zero_bits, padding, padding-lt, packed_bytes, bits-packed, packed-from}
use Rattle.demands.specs.Shown.{Shown}
use Rattle.demands.specs.SheetDecode.{object_spelt}
use Rattle.demands.specs.AcceptedShown.{map_ends, ends_going, walk_ends, verdict_shows}
use Rattle.demands.specs.SheetEncode.{From, from_fail, from_got, object-from}

-- v is a value that the schema can show in a message
abbrev pub ShownAtRoot : Schema → Value → Type 0
ShownAtRoot S v = Shown deepest S (O.Table S.root) v

closes : (v : Value) (n : ℕ) → n < 8 → closed (got v (replicate n 0)) ≡ some v
unfolding closed
closes v n h =
    let t = lt-ltb (length (replicate {A = ℕ} n 0)) 8 (rw (length-replicate {A = ℕ} n 0) h) in
    rw (t, zero_bits n)

-- what was closed: less than a byte is left, and it is zero
closed-from : {P : Value → Type 0} {e : Value → List ℕ} {xs : List ℕ} {g : Parsed Value} {v : Value} → From P e xs g → closed g ≡ some v
    → P v × ((z : List ℕ) × (xs ≡ e v ++ z) × (length z < 8) × (all_zero z ≡ true))
unfolding closed
closed-from {v} from_fail c = absurd (none-ne-some v c)
closed-from {P} {e} {xs} {v} (from_got {a} {r} p q b) c = by (ltb (length r) 8) (all_zero r) refl refl c
  where
    by : (s t : Bool) → ltb (length r) 8 ≡ s → all_zero r ≡ t → pick (s && t) (some a) Op.none ≡ some v
        → P v × ((z : List ℕ) × (xs ≡ e v ++ z) × (length z < 8) × (all_zero z ≡ true))
    by true true k l c = rw (← some-injective a v c) (p, (r, q, ltb-true (length r) 8 k, l))
    by true false k l c = absurd (none-ne-some v c)
    by false t k l c = absurd (none-ne-some v c)

module _ (S : Schema) (G : Sound S) where
  -- decode undoes encode on every value a schema can show
  pub decode-encode : (v : Value) → ShownAtRoot S v → tree_of S (sheet_of S v) ≡ some v
  unfolding tree_of sheet_of sheet_bits
  decode-encode v h =
      let xs = encode deepest S (O.Table S.root) v in
      let a = (object_spelt S G deepest (O.Table S.root) v h).0 in
      rw (bits-packed xs a.0, a.1 (replicate (padding xs) 0)) (closes v (padding xs) (padding-lt xs))

  -- the sheet's bytes are bytes
  pub sheet_bytes : (v : Value) → ShownAtRoot S v → (i : ℕ) → get_or (sheet_of S v) i 0 < 256
  unfolding sheet_of sheet_bits
  sheet_bytes v h =
      let xs = encode deepest S (O.Table S.root) v in
      index_all Byte 0 (packed xs) (omega arith) (packed_bytes xs (object_spelt S G deepest (O.Table S.root) v h).0.0)

  -- a sheet that decodes is the encoding of what it decodes to, byte for byte
  pub encode-decode : (s : List ℕ) (v : Value) → ((i : ℕ) → get_or s i 0 < 256) → tree_of S s ≡ some v
      → ShownAtRoot S v × (s ≡ sheet_of S v)
  unfolding tree_of sheet_of sheet_bits
  encode-decode s v b e =
      let root = O.Table S.root in
      let c = closed-from (object-from S G deepest root (bits s) (bits-bits s)) e in (
        c.0.0,
        packed-from (encode deepest S root v) s c.1.0 (all_index Byte 0 s b) c.1.1 c.1.2 c.1.3,
      )

  -- a lawful sheet has one tree: values that can be shown and have the same sheet are the same
  pub one_tree : (v w : Value) → ShownAtRoot S v → ShownAtRoot S w → sheet_of S v ≡ sheet_of S w → v ≡ w
  one_tree v w h k e = some-injective v w (sym (decode-encode v h) ∙ ap (tree_of S) e ∙ decode-encode w k)

  -- a tree has one sheet
  pub one-sheet : (s t : List ℕ) (v : Value) → ((i : ℕ) → get_or s i 0 < 256) → ((i : ℕ) → get_or t i 0 < 256)
      → tree_of S s ≡ some v → tree_of S t ≡ some v → s ≡ t
  one-sheet s t v b c e f = (encode-decode s v b e).1 ∙ sym (encode-decode t v c f).1

  -- the same with the limit on a sheet's size
  pub decode-encode_sized : (v : Value) → ShownAtRoot S v → length (sheet_of S v) ≤ largest → sheet_tree S (sheet_of S v) ≡ some v
  unfolding sheet_tree
  decode-encode_sized v h l = rw (le-leb (length (sheet_of S v)) largest l) (decode-encode v h)

  pub encode-decode_sized : (s : List ℕ) (v : Value) → ((i : ℕ) → get_or s i 0 < 256) → sheet_tree S s ≡ some v
      → ShownAtRoot S v × (s ≡ sheet_of S v) × (length s ≤ largest)
  unfolding sheet_tree
  encode-decode_sized s v b e = by (leb (length s) largest) refl e
    where
      by : (t : Bool) → leb (length s) largest ≡ t → pick t (tree_of S s) Op.none ≡ some v
          → ShownAtRoot S v × (s ≡ sheet_of S v) × (length s ≤ largest)
      by true l e = let h = encode-decode s v b e in (h.0, h.1, leb-true (length s) largest l)
      by false l e = absurd (none-ne-some v e)

-- the sheet of an accepted message is lawful unless it is over the size, for a schema and the walk
module _ (S : Schema) (G : Sound S) (m : List ℕ) (bytes : (i : ℕ) → get_or m i 0 < 256) (sized : length m ≤ largest) (o : ℕ) (wide : 0 < o) (budget : Budget)
    (s : Spent) (accepted : walk o S m budget ≡ Ok s) where
  pub accepted-shown : ShownAtRoot S (message_read o S m)
  accepted-shown = ends_going accepted (walk_ends S G m bytes sized o wide budget)

  pub accepted-sheet_tree : tree_of S (sheet_of S (message_read o S m)) ≡ some (message_read o S m)
  accepted-sheet_tree = decode-encode S G (message_read o S m) accepted-shown

  pub accepted-sheet-lawful : length (sheet_of S (message_read o S m)) ≤ largest
      → sheet_tree S (sheet_of S (message_read o S m)) ≡ some (message_read o S m)
  accepted-sheet-lawful = decode-encode_sized S G (message_read o S m) accepted-shown

-- the same for the bytes of a schema and of a message, and the verdict
module _ (o : ℕ) (b m : List ℕ) (schema_bytes : (i : ℕ) → get_or b i 0 < 256) (message_bytes : (i : ℕ) → get_or m i 0 < 256) (budget : Budget)
    (accepted : (verdict o b m budget).number ≡ 0) where
  -- the schema is sound, and what is read can be shown
  pub verdict-shown : Sound (parse b) × ShownAtRoot (parse b) (message_read o (parse b) m)
  verdict-shown =
      verdict_shows (Sound (parse b) × ShownAtRoot (parse b) (message_read o (parse b) m)) o b m budget
      (λ e l.
      let G = lawful_sound o b schema_bytes e in
      map_ends (λ h. (G, h)) (walk_ends (parse b) G m message_bytes l o (lawful-wide o b e) budget))
      accepted

  pub verdict-sheet_tree : tree_of (parse b) (message_sheet o b m) ≡ some (message_read o (parse b) m)
  unfolding message_sheet
  verdict-sheet_tree = decode-encode (parse b) verdict-shown.0 (message_read o (parse b) m) verdict-shown.1

  -- the sheet of an accepted message is lawful unless it is over the size
  pub verdict-sheet-lawful : length (message_sheet o b m) ≤ largest
      → sheet_tree (parse b) (message_sheet o b m) ≡ some (message_read o (parse b) m)
  unfolding message_sheet
  verdict-sheet-lawful = decode-encode_sized (parse b) verdict-shown.0 (message_read o (parse b) m) verdict-shown.1

  pub verdict-sheet_bytes : (i : ℕ) → get_or (message_sheet o b m) i 0 < 256
  unfolding message_sheet
  verdict-sheet_bytes = sheet_bytes (parse b) verdict-shown.0 (message_read o (parse b) m) verdict-shown.1
