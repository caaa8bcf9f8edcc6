-- Demand 2: every writable sheet becomes the one message of the stated layout, and reading that message with enough budget
-- gives the same sheet. Enough is the number of the objects in the sheet's tree, which are the arrivals of the walk, and their
-- content (`enough`); with less of either, the answer is 4 or 17, and it is said what is spent then (`Short`). A written message is
-- within the size unless 13 is the answer, and its bytes are bytes.
use Rattle.std.specs.Prelude.{◌⊎◌, ◌≡◌, List, [], ◌++◌, true, ℕ, suc, ◌+◌, ◌*◌, ◌^◌, ◌<◌, ◌≤◌, get_or, take, drop}
use Rattle.std.proofs.Math.Logic.{inl, inr}
use Rattle.std.proofs.Math.Path.{sym, ap, subst}
use Rattle.std.proofs.Common.{◌∙◌, arith}
use Rattle.std.proofs.Math.Option.{Option, some}
use Rattle.std.proofs.Math.Option as Op
use borrow.Author.Tests.{le-leb, lt-leb, eq-eqb}
use Rattle.std.proofs.Math.ListN.{length}
use Rattle.coding.specs.Bytes.{le, largest, deepest}
use Rattle.coding.specs.Schema.{Schema}
use Rattle.coding.specs.Packed.{parse}
use Rattle.coding.specs.Lawful.{lawful}
use Rattle.coding.specs.Walk.{start_size, refusal, refuse, allowing, spending, nothing, walk, verdict_at, at_zero, verdict_of, size_ok, start_ok, verdict, root_place, Walked}
use Rattle.coding.specs.Value.{Value}
use Rattle.coding.specs.Read.{message_read}
use Rattle.coding.specs.Sheet.{sheet_of, sheet_tree}
use Rattle.coding.specs.Message.{writable, message_of, refused, message, written_tree, written, message_sheet, fits_room, read_answer, read_out}
use Rattle.coding.specs.declared.Object.TheVariants as O
use Rattle.coding.specs.declared.Budget.{Budget}
use Rattle.coding.specs.declared.Spent.{Spent}
use Rattle.coding.specs.declared.Verdict.{Verdict}
use Rattle.laws.specs.Sound.{Sound}
use Rattle.laws.specs.LawfulSound.{lawful_sound}
use Rattle.laws.specs.Rules.{lawful-width, lawful-wide, lawful_narrow}
use Rattle.laws.specs.Bits.{Byte}
use Rattle.laws.specs.All.{index_all}
use Rattle.demands.specs.Sheets.{ShownAtRoot, encode-decode_sized}
use Rattle.demands.specs.TreeHold.{HoldsTree}
use Rattle.demands.specs.Writes.{Writes}
use Rattle.demands.specs.WrittenMessage.{message_bytes, message_long, message_holds}
use Rattle.demands.specs.WrittenSheet.{WrittenAs, written_as}
use Rattle.demands.specs.ShownWrites.{shown_writes}
use Rattle.demands.specs.Spending.{allowed, Affords, spent_is, no_more_refl, nothing-plus, nothing_least}
use Rattle.demands.specs.Arrivals.{message_cost}
use Rattle.demands.specs.Reached.{accepted_visits, accepted-content}
use Rattle.demands.specs.InTurn.{Ending, goes, stops, spend, total, cost_of, total-take, spend-enough, Stops, Less, spend_less}
use Rattle.demands.specs.InTurn as T
use Rattle.demands.specs.TreeWalk.{Ends}
use Rattle.demands.specs.TreeTrip.{root_lengths, written_reads, written_walks}

-- the content lengths of the objects of a sheet's tree, in the order of the walk
unfoldable pub option_lengths : ℕ → Schema → Option Value → List ℕ
option_lengths o S Op.none = []
option_lengths o S (Op.some v) = root_lengths o S v

unfoldable pub sheet_lengths : ℕ → List ℕ → List ℕ → List ℕ
sheet_lengths o b s = option_lengths o (parse b) (sheet_tree (parse b) s)

-- what reading the message of a sheet takes: a visit for each object of the sheet's tree, and the content of all
unfoldable pub enough : ℕ → List ℕ → List ℕ → Spent
enough o b s = cost_of (sheet_lengths o b s)

-- the verdict where the walk ends so
abbrev pub Answers : Ending → Verdict → Type 0
Answers (goes t) v = v ≡ at_zero 0 t
Answers (stops n t) v = (at : ℕ) × (v ≡ verdict_at (refusal n at) t)

ends_answers : (e : Ending) (w : Walked) → Ends e w → Answers e (verdict_of w)
unfolding verdict_of refuse
ends_answers (goes t) w h = ap verdict_of h
ends_answers (stops n t) w h = (h.0, ap verdict_of h.1)

-- with less of either than objects of these content lengths take: after as many as there are visits the next is not visited, 4;
-- or, before that, after k of them the next would pass the content allowance, 17, and it is visited but adds nothing
pub data Short (b : Budget) (cs : List ℕ) (v : Verdict) : Type 0 where
  no-visit : (at : ℕ) → b.visits < length cs → total (take b.visits cs) ≤ b.content
      → v ≡ verdict_at (refusal 4 at) (spending b.visits (total (take b.visits cs))) → Short b cs v
  no-content : (at k : ℕ) → k < length cs → k < b.visits → total (take k cs) ≤ b.content
      → b.content < total (take (suc k) cs)
      → v ≡ verdict_at (refusal 17 at) (spending (k + 1) (total (take k cs))) → Short b cs v

stops_short : (b : Budget) (cs : List ℕ) (v : Verdict) {e : Ending} → Stops b cs nothing e → Answers e v → Short b cs v
unfolding nothing
stops_short b cs v (T.no-visit k t l p q c m) a =
    let e : k ≡ b.visits = omega arith in
    let x = subst (λ (n : ℕ). (n < length cs) × (t.content ≡ total (take n cs))) e (l, omega arith) in
    let y = x.1 in
    no-visit a.0 x.0 (omega arith)
    (a.1 ∙ ap (verdict_at (refusal 4 a.0)) (spent_is t (spending b.visits (total (take b.visits cs))) q y))
stops_short b cs v (T.no-content k t l p q c m n) a =
    no-content a.0 k l (omega arith) (omega arith) (omega arith)
    (a.1 ∙ ap (verdict_at (refusal 17 a.0)) (spent_is t (spending (k + 1) (total (take k cs))) (omega arith) (omega arith)))

-- every writable sheet becomes the one message of the stated layout, unless that is over the size
pub written-layout : (o : ℕ) (b s : List ℕ) (v : Value) → lawful o b ≡ true → sheet_tree (parse b) s ≡ some v
    → writable deepest o (parse b) (O.Table (parse b).root) v ≡ true
    → (length (message_of o (parse b) v) ≤ largest → written o b s ≡ message (message_of o (parse b) v))
    × (largest < length (message_of o (parse b) v) → written o b s ≡ refused 13)
unfolding written written_tree
written-layout o b s v l d w = (
  λ h. rw (l, d, w, le-leb (length (message_of o (parse b) v)) largest h),
  λ h. rw (l, d, w, lt-leb (length (message_of o (parse b) v)) largest h),
)

-- the size is within what an offset can say, in bits
within-width : (o n : ℕ) → (o ≡ 4) ⊎ (o ≡ 6) → n ≤ largest → 8 * n < 256 ^ o
unfolding largest
within-width o n (inl e) h = rw e (omega arith)
within-width o n (inr e) h = rw e (omega arith)

-- a verdict where the schema, the size and the start are in order
verdict_walks : (o : ℕ) (b m : List ℕ) (budget : Budget) → lawful o b ≡ true → start_size o ≤ length m → length m ≤ largest
    → le m 0 4 ≡ 0xB5C0_C4B3 → verdict o b m budget ≡ verdict_of (walk o (parse b) m budget)
unfolding verdict size_ok start_ok
verdict_walks o b m budget l h k e =
    rw (l, le-leb (start_size o) (length m) h, le-leb (length m) largest k, eq-eqb (le m 0 4) 0xB5C0_C4B3 e)

-- ---- the message of a sheet's tree
module _ (o : ℕ) (b s : List ℕ) (v : Value) (schema_bytes : (i : ℕ) → get_or b i 0 < 256) (sheet_bytes : (i : ℕ) → get_or s i 0 < 256)
    (good : lawful o b ≡ true) (decoded : sheet_tree (parse b) s ≡ some v)
    (fit : writable deepest o (parse b) (O.Table (parse b).root) v ≡ true) (sized : length (message_of o (parse b) v) ≤ largest) where
  wide : 0 < o
  wide = lawful-wide o b good

  sound : Sound (parse b)
  sound = lawful_sound o b schema_bytes good

  shown : ShownAtRoot (parse b) v × (s ≡ sheet_of (parse b) v) × (length s ≤ largest)
  shown = encode-decode_sized (parse b) sound s v sheet_bytes decoded

  writes : Writes deepest o (parse b) (O.Table (parse b).root) v
  writes = shown_writes (parse b) sound o (lawful_narrow o b good) deepest (O.Table (parse b).root) v sound.root shown.0 fit

  small : 8 * length (message_of o (parse b) v) < 256 ^ o
  small = within-width o (length (message_of o (parse b) v)) (lawful-width o b good) sized

  tree_holds : (le (message_of o (parse b) v) 0 4 ≡ 0xB5C0_C4B3)
      × HoldsTree deepest o (parse b) (message_of o (parse b) v) (O.Table (parse b).root) v (root_place o (message_of o (parse b) v))
  tree_holds = message_holds o (parse b) sound v writes wide small

  tree_reads : message_read o (parse b) (message_of o (parse b) v) ≡ v
  tree_reads = written_reads o (parse b) sound v writes wide small

  tree_bytes : (i : ℕ) → get_or (message_of o (parse b) v) i 0 < 256
  tree_bytes = index_all Byte 0 (message_of o (parse b) v) (omega arith) (message_bytes o (parse b) sound v writes)

  tree_long : start_size o ≤ length (message_of o (parse b) v)
  tree_long = message_long o (parse b) sound v writes

  lengths_are : sheet_lengths o b s ≡ root_lengths o (parse b) v
  unfolding sheet_lengths option_lengths
  lengths_are = rw decoded

  tree_answers : (budget : Budget)
      → Answers (spend budget (sheet_lengths o b s) nothing) (verdict o b (message_of o (parse b) v) budget)
  tree_answers budget =
      let m = message_of o (parse b) v in
      let e = spend budget (root_lengths o (parse b) v) nothing in
      rw (lengths_are, verdict_walks o b m budget good tree_long sized tree_holds.0)
      (ends_answers e (walk o (parse b) m budget) (written_walks o (parse b) sound v writes wide small budget))

  tree-sheet : message_sheet o b (message_of o (parse b) v) ≡ s
  unfolding message_sheet
  tree-sheet = ap (sheet_of (parse b)) tree_reads ∙ sym shown.1

-- ---- a written message: m is what the writer made of the sheet s
module _ (o : ℕ) (b s m : List ℕ) (schema_bytes : (i : ℕ) → get_or b i 0 < 256) (sheet_bytes : (i : ℕ) → get_or s i 0 < 256)
    (made : written o b s ≡ message m) where
  abbrev from : WrittenAs o b s m
  from = written_as o b s m made

  sized : length (message_of o (parse b) from.tree) ≤ largest
  sized = subst (λ (x : List ℕ). length x ≤ largest) from.made from.sized

  -- the verdict with every budget: the walk goes over the objects of the sheet's tree in turn
  pub written_answers : (budget : Budget) → Answers (spend budget (sheet_lengths o b s) nothing) (verdict o b m budget)
  written_answers budget =
      subst (λ (x : List ℕ). Answers (spend budget (sheet_lengths o b s) nothing) (verdict o b x budget)) (sym from.made)
      (tree_answers o b s from.tree schema_bytes sheet_bytes from.schema from.decoded from.fit sized budget)

  -- reading that message with enough budget gives the same sheet: it is accepted, with a visit for each object and its content,
  pub written-verdict : (budget : Budget) → Affords budget (enough o b s) → verdict o b m budget ≡ at_zero 0 (enough o b s)
  unfolding enough
  written-verdict budget h =
      let cs = sheet_lengths o b s in
      let z = nothing-plus (cost_of cs) in
      subst (λ (e : Ending). Answers e (verdict o b m budget))
      (spend-enough budget cs nothing (subst (λ (x : Spent). Affords budget x) (sym z) h) ∙ ap goes z)
      (written_answers budget)

  -- which is what the arrivals of the message cost,
  pub written-cost : enough o b s ≡ message_cost o (parse b) m
  written-cost =
      let need = enough o b s in
      let budget = allowing need.visits need.content in
      let e = written-verdict budget (no_more_refl need) in
      let h : (verdict o b m budget).number ≡ 0 = ap (λ (v : Verdict). v.number) e in
      spent_is need (message_cost o (parse b) m)
      (sym (ap (λ (v : Verdict). v.visits) e) ∙ accepted_visits o b m budget h)
      (sym (ap (λ (v : Verdict). v.content) e) ∙ accepted-content o b m budget h)

  -- and its sheet is the one that was written;
  pub written-sheet : message_sheet o b m ≡ s
  written-sheet =
      ap (message_sheet o b) from.made
      ∙ tree-sheet o b s from.tree schema_bytes sheet_bytes from.schema from.decoded from.fit sized

  -- with less of either, the answer is 4 or 17,
  pub written_too_little : (budget : Budget)
      → (budget.visits < (enough o b s).visits) ⊎ (budget.content < (enough o b s).content)
      → Short budget (sheet_lengths o b s) (verdict o b m budget)
  unfolding enough cost_of
  written_too_little budget h =
      stops_short budget (sheet_lengths o b s) (verdict o b m budget)
      (spend_less budget (sheet_lengths o b s) nothing (nothing_least (allowed budget)) (less h)) (written_answers budget)
    where
      less : (budget.visits < length (sheet_lengths o b s)) ⊎ (budget.content < total (sheet_lengths o b s))
          → Less budget nothing (sheet_lengths o b s)
      less (inl l) = inl (unfold nothing in omega arith)
      less (inr l) = inr (unfold nothing in omega arith)

  -- 4 with enough content, and then all visits are spent, and the content of as many objects;
  pub written_few_visits : (budget : Budget) → budget.visits < (enough o b s).visits → (enough o b s).content ≤ budget.content
      → (at : ℕ) × (verdict o b m budget ≡ verdict_at (refusal 4 at) (spending budget.visits (total (take budget.visits (sheet_lengths o b s)))))
  unfolding enough cost_of
  written_few_visits budget h g = by (written_too_little budget (inl (unfold enough cost_of in h)))
    where
      by : Short budget (sheet_lengths o b s) (verdict o b m budget)
          → (at : ℕ) × (verdict o b m budget ≡ verdict_at (refusal 4 at) (spending budget.visits (total (take budget.visits (sheet_lengths o b s)))))
      by (no-visit at l c e) = (at, e)
      by (no-content at k l v c n e) = absurd (omega (arith, total-take (suc k) (sheet_lengths o b s)))

  -- 17 with enough visits: k objects are within the content allowance, and with the next they are not
  pub written_little-content : (budget : Budget) → (enough o b s).visits ≤ budget.visits → budget.content < (enough o b s).content
      → (k : ℕ) × (total (take k (sheet_lengths o b s)) ≤ budget.content) × (budget.content < total (take (suc k) (sheet_lengths o b s)))
      × ((at : ℕ) × (verdict o b m budget ≡ verdict_at (refusal 17 at) (spending (k + 1) (total (take k (sheet_lengths o b s))))))
  unfolding enough cost_of
  written_little-content budget g h = by (written_too_little budget (inr (unfold enough cost_of in h)))
    where
      by : Short budget (sheet_lengths o b s) (verdict o b m budget)
          → (k : ℕ) × (total (take k (sheet_lengths o b s)) ≤ budget.content) × (budget.content < total (take (suc k) (sheet_lengths o b s)))
          × ((at : ℕ) × (verdict o b m budget ≡ verdict_at (refusal 17 at) (spending (k + 1) (total (take k (sheet_lengths o b s))))))
      by (no-visit at l c e) = absurd (omega arith)
      by (no-content at k l v c n e) = (k, c, n, (at, e))

  -- within the size, and its bytes are bytes
  pub written-size : (start_size o ≤ length m) × (length m ≤ largest)
  written-size = (
    subst (λ (x : List ℕ). start_size o ≤ length x) (sym from.made)
        (tree_long o b s from.tree schema_bytes sheet_bytes from.schema from.decoded from.fit sized),
    from.sized,
  )

  pub written_bytes : (i : ℕ) → get_or m i 0 < 256
  written_bytes i =
      subst (λ (x : List ℕ). get_or x i 0 < 256) (sym from.made)
      (tree_bytes o b s from.tree schema_bytes sheet_bytes from.schema from.decoded from.fit sized i)

  sheet_sized : length s ≤ largest
  sheet_sized = (shown o b s from.tree schema_bytes sheet_bytes from.schema from.decoded from.fit sized).2

  -- read into an output with room, the sheet is there, and the bytes behind it are kept
  pub written_answer : (budget : Budget) (out : List ℕ) → Affords budget (enough o b s) → length s ≤ length out
      → read_answer o b m budget out ≡ record { verdict = at_zero 0 (enough o b s); length = length s }
  unfolding read_answer fits_room
  written_answer budget out h r =
      rw (written-verdict budget h, written-sheet, le-leb (length s) largest sheet_sized, le-leb (length s) (length out) r)

  pub written_out : (budget : Budget) (out : List ℕ) → Affords budget (enough o b s) → length s ≤ length out
      → read_out o b m budget out ≡ s ++ drop (length s) out
  unfolding read_out fits_room
  written_out budget out h r =
      rw (written-verdict budget h, written-sheet, le-leb (length s) largest sheet_sized, le-leb (length s) (length out) r)

  -- the message holds the sheet's tree, plainly (for the schemas that append to this one)
  pub written_holds : (v : Value) × (sheet_tree (parse b) s ≡ some v) × ShownAtRoot (parse b) v
      × HoldsTree deepest o (parse b) m (O.Table (parse b).root) v (root_place o m)
  written_holds = (
    from.tree,
    from.decoded,
    (shown o b s from.tree schema_bytes sheet_bytes from.schema from.decoded from.fit sized).0,
    subst (λ (x : List ℕ). HoldsTree deepest o (parse b) x (O.Table (parse b).root) from.tree (root_place o x)) (sym from.made)
        (tree_holds o b s from.tree schema_bytes sheet_bytes from.schema from.decoded from.fit sized).1,
  )
