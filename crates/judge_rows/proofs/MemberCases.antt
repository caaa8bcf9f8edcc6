-- The members of a table, from one of them on.
use Rattle.std.specs.Prelude.{Ok}
use mathlib.Core.Path.{◌≡◌, refl, sym, ap, ◌∙◌}
use mathlib.Core.List.{List}
use Prim.Native.Nat.{ℕ, suc, ◌+◌, ◌<◌, ◌≤◌}
use native.Mathlib.Omega.{arith}
use native.Mathlib.Numerals.{add-one}
use lib.ListN.{length, drop, drop_of_length-le}
use lib.Seq.{drop-cons}
use Rattle.coding.specs.Schema as Sc
use Rattle.coding.specs.Schema.{Schema}
use Rattle.coding.specs.Layout as L
use Rattle.coding.specs.Step as T
use Rattle.coding.specs.Walk as W
use Rattle.coding.specs.Walk.{Walked}
use Rattle.coding.specs.declared.Member.{Member}
use Rattle.coding.specs.declared.Cursor.{Cursor}
use Rattle.coding.specs.declared.Step.{Step}
use Rattle.coding.specs.declared.Step.TheVariants as St
use Rattle.coding.specs.declared.Spent.{Spent}
use Rattle.message_step.specs.Lead.{lead_of}
use Rattle.outcome.specs.declared.Outcome.{Outcome}
use Rattle.outcome.specs.Answers.{walked_of, left_of}
use Rattle.outcome.proofs.AnswerCases.{goes, stops}
use Rattle.judge_rows.proofs.EndCases.{Ended, members_past}

-- what judging needs of a step leads to the same
pub lead_follows : (child : W.Child) (holder j : ℕ) (step : Step) (s : Spent) → W.follow child holder j (lead_of step) s ≡ W.follow child holder j step s
unfolding W.follow lead_of
lead_follows child holder j (St.Refused n) s = refl
lead_follows child holder j St.Absent s = refl
lead_follows child holder j (St.Value x) s = refl
lead_follows child holder j (St.Unknown x) s = refl
lead_follows child holder j (St.Struct i at) s = refl
lead_follows child holder j (St.Object ob p) s = refl
lead_follows child holder j (St.Choice c ob p) s = refl

-- ---- the members of a table, from member j on
module _ (child : W.Child) (o : ℕ) (S : Schema) (m : List ℕ) (holder start n t : ℕ) (s : Spent) where
  abbrev all-members : Walked
  all-members = W.members child o S m holder start n L.begin 0 (Sc.table_of S t).members s

  abbrev left-members : Cursor → ℕ → Spent → Walked
  left-members c j v = W.members child o S m holder start n c j (drop j (Sc.table_of S t).members) v

  pub members_start : (c : Cursor) → c ≡ L.begin
      → W.members child o S m holder start n L.begin 0 (Sc.table_of S t).members s ≡ W.members child o S m holder start n c 0 (drop 0 (Sc.table_of S t).members) s
  members_start c e = ap (λ (q : Cursor). W.members child o S m holder start n q 0 (Sc.table_of S t).members s) (sym e)

  module _ (c : Cursor) (j : ℕ) (v : Spent)
      (inv : W.members child o S m holder start n L.begin 0 (Sc.table_of S t).members s ≡ W.members child o S m holder start n c j (drop j (Sc.table_of S t).members) v)
    where
      pub members_ended : (x : ℕ) → x ≡ L.bit_byte c → x ≤ c.end → n ≤ x → (r : Walked) → r ≡ Ok v
          → r ≡ W.members child o S m holder start n L.begin 0 (Sc.table_of S t).members s
      members_ended x ex l h r f =
          let ended : Ended n c = record { end = omega arith; byte = omega arith } in
          f ∙ sym (inv ∙ members_past child o S m holder start n c j (drop j (Sc.table_of S t).members) v ended)

  module _ (c : Cursor) (j : ℕ) (v : Spent)
      (inv : W.members child o S m holder start n L.begin 0 (Sc.table_of S t).members s ≡ W.members child o S m holder start n c j (drop j (Sc.table_of S t).members) v)
      (count : ℕ) (ec : count ≡ length (Sc.table_of S t).members) where
    pub members_done : count ≤ j → (r : Walked) → r ≡ Ok v → r ≡ W.members child o S m holder start n L.begin 0 (Sc.table_of S t).members s
    unfolding W.members
    members_done h r f =
        let l : length (Sc.table_of S t).members ≤ j = omega arith in
        f ∙ sym (inv ∙ ap (λ (ms : List Member). W.members child o S m holder start n c j ms v) (drop_of_length-le (Sc.table_of S t).members l))

    module _ (h : j < count) (step : Step) (es : step ≡ lead_of (T.member_step o S m start n c (Sc.member_of S t j))) (g : Outcome)
        (eg : walked_of g ≡ W.follow child holder j step v) where
      abbrev behind : Spent → Walked
      behind = W.members child o S m holder start n (L.after_member o S (Sc.member_of S t j) c) (j + 1) (drop (suc j) (Sc.table_of S t).members)

      split : all-members ≡ W.and_then (walked_of g) behind
      unfolding W.members Sc.member_of
      split =
          let l : j < length (Sc.table_of S t).members = omega arith in
          inv ∙ ap (λ (ms : List Member). W.members child o S m holder start n c j ms v) (drop-cons (Sc.table_of S t).members j Sc.plain_bool l)
          ∙ ap (λ (w : Walked). W.and_then w behind)
          (sym (lead_follows child holder j (T.member_step o S m start n c (Sc.member_of S t j)) v) ∙ ap (λ (q : Step). W.follow child holder j q v) (sym es) ∙ sym eg)

      pub members_stopped : (g.code ≡ 0 → ⊥) → walked_of g ≡ W.members child o S m holder start n L.begin 0 (Sc.table_of S t).members s
      members_stopped f = sym (split ∙ stops g behind f)

      pub members_turn : g.code ≡ 0 → (next : Cursor) → next ≡ L.after_member o S (Sc.member_of S t j) c
          → W.members child o S m holder start n L.begin 0 (Sc.table_of S t).members s
          ≡ W.members child o S m holder start n next (j + 1) (drop (j + 1) (Sc.table_of S t).members) (left_of g)
      members_turn f next en =
          split ∙ goes g behind f
          ∙ ap (λ (q : Cursor). W.members child o S m holder start n q (j + 1) (drop (suc j) (Sc.table_of S t).members) (left_of g)) (sym en)
          ∙ ap (λ (k : ℕ). W.members child o S m holder start n next (j + 1) (drop k (Sc.table_of S t).members) (left_of g)) (sym (add-one j))

    -- a member that leads nowhere
    pub members_nowhere : j < count → (step : Step) → step ≡ lead_of (T.member_step o S m start n c (Sc.member_of S t j)) → step ≡ St.Absent
        → (next : Cursor) → next ≡ L.after_member o S (Sc.member_of S t j) c
        → W.members child o S m holder start n L.begin 0 (Sc.table_of S t).members s
        ≡ W.members child o S m holder start n next (j + 1) (drop (j + 1) (Sc.table_of S t).members) v
    unfolding walked_of W.follow
    members_nowhere h step es e next en =
        members_turn h step es (record { code = 0; place = 0; member = 0; visits = v.visits; content = v.content }) (sym (ap (λ (q : Step). W.follow child holder j q v) e)) refl next en
