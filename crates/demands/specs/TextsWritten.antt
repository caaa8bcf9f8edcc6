-- Only what has the grammar of RFC 3629 is writable as a text: every text of a tree that can be written has it.
use Rattle.std.specs.Prelude.{◌≡◌, Bool, ◌&&◌, ℕ, zero, suc, ltb}
use Rattle.std.proofs.Math.Bool.{true, false}
use mathlib.Core.List.{List, [], ◌∷◌}
use Rattle.coding.specs.Lists.{pick}
use Rattle.coding.specs.Schema.{Schema, element_of, cases_of, case_of, table_of}
use Rattle.coding.specs.Value.{Value, Values, none, ◌then◌, as_number, as_blob, as_row, as_object, present, known, first, others}
use Rattle.coding.specs.Utf8.{Characters}
use Rattle.coding.specs.Message.{length_of, Test, keeps_unions, value_writable, members_writable, elements_writable, directs_writable, content_writable, writable}
use Rattle.coding.specs.declared.Object.{Object}
use Rattle.coding.specs.declared.Object.TheVariants as O
use Rattle.coding.specs.declared.Kind.{Kind}
use Rattle.coding.specs.declared.Kind.TheVariants.{OfFlat, OfObject, OfUnion}
use Rattle.coding.specs.declared.Member.{Member}
use Rattle.laws.specs.All.{all_append}
use Rattle.laws.specs.Lists.{both_left, both_right}
use Rattle.demands.specs.TreeTexts.{Texts, part_texts, members_texts, elements_texts, directs_texts, content_texts, tree_texts}
use Rattle.demands.specs.TextsWalked.{AllText}
use Rattle.demands.specs.Utf8.{text-exactly}

module _ (kept : Bool) (o : ℕ) (S : Schema) (test : Test) (texts : Texts)
    (below : (ob : Object) (v : Value) → test ob v ≡ true → AllText (texts ob v)) where
  -- a present object passes the test, whatever else is asked of it
  object-texts : (t long k : Bool) (ob : Object) (v : Value) → pick t (long && test ob v) k ≡ true → AllText (pick t (texts ob v) [])
  object-texts true long k ob v e = below ob v (both_right long (test ob v) e)
  object-texts false long k ob v e = tt

  part-texts : (k : Kind) (optional inplace : Bool) (v : Value) → value_writable test kept o S k optional inplace v ≡ true
      → AllText (part_texts texts S k v)
  unfolding value_writable part_texts
  part-texts (OfFlat k) optional inplace v e = tt
  part-texts (OfObject ob) optional inplace v e = object-texts (present v) (pick inplace (ltb 0 (length_of o S ob v)) true) true ob v e
  part-texts (OfUnion i) optional inplace v e =
      object-texts (present v) (pick inplace kept true) (known v) (case_of (cases_of S i) (as_number v)) (as_object v) e

  members-texts : (rs : List Member) (vs : Values) → members_writable test kept o S rs vs ≡ true → AllText (members_texts texts S rs vs)
  unfolding members_writable members_texts
  members-texts [] vs e = tt
  members-texts (r ∷ rs) vs e =
      let a = value_writable test kept o S r.kind r.optional r.inplace (first vs) in
      let b = members_writable test kept o S rs (others vs) in
      all_append Characters
      (part_texts texts S r.kind (first vs))
      (members_texts texts S rs (others vs))
      (part-texts r.kind r.optional r.inplace (first vs) (both_left a b e))
      (members-texts rs (others vs) (both_right a b e))

  elements-texts : (k : Kind) (vs : Values) → elements_writable test kept o S k vs ≡ true → AllText (elements_texts texts S k vs)
  unfolding elements_writable elements_texts
  elements-texts k none e = tt
  elements-texts k (v then vs) e =
      let a = value_writable test kept o S k true false v in
      let b = elements_writable test kept o S k vs in
      all_append Characters (part_texts texts S k v) (elements_texts texts S k vs) (part-texts k true false v (both_left a b e))
      (elements-texts k vs (both_right a b e))

  directs-texts : (t : ℕ) (vs : Values) → directs_writable test t vs ≡ true → AllText (directs_texts texts t vs)
  unfolding directs_writable directs_texts
  directs-texts t none e = tt
  directs-texts t (v then vs) e =
      let a = test (O.Table t) v in
      let b = directs_writable test t vs in
      all_append Characters (texts (O.Table t) v) (directs_texts texts t vs) (below (O.Table t) v (both_left a b e))
      (directs-texts t vs (both_right a b e))

  content-texts : (ob : Object) (v : Value) → content_writable test kept o S ob v ≡ true → AllText (content_texts texts S ob v)
  unfolding content_writable content_texts
  content-texts O.Text v e = ((text-exactly (as_blob v)).0 e, tt)
  content-texts O.Bytes v e = tt
  content-texts (O.List i) v e = elements-texts (element_of S i) (as_row v) e
  content-texts (O.Table i) v e = members-texts (table_of S i).members (as_row v) e
  content-texts (O.DirectList t) v e = directs-texts t (as_row v) e

pub writable-texts : (d o : ℕ) (S : Schema) (ob : Object) (v : Value) → writable d o S ob v ≡ true → AllText (tree_texts d S ob v)
unfolding writable tree_texts
writable-texts zero o S ob v e = tt
writable-texts (suc d) o S ob v e = content-texts (keeps_unions o) o S (writable d o S) (tree_texts d S) (writable-texts d o S) ob v e
