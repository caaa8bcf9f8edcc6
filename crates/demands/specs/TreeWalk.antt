-- A walk over a message that holds a tree arrives at the tree's objects in turn: with each budget it comes to what their content
-- lengths come to.
use Rattle.std.specs.Prelude.{◌≡◌, Bool, ℕ, zero, suc, ◌+◌, ◌*◌, ◌≤◌, ltb, leb, length, get_or, take, drop, Result, Ok}
use Rattle.std.proofs.Math.Path.{refl, ap, subst}
use Rattle.std.proofs.Common.{sym, ◌∙◌, length-take, length-drop}
use mathlib.Core.List.{List, [], ◌∷◌, ◌++◌}
use Rattle.std.proofs.Math.Bool.{true, false}
use native.Mathlib.Omega.{arith}
use borrow.Author.Tests.{le-leb, eq-eqb, ne_eqb}
use Rattle.coding.specs.Lists.{pick}
use Rattle.coding.specs.Bytes.{le}
use Rattle.coding.specs.Schema.{Schema, table_of}
use Rattle.coding.specs.Layout.{after_member}
use Rattle.coding.specs.Step.{member_step, element_step}
use Rattle.coding.specs.Walk.{Child, placed, magic, header_size, element_id, element_size, most_elements, start_size, content_size, content_length, end_ok, text_ok, fit_content, direct_header, header_tested, stands_in_place, fit_object, bytes_tested, refuse, and_then, follow_choice, follow, members, elements, directs, content, enter, with_content, admit, arrive, one_more, counted, visit, content_at, Walked}
use Rattle.coding.specs.Value.{Value, Values, absent, as_number, as_blob, as_row, as_object, present, first, others, count}
use Rattle.coding.specs.Message.{length_of}
use Rattle.coding.specs.declared.Object.{Object}
use Rattle.coding.specs.declared.Object.TheVariants as O
use Rattle.coding.specs.declared.Kind.{Kind}
use Rattle.coding.specs.declared.Kind.TheVariants.{OfFlat, OfObject, OfUnion}
use Rattle.coding.specs.declared.Member.{Member}
use Rattle.coding.specs.declared.Cursor.{Cursor}
use Rattle.coding.specs.declared.Place.{Place}
use Rattle.coding.specs.declared.Place.TheVariants.{ByOffset, InPlace}
use Rattle.coding.specs.declared.Step.{Step}
use Rattle.coding.specs.declared.Content.{Content}
use Rattle.coding.specs.declared.Budget.{Budget}
use Rattle.coding.specs.declared.Spent.{Spent}
use Rattle.demands.specs.InTurn.{Ending, goes, stops, spend}
use Rattle.demands.specs.TreeLengths.{Lengths, part_lengths, members_lengths, elements_lengths, directs_lengths, parts_lengths, tree_lengths}
use Rattle.demands.specs.TreeHold.{Below, Somewhere, Shows, nothing, scalar, struct, object, choice, MembersHold, no_member, ElementsHold, no-element, DirectsHold, no-direct, ContentHolds, text, bytes, list, table, direct_list, PlaceHolds, by_offset, in_place, HoldsTree}
use Rattle.demands.specs.TreeHold as T

-- the walk ends so
abbrev pub Ends : Ending → Walked → Type 0
Ends (goes s) w = w ≡ Ok s
Ends (stops n s) w = (at : ℕ) × (w ≡ refuse n at s)

-- a part of the walk that arrives at objects of these content lengths, in turn
abbrev pub Passes : Budget → List ℕ → (Spent → Walked) → Type 0
Passes b cs w = (s : Spent) → Ends (spend b cs s) (w s)

module _ (b : Budget) where
  pass_none : Passes b [] (λ s. Ok s)
  unfolding spend
  pass_none s = refl

  then_ends : (cs ds : List ℕ) (u : Spent → Walked) → Passes b ds u → (s : Spent) (w : Walked) → Ends (spend b cs s) w
      → Ends (spend b (cs ++ ds) s) (and_then w u)
  unfolding spend and_then refuse
  then_ends [] ds u q s w h = subst (λ (x : Walked). Ends (spend b ds s) (and_then x u)) (sym h) (q s)
  then_ends (c ∷ cs) ds u q s w h =
      by (ltb s.visits b.visits) (leb (s.content + c) b.content) (then_ends cs ds u q (with_content c (one_more s)) w) h
    where
      stopped : (n : ℕ) (t : Spent) → Ends (stops n t) w → Ends (stops n t) (and_then w u)
      stopped n t e = (e.0, ap (λ (x : Walked). and_then x u) e.1)

      by : (f g : Bool)
          → (Ends (spend b cs (with_content c (one_more s))) w → Ends (spend b (cs ++ ds) (with_content c (one_more s))) (and_then w u))
          → Ends (pick f (pick g (spend b cs (with_content c (one_more s))) (stops 17 (one_more s))) (stops 4 s)) w
          → Ends (pick f (pick g (spend b (cs ++ ds) (with_content c (one_more s))) (stops 17 (one_more s))) (stops 4 s)) (and_then w u)
      by true true next e = next e
      by true false next e = stopped 17 (one_more s) e
      by false g next e = stopped 4 s e

  pass_then : (cs ds : List ℕ) (w u : Spent → Walked) → Passes b cs w → Passes b ds u → Passes b (cs ++ ds) (λ s. and_then (w s) u)
  pass_then cs ds w u p q s = then_ends cs ds u q s (w s) (p s)

  pass_same : (cs : List ℕ) (w u : Spent → Walked) → ((s : Spent) → u s ≡ w s) → Passes b cs w → Passes b cs u
  pass_same cs w u e p s = subst (λ (x : Walked). Ends (spend b cs s) x) (sym (e s)) (p s)

-- an arrival at an object that fits and whose bytes are in order
module _ (b : Budget) (child : Child) (o : ℕ) (S : Schema) (m : List ℕ) (ob : Object) (p : Place) (start n : ℕ)
    (fits : fit_object o S m ob p ≡ Ok (content_at start n)) (tested : bytes_tested m ob (Ok (content_at start n)) ≡ Ok (content_at start n)) where
  abbrev charged : ℕ
  charged = content_length o S ob n

  arrive_is : (s : Spent)
      → arrive child o S m b ob p s
      ≡ pick (leb (s.content + charged) b.content) (content child o S m ob (placed p) start n (with_content charged s)) (refuse 17 (placed p) s)
  unfolding arrive admit enter
  arrive_is s = rw (fits, tested)

  pass_arrival : (cs : List ℕ) → Passes b cs (content child o S m ob (placed p) start n)
      → Passes b (charged ∷ cs) (counted (arrive child o S m b) b ob p)
  unfolding spend counted one_more
  pass_arrival cs h s = by (ltb s.visits b.visits)
    where
      inner : (g : Bool)
          → Ends (pick g (spend b cs (with_content charged (one_more s))) (stops 17 (one_more s)))
          (pick g (content child o S m ob (placed p) start n (with_content charged (one_more s))) (refuse 17 (placed p) (one_more s)))
      inner true = h (with_content charged (one_more s))
      inner false = (placed p, refl)

      by : (f : Bool)
          → Ends
          (pick f
          (pick (leb (s.content + charged) b.content) (spend b cs (with_content charged (one_more s))) (stops 17 (one_more s)))
          (stops 4 s))
          (pick f (arrive child o S m b ob p (one_more s)) (refuse 4 (placed p) s))
      by true =
          subst
          (λ (x : Walked). Ends (pick (leb (s.content + charged) b.content) (spend b cs (with_content charged (one_more s))) (stops 17 (one_more s))) x)
          (sym (arrive_is (one_more s))) (inner (leb (s.content + charged) b.content))
      by false = (placed p, refl)

module _ (below : Below) (o : ℕ) (S : Schema) (m : List ℕ) (b : Budget) (child : Child) (lengths : Lengths)
    (inner : (ob : Object) (v : Value) (p : Place) → below ob v p → Passes b (lengths ob v) (child ob p)) where
  follow-choice : (holder j : ℕ) (ob : Object) (v : Value) (p : Place) → Somewhere p → below ob v p
      → Passes b (lengths ob v) (follow_choice child holder j ob p)
  unfolding follow_choice
  follow-choice holder j ob v (ByOffset x) w h =
      let no : x ≡ 0 → ⊥ = λ e. omega arith in
      pass_same b (lengths ob v) (child ob (ByOffset x)) (follow_choice child holder j ob (ByOffset x)) (λ s. rw (ne_eqb x 0 no)) (inner ob v (ByOffset x) h)
  follow-choice holder j ob v (InPlace a n) w h = inner ob v (InPlace a n) h

  step-passes : {k : Kind} {v : Value} {st : Step} (holder j : ℕ) → Shows below S m k v st
      → Passes b (part_lengths lengths S k v) (follow child holder j st)
  unfolding follow part_lengths present as_number as_object
  step-passes holder j (nothing {k = k}) = subst (λ (cs : List ℕ). Passes b cs (λ s. Ok s)) (no-part k) (pass_none b)
    where
      no-part : (k : Kind) → [] ≡ part_lengths lengths S k absent
      no-part (OfFlat k) = refl
      no-part (OfObject ob) = refl
      no-part (OfUnion i) = refl
  step-passes holder j scalar = pass_none b
  step-passes holder j (struct h e) = pass_none b
  step-passes holder j (object {ob = ob} {v = v} {p = p} e h) = rw e (inner ob v p h)
  step-passes holder j (choice {i = i} {c = c} {ob = ob} {v = v} {p = p} e l g w h) = rw (← e) (follow-choice holder j ob v p w h)

  members-pass : {start n : ℕ} {c : Cursor} {rs : List Member} {vs : Values} (holder j : ℕ) → MembersHold below o S m start n c rs vs
      → Passes b (members_lengths lengths S rs vs) (members child o S m holder start n c j rs)
  unfolding members members_lengths first others
  members-pass holder j (no_member f u) = pass_none b
  members-pass {start} {n} holder j (T.members {c = c} {r = r} {rs = rs} {v = v} {vs = vs} h hs) =
      pass_then b (part_lengths lengths S r.kind v) (members_lengths lengths S rs vs) (follow child holder j (member_step o S m start n c r))
      (members child o S m holder start n (after_member o S r c) (j + 1) rs) (step-passes holder j h) (members-pass holder (j + 1) hs)

  elements-pass : {start : ℕ} {k : Kind} {i : ℕ} {vs : Values} (holder : ℕ) → ElementsHold below o S m start k i vs
      → Passes b (elements_lengths lengths S k vs) (elements child o S m holder start k (count vs) i)
  unfolding elements elements_lengths count
  elements-pass holder no-element = pass_none b
  elements-pass {start} {k = k} holder (T.elements {i = i} {v = v} {vs = vs} h hs) =
      pass_then b (part_lengths lengths S k v) (elements_lengths lengths S k vs) (follow child holder i (element_step o S m k start i))
      (elements child o S m holder start k (count vs) (i + 1)) (step-passes holder i h) (elements-pass holder hs)

  directs-pass : {t w at : ℕ} {vs : Values} → DirectsHold below t w at vs
      → Passes b (directs_lengths lengths t vs) (directs child t w (count vs) at)
  unfolding directs directs_lengths count
  directs-pass no-direct = pass_none b
  directs-pass {t} {w} (T.directs {at = at} {v = v} {vs = vs} h hs) =
      pass_then b (lengths (O.Table t) v) (directs_lengths lengths t vs) (child (O.Table t) (InPlace at w))
      (directs child t w (count vs) (at + w)) (inner (O.Table t) v (InPlace at w) h) (directs-pass hs)

  content-passes : {ob : Object} {v : Value} {start n : ℕ} (holder : ℕ) → ContentHolds below o S m ob v holder start n
      → Passes b (parts_lengths lengths S ob v) (content child o S m ob holder start n)
  unfolding content parts_lengths as_row
  content-passes holder (text h f e t) = pass_none b
  content-passes holder (bytes h f) = pass_none b
  content-passes holder (list e f h) = rw (← e) (elements-pass holder h)
  content-passes holder (table e f h) = members-pass holder 0 h
  content-passes holder (direct_list e i l f h) = rw (← e) (directs-pass h)

  -- the content fits, its bytes are in order, and its length is the value's
  content_fits : {ob : Object} {v : Value} {at start n : ℕ} → ContentHolds below o S m ob v at start n
      → fit_content o S m ob at start n ≡ Ok (content_at start n)
  unfolding fit_content content_size
  content_fits (text {start = start} {n = n} h f e t) = rw (le-leb (start + (n + 1)) (length m) f)
  content_fits (bytes {start = start} {n = n} h f) = rw (le-leb (start + n) (length m) f)
  content_fits (list {i = i} {start = start} {n = n} e f h) = rw (le-leb _ (length m) f)
  content_fits (table {start = start} {n = n} e f h) = rw (le-leb (start + n) (length m) f)
  content_fits (direct_list {at = at} {start = start} {n = n} e i l f h) = rw (le-leb (start + n * element_size o m at) (length m) f)

  -- what a direct list's header says more is in order
  header_tested_lem : {ob : Object} {v : Value} {at start n : ℕ} → ContentHolds below o S m ob v at start n → le m (at + 4) o ≡ n → (fit : Result Content ℕ)
      → header_tested o S m ob at fit ≡ fit
  unfolding header_tested direct_header
  header_tested_lem (text h f e t) q fit = refl
  header_tested_lem (bytes h f) q fit = refl
  header_tested_lem (list e f h) q fit = refl
  header_tested_lem (table e f h) q fit = refl
  header_tested_lem (direct_list {t = t} {at = at} e i l f h) q fit =
      rw (eq-eqb (element_id o m at) (table_of S t).id i, le-leb (le m (at + 4) o) most_elements (omega arith))

  content_tested : {ob : Object} {v : Value} {at start n : ℕ} → ContentHolds below o S m ob v at start n
      → bytes_tested m ob (Ok (content_at start n)) ≡ Ok (content_at start n)
  unfolding bytes_tested end_ok text_ok
  content_tested (text {start = start} {n = n} h f e t) = rw (eq-eqb (get_or m (start + n) 0) 0 e, h, t)
  content_tested (bytes h f) = refl
  content_tested (list e f h) = refl
  content_tested (table e f h) = refl
  content_tested (direct_list e i l f h) = refl

  part_length : (l : List ℕ) (start n : ℕ) → take n (drop start m) ≡ l → start + n ≤ length m → length l ≡ n
  part_length l start n e h = rw (← e) (simp (length-take, length-drop) (omega arith))

  content_long : {ob : Object} {v : Value} {at start n : ℕ} → ContentHolds below o S m ob v at start n → length_of o S ob v ≡ n
  unfolding length_of as_blob as_row
  content_long (text {l = l} {start = start} {n = n} h f e t) = part_length l start n h (omega arith)
  content_long (bytes {l = l} {start = start} {n = n} h f) = part_length l start n h f
  content_long (list e f h) = e
  content_long (table e f h) = e
  content_long (direct_list e i l f h) = e

  offset_fits : {ob : Object} {v : Value} (x : ℕ) → start_size o ≤ x → x + header_size o ob ≤ length m → le m x 4 ≡ magic S ob
      → ContentHolds below o S m ob v x (x + header_size o ob) (le m (x + 4) o)
      → fit_object o S m ob (ByOffset x) ≡ Ok (content_at (x + header_size o ob) (le m (x + 4) o))
  unfolding fit_object
  offset_fits {ob} x l f e h =
      let fit = fit_content o S m ob x (x + header_size o ob) (le m (x + 4) o) in
      rw (le-leb (start_size o) x l, le-leb (x + header_size o ob) (length m) f, eq-eqb (le m x 4) (magic S ob) e)
      (header_tested_lem h refl fit ∙ content_fits h)

  in-place_fits : {ob : Object} {v : Value} (a n : ℕ) → stands_in_place ob ≡ true → ContentHolds below o S m ob v a a n
      → fit_object o S m ob (InPlace a n) ≡ Ok (content_at a n)
  unfolding fit_object
  in-place_fits a n e h = rw e (content_fits h)

  arrival-passes : (ob : Object) (v : Value) (p : Place) (start n : ℕ) → fit_object o S m ob p ≡ Ok (content_at start n)
      → ContentHolds below o S m ob v (placed p) start n
      → Passes b (content_length o S ob (length_of o S ob v) ∷ parts_lengths lengths S ob v) (counted (arrive child o S m b) b ob p)
  arrival-passes ob v p start n e h =
      subst (λ (k : ℕ). Passes b (content_length o S ob k ∷ parts_lengths lengths S ob v) (counted (arrive child o S m b) b ob p))
      (sym (content_long h))
      (pass_arrival b child o S m ob p start n e (content_tested h) (parts_lengths lengths S ob v) (content-passes (placed p) h))

  place-passes : {ob : Object} {v : Value} {p : Place} → PlaceHolds below o S m ob v p
      → Passes b (content_length o S ob (length_of o S ob v) ∷ parts_lengths lengths S ob v) (counted (arrive child o S m b) b ob p)
  unfolding placed
  place-passes (by_offset {ob = ob} {v = v} {x = x} l f e h) =
      arrival-passes ob v (ByOffset x) (x + header_size o ob) (le m (x + 4) o) (offset_fits x l f e h) h
  place-passes (in_place {ob = ob} {v = v} {a = a} {n = n} e h) = arrival-passes ob v (InPlace a n) a n (in-place_fits a n e h) h

pub tree-passes : (o : ℕ) (S : Schema) (m : List ℕ) (b : Budget) (d : ℕ) (ob : Object) (v : Value) (p : Place) → HoldsTree d o S m ob v p
    → Passes b (tree_lengths d o S ob v) (visit d o S m b ob p)
unfolding visit tree_lengths
tree-passes o S m b zero ob v p h = absurd h
tree-passes o S m b (suc d) ob v p h =
    place-passes (HoldsTree d o S m) o S m b (visit d o S m b) (tree_lengths d o S) (tree-passes o S m b d) h
