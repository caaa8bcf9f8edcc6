-- 02, K1: at the arrival at an element of a direct list only 4, 5 and 17 can come. The list's own fit is the fit of its elements, and an
-- element has no header; so an arrival tests the budget, the depth and the content allowance, and then goes to the members.
use Rattle.std.specs.Prelude.{◌≡◌, List, ℕ, suc, ◌+◌, ◌*◌, ◌<◌, length, ltb, leb, Result, Ok, Err}
use Rattle.std.proofs.Math.Path.{ap}
use Rattle.coding.specs.Lists.{pick}
use Rattle.coding.specs.Schema.{Schema, table_of}
use Rattle.coding.specs.Layout.{begin}
use Rattle.coding.specs.Walk.{placed, element_size, end_ok, text_ok, fit_object, bytes_tested, open_object, refuse, members, one_more, with_content, visit, content_at}
use Rattle.coding.specs.declared.Object.TheVariants as O
use Rattle.coding.specs.declared.Place.{Place}
use Rattle.coding.specs.declared.Place.TheVariants.{InPlace}
use Rattle.coding.specs.declared.Content.{Content}
use Rattle.coding.specs.declared.Budget.{Budget}
use Rattle.coding.specs.declared.Spent.{Spent}
use Rattle.laws.specs.DirectPlaces.{element_fits}
use Rattle.demands.specs.DirectFits.{direct_fits, element-of, element-visit}

-- a direct list's bytes are not tested: where it opens, it fits
opened_fits : (m : List ℕ) (t start n : ℕ) (u : Result Content ℕ) → bytes_tested m (O.DirectList t) u ≡ Ok (content_at start n) → u ≡ Ok (content_at start n)
unfolding bytes_tested end_ok text_ok
opened_fits m t start n (Err k) e = e
opened_fits m t start n (Ok c) e = e

module _ (o : ℕ) (S : Schema) (m : List ℕ) (t : ℕ) (p : Place) (start n : ℕ) (opens : open_object o S m (O.DirectList t) p ≡ Ok (content_at start n)) where
  -- the bytes of each element, and where element j stands: "placed at its first byte"
  abbrev size : ℕ
  size = element_size o m (placed p)

  abbrev place : ℕ → ℕ
  place j = start + size * j

  fits : fit_object o S m (O.DirectList t) p ≡ Ok (content_at start n)
  unfolding open_object
  fits = opened_fits m t start n (fit_object o S m (O.DirectList t) p) opens

  -- THE CLAIM: where a direct list opens, so does each of its elements;
  pub element_opens : (j : ℕ) → j < n → open_object o S m (O.Table t) (InPlace (place j) size) ≡ Ok (content_at (place j) size)
  unfolding open_object bytes_tested end_ok text_ok
  element_opens j l = ap (bytes_tested m (O.Table t)) (element-of o S m t p start n j fits l)

  -- and the arrival there is refused by 4 or by 17, or goes to the members, one deeper; with no depth left it is 4 or 5
  -- (`element_deep` in DirectFits)
  pub element_arrives : (b : Budget) (d : ℕ) (s : Spent) (j : ℕ) → j < n
      → visit (suc d) o S m b (O.Table t) (InPlace (place j) size) s
      ≡ pick (ltb s.visits b.visits)
      (pick (leb ((one_more s).content + size) b.content)
      (members (visit d o S m b) o S m (place j) (place j) size begin 0 (table_of S t).members (with_content size (one_more s)))
      (refuse 17 (place j) (one_more s)))
      (refuse 4 (place j) s)
  element_arrives b d s j l =
      element-visit o S m b t (place j) size (element_fits start size j n (length m) l (direct_fits o S m t p start n fits).fits) d s
