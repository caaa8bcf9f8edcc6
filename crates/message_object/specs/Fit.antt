-- What a header announces, and the test of the bytes of content that fits.
use Rattle.std.specs.Prelude.{ℕ, ◌^◌, ◌<◌, List, Result, Ok, Err}
use Rattle.coding.specs.Schema.{Schema}
use Rattle.coding.specs.Lists.{pick}
use Rattle.coding.specs.Walk.{content_at, end_ok, text_ok, fit_content, stands_in_place}
use Rattle.coding.specs.declared.Object.{Object}
use Rattle.coding.specs.declared.Content.{Content}

-- what the header of the object at a place announces, if it fits
abbrev pub announced : ℕ → Schema → List ℕ → Object → ℕ → Result Content ℕ → Result Content ℕ
announced o S m ob at (Err n) = Err n
announced o S m ob at (Ok c) = fit_content o S m ob at c.start c.length

-- what an object in place has instead of a header
unfoldable pub in_place : Object → ℕ → ℕ → Result Content ℕ
in_place ob a n = pick (stands_in_place ob) (Ok (content_at a n)) (Err 6)

-- the length that was found is small
abbrev pub LengthSmall : Result Content ℕ → Type 0
LengthSmall (Err n) = Unit {0}
LengthSmall (Ok c) = c.length < 2 ^ 48

-- the test of an object's bytes: the number of their refusal, or that they are right
unfoldable pub test_bytes : List ℕ → Object → ℕ → ℕ → Result (Unit {0}) ℕ
test_bytes m ob start n = pick (end_ok m ob start n) (pick (text_ok m ob start n) (Ok tt) (Err 16)) (Err 10)
