-- Which bytes are text (02, K2): the test that definitions use is the grammar of RFC 3629, and the grammar is the encodings of
-- the scalar values. `Reading` and the encoding are said in Utf8Encoding, by the RFC's table.
use Rattle.std.specs.Prelude.{ℕ, ◌≡◌, true, ◌↔◌, List}
use Rattle.std.proofs.Common.{sym, ◌∙◌}
use Rattle.coding.specs.Utf8.{Characters, is_text}
use Rattle.demands.specs.Utf8States.{taken_characters, characters_taken}
use Rattle.demands.specs.Utf8Encoding.{Reading, characters_reading, reading_characters, values_same}

module _ (xs : List ℕ) where
  -- THE CLAIM: the test is true of exactly what has the grammar
  pub text-exactly : (is_text xs ≡ true) ↔ Characters xs
  unfolding is_text
  text-exactly = (taken_characters xs, characters_taken)

  -- THE CLAIM: what has the grammar is exactly the encodings of scalar values, 0 to 10FFFF without D800 to DFFF, each in its
  -- shortest form
  pub scalars-exactly : Characters xs ↔ Reading xs
  scalars-exactly = (characters_reading, reading_characters xs)

  -- THE CLAIM: no octets have two readings
  pub one_reading : (r s : Reading xs) → r.values ≡ s.values
  one_reading r s = values_same r.values s.values (r.encodes ∙ sym s.encodes)
