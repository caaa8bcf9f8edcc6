-- How long the three runs of a layout are.
use Rattle.std.specs.Prelude.{◌≡◌, ◌++◌, ℕ, ◌+◌}
use Rattle.std.proofs.Math.Path.{refl, ap}
use Rattle.std.proofs.Common.{◌∙◌}
use native.Mathlib.Omega.{arith}
use Rattle.std.proofs.Math.ListN.{length, length-append}
use Rattle.coding.specs.Bytes.{le_bytes}
use Rattle.coding.specs.Cells.{Cells, width, chain, below, width_bytes, chain_bytes, below_bytes, layout}
use Rattle.coding.specs.Cells.Cells.{end, bytes, reference, in_place, part}
use Rattle.write_measure.specs.SlotSizes.{length-le_bytes}

module _ (o : ℕ) where
  pub length-width_bytes : (s : ℕ) (c : Cells) → length (width_bytes o s c) ≡ width o c
  unfolding width_bytes width
  length-width_bytes s end = refl
  length-width_bytes s (bytes bs c) = length-append bs (width_bytes o s c) ∙ ap (λ (n : ℕ). length bs + n) (length-width_bytes s c)
  length-width_bytes s (reference k c) =
      let t = s + (width o k + chain o k + below o k) in
      omega (arith, length-append (le_bytes o s) (width_bytes o t c), length-le_bytes o s, length-width_bytes t c)
  length-width_bytes s (in_place k c) = length-width_bytes (s + below o k) c
  length-width_bytes s (part k c) =
      let t = s + below o k in
      omega (arith, length-append (width_bytes o s k) (width_bytes o t c), length-width_bytes s k, length-width_bytes t c)

  pub length-chain_bytes : (s : ℕ) (c : Cells) → length (chain_bytes o s c) ≡ chain o c
  unfolding chain_bytes chain
  length-chain_bytes s end = refl
  length-chain_bytes s (bytes bs c) = length-chain_bytes s c
  length-chain_bytes s (reference k c) = length-chain_bytes (s + (width o k + chain o k + below o k)) c
  length-chain_bytes s (in_place k c) =
      let a = width_bytes o s k in
      let b = chain_bytes o s k in
      let d = chain_bytes o (s + below o k) c in
      omega (arith, length-append a (b ++ d), length-append b d, length-width_bytes s k, length-chain_bytes s k, length-chain_bytes (s + below o k) c)
  length-chain_bytes s (part k c) =
      let t = s + below o k in
      omega (arith, length-append (chain_bytes o s k) (chain_bytes o t c), length-chain_bytes s k, length-chain_bytes t c)

  pub length-below_bytes : (s : ℕ) (c : Cells) → length (below_bytes o s c) ≡ below o c
  unfolding below_bytes below
  length-below_bytes s end = refl
  length-below_bytes s (bytes bs c) = length-below_bytes s c
  length-below_bytes s (reference k c) =
      let s' = s + (width o k + chain o k) in
      let t = s + (width o k + chain o k + below o k) in
      omega (
        arith,
        length-append (width_bytes o s' k) (chain_bytes o s' k ++ (below_bytes o s' k ++ below_bytes o t c)),
        length-append (chain_bytes o s' k) (below_bytes o s' k ++ below_bytes o t c),
        length-append (below_bytes o s' k) (below_bytes o t c),
        length-width_bytes s' k,
        length-chain_bytes s' k,
        length-below_bytes s' k,
        length-below_bytes t c,
      )
  length-below_bytes s (in_place k c) =
      omega (arith, length-append (below_bytes o s k) (below_bytes o (s + below o k) c), length-below_bytes s k, length-below_bytes (s + below o k) c)
  length-below_bytes s (part k c) =
      omega (arith, length-append (below_bytes o s k) (below_bytes o (s + below o k) c), length-below_bytes s k, length-below_bytes (s + below o k) c)

  pub length-layout : (c : Cells) → length (layout o c) ≡ width o c + chain o c + below o c
  unfolding layout
  length-layout c =
      let s = width o c + chain o c in
      omega (
        arith,
        length-append (width_bytes o s c) (chain_bytes o s c ++ below_bytes o s c),
        length-append (chain_bytes o s c) (below_bytes o s c),
        length-width_bytes s c,
        length-chain_bytes s c,
        length-below_bytes s c,
      )
