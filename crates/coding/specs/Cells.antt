-- What the writer lays out, without any schema: bytes, single bits, references to objects and contents that stand in place.
-- `o` is the width of an offset in bytes.
-- All of it states one sentence: "An object is written with its chain of in-place contents behind it; then the objects that
-- these refer to in walk order, each followed by its own before the next."
use Rattle.std.specs.Prelude.{ℕ, zero, suc, ◌+◌, ◌*◌, List, [], ◌∷◌, ◌++◌, length}
use Rattle.coding.specs.Bytes.{le_bytes}

-- ---- bytes, references and in-place contents
-- a sequence: the end; some bytes; a reference to an object, of o bytes; a content "in place", which stands behind the
-- whole sequence and takes no bytes where it is named; a sequence that stands here, before the rest, for an element of a direct list:
-- "This is done as described in the Tables section except that the MAGIC and size are skipped." (000)
pub data Cells : Type 0 where
  end : Cells
  bytes : List ℕ → Cells → Cells
  reference : Cells → Cells → Cells
  in_place : Cells → Cells → Cells
  part : Cells → Cells → Cells

-- ---- the lengths of the three parts
-- the bytes of the sequence itself: "An object is written"
unfoldable pub width : ℕ → Cells → ℕ
width o end = 0
width o (bytes bs c) = length bs + width o c
width o (reference k c) = o + width o c
width o (in_place k c) = width o c
width o (part k c) = width o k + width o c

-- the bytes of its "chain of in-place contents", each followed by its own
unfoldable pub chain : ℕ → Cells → ℕ
chain o end = 0
chain o (bytes bs c) = chain o c
chain o (reference k c) = chain o c
chain o (in_place k c) = width o k + chain o k + chain o c
chain o (part k c) = chain o k + chain o c

-- the bytes of "the objects that these refer to", the sequence and its chain, "each followed by its own"
unfoldable pub below : ℕ → Cells → ℕ
below o end = 0
below o (bytes bs c) = below o c
below o (reference k c) = width o k + chain o k + below o k + below o c
below o (in_place k c) = below o k + below o c
below o (part k c) = below o k + below o c

-- ---- the same three as bytes, where the first object that is referred to stands at s, and the others behind it "in walk
-- order": what a content in place refers to comes where its member stands
-- the sequence itself; a reference is the offset of its object
unfoldable pub width_bytes : ℕ → ℕ → Cells → List ℕ
width_bytes o s end = []
width_bytes o s (bytes bs c) = bs ++ width_bytes o s c
width_bytes o s (reference k c) = le_bytes o s ++ width_bytes o (s + (width o k + chain o k + below o k)) c
width_bytes o s (in_place k c) = width_bytes o (s + below o k) c
width_bytes o s (part k c) = width_bytes o s k ++ width_bytes o (s + below o k) c

-- its "chain of in-place contents behind it"
unfoldable pub chain_bytes : ℕ → ℕ → Cells → List ℕ
chain_bytes o s end = []
chain_bytes o s (bytes bs c) = chain_bytes o s c
chain_bytes o s (reference k c) = chain_bytes o (s + (width o k + chain o k + below o k)) c
chain_bytes o s (in_place k c) = width_bytes o s k ++ (chain_bytes o s k ++ chain_bytes o (s + below o k) c)
chain_bytes o s (part k c) = chain_bytes o s k ++ chain_bytes o (s + below o k) c

-- "the objects that these refer to in walk order, each followed by its own before the next"
unfoldable pub below_bytes : ℕ → ℕ → Cells → List ℕ
below_bytes o s end = []
below_bytes o s (bytes bs c) = below_bytes o s c
below_bytes o s (reference k c) =
    width_bytes o (s + (width o k + chain o k)) k
    ++ (chain_bytes o (s + (width o k + chain o k)) k
    ++ (below_bytes o (s + (width o k + chain o k)) k ++ below_bytes o (s + (width o k + chain o k + below o k)) c))
below_bytes o s (in_place k c) = below_bytes o s k ++ below_bytes o (s + below o k) c
below_bytes o s (part k c) = below_bytes o s k ++ below_bytes o (s + below o k) c

-- all of it, the sequence at 0: "with its chain of in-place contents behind it; then the objects that these refer to"
unfoldable pub layout : ℕ → Cells → List ℕ
layout o c =
    width_bytes o (width o c + chain o c) c
    ++ (chain_bytes o (width o c + chain o c) c ++ below_bytes o (width o c + chain o c) c)

-- ---- with single bits: "the next free bit, lowest first, of the last bool byte; if none is free a zeroed byte is
-- appended"
-- as Cells, and a bit, which is 0 or 1; a part has bool bytes of its own, as an element of a direct list has
pub data Slots : Type 0 where
  end : Slots
  bytes : List ℕ → Slots → Slots
  bit : ℕ → Slots → Slots
  reference : Slots → Slots → Slots
  in_place : Slots → Slots → Slots
  part : Slots → Slots → Slots

-- the next n bits as a number, the first being the lowest: "lowest first"; "Every unused bit ... is zero"
unfoldable pub gather : ℕ → Slots → ℕ
gather n Slots.end = 0
gather n (Slots.bytes bs s) = gather n s
gather zero (bit x s) = 0
gather (suc n) (bit x s) = x + 2 * gather n s
gather n (Slots.reference k s) = gather n s
gather n (Slots.in_place k s) = gather n s
gather n (Slots.part k s) = gather n s

-- the bits in their bytes, where f bits of "the last bool byte" are free: the first bit of a byte appends it, filled with
-- up to seven more
unfoldable pub pack_bits : ℕ → Slots → Cells
pack_bits f Slots.end = Cells.end
pack_bits f (Slots.bytes bs s) = Cells.bytes bs (pack_bits f s)
pack_bits zero (bit x s) = Cells.bytes ((x + 2 * gather 7 s) ∷ []) (pack_bits 7 s)
pack_bits (suc f) (bit x s) = pack_bits f s
pack_bits f (Slots.reference k s) = Cells.reference (pack_bits 0 k) (pack_bits f s)
pack_bits f (Slots.in_place k s) = Cells.in_place (pack_bits 0 k) (pack_bits f s)
pack_bits f (Slots.part k s) = Cells.part (pack_bits 0 k) (pack_bits f s)
