-- What a message says: the tree of values that a value sheet packs, "each with a 2-bit mark: 0 absent, 1 present, 2
-- unknown, 3 not lawful". No value of the tree has the last.
use Rattle.std.specs.Prelude.{ℕ, suc, List, [], Bool, true, false}

-- Absent; unknown, "the 8-bit or 16-bit number"; and what is present: a number, for "Present bool 1 bit; numbers at their
-- width (floats as their bits); enum 8 bits"; a blob, for "text or bytes a 32-bit length and the bytes"; a row of parts,
-- for "list a 32-bit count and elements; table its members" and a struct; a chosen case, for "union a 16-bit choice and the
-- object". Values are such parts in order.
mutual
  pub data Value : Type 0 where
    absent : Value
    unknown : ℕ → Value
    number : ℕ → Value
    blob : List ℕ → Value
    row : Values → Value
    chosen : ℕ → Value → Value

  pub data Values : Type 0 where
    none : Values
    ◌then◌ : Value → Values → Values

infixr 40 ◌then◌
-- ---- the part of a value that its kind says it has; of a value of another form 0, nothing or absent
-- a present bool, number, float or enum, or the choice of "a 16-bit choice and the object"
unfoldable pub as_number : Value → ℕ
as_number absent = 0
as_number (unknown x) = 0
as_number (number x) = x
as_number (blob l) = 0
as_number (row vs) = 0
as_number (chosen c v) = c

-- the bytes of a present text or bytes: "a 32-bit length and the bytes"
unfoldable pub as_blob : Value → List ℕ
as_blob absent = []
as_blob (unknown x) = []
as_blob (number x) = []
as_blob (blob l) = l
as_blob (row vs) = []
as_blob (chosen c v) = []

-- the parts of a present struct, list or table: "list a 32-bit count and elements; table its members"
unfoldable pub as_row : Value → Values
as_row absent = none
as_row (unknown x) = none
as_row (number x) = none
as_row (blob l) = none
as_row (row vs) = vs
as_row (chosen c v) = none

-- the object of a present union: "a 16-bit choice and the object"
unfoldable pub as_object : Value → Value
as_object absent = absent
as_object (unknown x) = absent
as_object (number x) = absent
as_object (blob l) = absent
as_object (row vs) = absent
as_object (chosen c v) = v

-- whether the mark is "1 present"
unfoldable pub present : Value → Bool
present absent = false
present (unknown x) = false
present (number x) = true
present (blob l) = true
present (row vs) = true
present (chosen c v) = true

-- whether the mark is another than "2 unknown"
unfoldable pub known : Value → Bool
known absent = true
known (unknown x) = false
known (number x) = true
known (blob l) = true
known (row vs) = true
known (chosen c v) = true

-- the first of some parts, absent if there is none: "Table members in order"
unfoldable pub first : Values → Value
first none = absent
first (v then vs) = v

-- the parts behind the first: "Table members in order"
unfoldable pub others : Values → Values
others none = none
others (v then vs) = vs

-- how many parts there are: "a 32-bit count"
unfoldable pub count : Values → ℕ
count none = 0
count (v then vs) = suc (count vs)
