-- A header: offset and header fit, magic, where its content starts and the length that it gives; content that fits.
use Rattle.std.specs.Prelude.{ℕ, ◌+◌, ◌^◌, ◌<◌, ◌&&◌, List, length, leb, eqb, Result, Ok, Err}
use Rattle.coding.specs.Lists.{pick}
use Rattle.coding.specs.Bytes.{le}
use Rattle.coding.specs.Walk.{start_size, element_id, most_elements, content_at}
use Rattle.coding.specs.declared.Object.{Object}
use Rattle.coding.specs.declared.Object.TheVariants as O
use Rattle.coding.specs.declared.Content.{Content}

-- the header of an object type, by its magic and its size
unfoldable pub header_of : ℕ → ℕ → ℕ → List ℕ → ℕ → Result Content ℕ
header_of o magic size m x =
    pick (leb (start_size o) x && leb (x + size) (length m))
    (pick (eqb (le m x 4) magic) (Ok (content_at (x + size) (le m (x + 4) o))) (Err 7))
    (Err 6)

-- the header of a direct list, by the id of its elements' table
unfoldable pub direct_header_of : ℕ → ℕ → List ℕ → ℕ → Result Content ℕ
direct_header_of o id m x =
    pick (leb (start_size o) x && leb (x + (4 + o + 8)) (length m))
    (pick (eqb (le m x 4) 0xE2C6_CC05)
    (pick (eqb (element_id o m x) id)
    (pick (leb (le m (x + 4) o) most_elements) (Ok (content_at (x + (4 + o + 8)) (le m (x + 4) o))) (Err 6))
    (Err 7))
    (Err 7))
    (Err 6)

-- content of `size` bytes and length n at `start`
unfoldable pub fitted : List ℕ → ℕ → ℕ → ℕ → Result Content ℕ
fitted m start size n = pick (leb (start + size) (length m)) (Ok (content_at start n)) (Err 6)

-- where content starts, and its length, are small
abbrev pub Small : Result Content ℕ → Type 0
Small (Err n) = Unit {0}
Small (Ok c) = (c.start < 2 ^ 60) × (c.length < 2 ^ 48)

-- the end byte of a text lies within the message
abbrev pub EndInside : List ℕ → Object → ℕ → ℕ → Type 0
EndInside m O.Text start n = start + n < length m
EndInside m O.Bytes start n = Unit {0}
EndInside m (O.List i) start n = Unit {0}
EndInside m (O.Table i) start n = Unit {0}
EndInside m (O.DirectList t) start n = Unit {0}
