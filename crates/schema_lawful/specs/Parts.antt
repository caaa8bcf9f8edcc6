-- The rules of lists, unions, tables and ids, each at every index.
use Rattle.std.specs.Prelude.{List, Bool, ◌&&◌, ℕ}
use Rattle.coding.specs.Lists.{every}
use Rattle.coding.specs.Packed.{list_count, union_count, table_count}
use Rattle.coding.specs.Lawful.{list_lawful, union_lawful, table_lawful, id_lawful}

-- what is left of the rules behind those of the structs
unfoldable pub rest_lawful : List ℕ → Bool
rest_lawful b =
    every (list_lawful b) (list_count b)
    && (every (union_lawful b) (union_count b) && (every (table_lawful b) (table_count b) && every (id_lawful b) (table_count b)))
