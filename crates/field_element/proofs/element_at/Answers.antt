use native.Mathlib.Omega.{arith}
use mathlib.Core.Path.{◌∙◌}
use Rattle.laws.specs.Parsed.{lists_length}
use Rattle.schema.specs.Parsed.{bytes_of}
use Rattle.field_element.proofs.ElementCases.{at_list, at_direct, list_inside, direct_inside, list_short, direct_short}
use borrow.Author.Rules.{rules}
use Rattle.field_element.proofs.element_at.Goals as goal

pub list_part-requires : goal.list_part-requires
list_part-requires c = let list = c.args.list.now in
    record {
      in_bounds = omega (arith, list.listed c.in-List.i c.in-List.is, lists_length (bytes_of list.reading.schema), c.from.ensures);
      length_in_bounds = search list_inside;
    }

pub direct_part-requires-clause-place_in_bounds : goal.direct_part-requires-clause-place_in_bounds
direct_part-requires-clause-place_in_bounds c = search direct_inside

pub returns-in-List : goal.returns-in-List
returns-in-List c = (search at_list, search (list_short, list_inside))

pub returns-in-Direct : goal.returns-in-Direct
returns-in-Direct c = (search at_direct, search (direct_short, direct_inside, c.args.list.now.direct))
