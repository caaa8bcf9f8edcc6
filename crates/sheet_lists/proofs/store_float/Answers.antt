use Rattle.sheet_values.proofs.Cases.{float_none}
use Rattle.sheet_lists.proofs.Elements.{float_four, float_eight_fits, float_eight}
use Rattle.sheet_lists.proofs.store_float.Goals as goal

pub returns-then-is_nan : goal.returns-then-is_nan
returns-then-is_nan g c = search float_none

pub returns-then-this-eq4 : goal.returns-then-this-eq4
returns-then-this-eq4 g c = search float_four

pub put_eight-requires-clause-pos_bound : goal.put_eight-requires-clause-pos_bound
put_eight-requires-clause-pos_bound g c = search float_eight_fits

pub returns : goal.returns
returns g c = search float_eight
