use Rattle.sheet_walk.proofs.Placed.{placed_inside, placed_none}
use Rattle.sheet_walk.proofs.put_placed.Goals as goal

pub put_flat-requires-clause-k_in_bounds : goal.put_flat-requires-clause-k_in_bounds
put_flat-requires-clause-k_in_bounds c = placed_inside _ _ _ _ _ _ _ c.args.fixed.now.inside c.args.fixed.now.reading.now.within c.requires.sits _ _ c.reach_of.ensures c.in-Here.is _ c.in-OfFlat.is

pub returns-in-OfObject : goal.returns-in-OfObject
returns-in-OfObject c = search placed_none
