use native.Mathlib.Omega.{arith}
use Rattle.laws.specs.Rules.{counts_hold}
use Rattle.schema_shape.proofs.Placing.{places_1, places_2, places_3, places_4}
use Rattle.schema_shape.proofs.places.Goals as goal

pub blocks-requires : goal.blocks-requires
blocks-requires c = let k = counts_hold c.args.b.now c.requires.1 in search arith

pub returns-in_default : goal.returns-in_default
returns-in_default c = search places_1

pub blocks-requires-2 : goal.blocks-requires-2
blocks-requires-2 c = let k = counts_hold c.args.b.now c.requires.1 in search arith

pub returns-in_default-blocks : goal.returns-in_default-blocks
returns-in_default-blocks c = search places_2

pub blocks-requires-3 : goal.blocks-requires-3
blocks-requires-3 c = let k = counts_hold c.args.b.now c.requires.1 in search arith

pub returns-in_default-blocks-2 : goal.returns-in_default-blocks-2
returns-in_default-blocks-2 c = search places_3

pub returns : goal.returns
returns c = let k = counts_hold c.args.b.now c.requires.1 in search places_4
