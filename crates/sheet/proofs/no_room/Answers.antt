use mathlib.Core.Path.{refl}
use Rattle.coding.specs.Walk as W
use Rattle.sheet.specs.Answers.{no_room}
use Rattle.sheet.proofs.no_room.Goals as goal

pub returns : goal.returns
unfolding no_room W.no_member
returns c = refl
