-- The round trip of trees, at any width of an offset: the message of a tree that can be written reads as that tree, and the walk
-- over it arrives at the tree's objects in turn.
use Rattle.std.specs.Prelude.{◌≡◌, List, ℕ, ◌*◌, ◌^◌, ◌<◌, length}
use Rattle.coding.specs.Bytes.{deepest}
use Rattle.coding.specs.Schema.{Schema}
use Rattle.coding.specs.Walk.{nothing, walk, root_place}
use Rattle.coding.specs.Value.{Value}
use Rattle.coding.specs.Read.{message_read}
use Rattle.coding.specs.Message.{message_of}
use Rattle.coding.specs.declared.Object.TheVariants as O
use Rattle.coding.specs.declared.Budget.{Budget}
use Rattle.laws.specs.Sound.{Sound}
use Rattle.demands.specs.InTurn.{spend}
use Rattle.demands.specs.TreeLengths.{tree_lengths}
use Rattle.demands.specs.Writes.{Writes}
use Rattle.demands.specs.TreeRead.{tree-read}
use Rattle.demands.specs.TreeWalk.{Ends, tree-passes}
use Rattle.demands.specs.WrittenMessage.{message_holds}

-- the content lengths of the objects of a message's tree, in the order of the walk
abbrev pub root_lengths : ℕ → Schema → Value → List ℕ
root_lengths o S v = tree_lengths deepest o S (O.Table S.root) v

-- for a message that this width can address
module _ (o : ℕ) (S : Schema) (sound : Sound S) (v : Value) (w : Writes deepest o S (O.Table S.root) v) (wide : 0 < o)
    (small : 8 * length (message_of o S v) < 256 ^ o) where
  pub written_reads : message_read o S (message_of o S v) ≡ v
  unfolding message_read
  written_reads =
      let m = message_of o S v in
      tree-read o S m deepest (O.Table S.root) v (root_place o m) (message_holds o S sound v w wide small).1

  -- with every budget the walk comes to what the lengths come to
  pub written_walks : (b : Budget) → Ends (spend b (root_lengths o S v) nothing) (walk o S (message_of o S v) b)
  unfolding walk
  written_walks b =
      let m = message_of o S v in
      tree-passes o S m b deepest (O.Table S.root) v (root_place o m) (message_holds o S sound v w wide small).1 nothing
