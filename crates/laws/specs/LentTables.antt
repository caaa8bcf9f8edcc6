-- The readers that a table of member positions is lent to (02, K10): by which schema they go.
use Rattle.std.specs.Prelude.{◌≡◌, true, false, List, [], ℕ}
use Rattle.std.proofs.Math.Bool.{and-false}
use Rattle.coding.specs.Bytes.{width_known}
use Rattle.coding.specs.Lawful.{counts_ok, shape_ok, well_formed, lawful}
use Rattle.coding.specs.Positions.{table_right, with_table}

module _ (o : ℕ) (b t : List ℕ) where
  -- with the right table by the schema
  pub right-schema : table_right o b t ≡ true → with_table o b t ≡ b
  unfolding with_table
  right-schema e = rw e

  -- with another by no bytes
  pub wrong-schema : table_right o b t ≡ false → with_table o b t ≡ []
  unfolding with_table
  wrong-schema e = rw e

-- which are lawful under no coding
pub no-schema : (o : ℕ) → lawful o [] ≡ false
unfolding lawful well_formed shape_ok counts_ok
no-schema o = and-false (width_known o)
