-- What the writer's answer says: the sheet's tree, which is writable, and the message of that tree, which is within the size.
use Rattle.std.specs.Prelude.{◌≡◌, List, Bool, true, false, ℕ, ◌≤◌, leb, length}
use Rattle.std.proofs.Math.Path.{refl}
use Rattle.std.proofs.Common.{sym, arith, leb-true}
use Rattle.std.proofs.Math.Option.{Option, some}
use Rattle.std.proofs.Math.Option as Op
use Rattle.coding.specs.Lists.{pick}
use Rattle.coding.specs.Bytes.{largest, deepest}
use Rattle.coding.specs.Packed.{parse}
use Rattle.coding.specs.Lawful.{lawful}
use Rattle.coding.specs.Value.{Value}
use Rattle.coding.specs.Sheet.{sheet_tree}
use Rattle.coding.specs.Message.{writable, message_of, refused, message, written_tree, written}
use Rattle.coding.specs.declared.Object.TheVariants as O

pub record WrittenAs (o : ℕ) (b s m : List ℕ) : Type 0 where
  pub tree : Value
  pub schema : lawful o b ≡ true
  pub decoded : sheet_tree (parse b) s ≡ some tree
  pub fit : writable deepest o (parse b) (O.Table (parse b).root) tree ≡ true
  pub made : m ≡ message_of o (parse b) tree
  pub sized : length m ≤ largest

not_refused : {A : Type 0} (n : ℕ) (m : List ℕ) → refused n ≡ message m → A
not_refused n m e = let z : ◌≡◌ {A = ℕ} 0 1 = cc in absurd (omega arith)

same-message : (l m : List ℕ) → message l ≡ message m → l ≡ m
same-message l m e = cc

module _ (o : ℕ) (b s m : List ℕ) (good : lawful o b ≡ true) where
  sized_as : (v : Value) (t : Bool) → leb (length (message_of o (parse b) v)) largest ≡ t → sheet_tree (parse b) s ≡ some v
      → writable deepest o (parse b) (O.Table (parse b).root) v ≡ true → pick t (message (message_of o (parse b) v)) (refused 13) ≡ message m
      → WrittenAs o b s m
  sized_as v true l d w e =
      let q = same-message (message_of o (parse b) v) m e in
      record {
        tree = v;
        schema = good;
        decoded = d;
        fit = w;
        made = sym q;
        sized = rw (← q) (leb-true (length (message_of o (parse b) v)) largest l);
      }
  sized_as v false l d w e = not_refused 13 m e

  writable_as : (v : Value) (t : Bool) → writable deepest o (parse b) (O.Table (parse b).root) v ≡ t → sheet_tree (parse b) s ≡ some v
      → pick t (pick (leb (length (message_of o (parse b) v)) largest) (message (message_of o (parse b) v)) (refused 13)) (refused 12) ≡ message m
      → WrittenAs o b s m
  writable_as v true w d e = sized_as v (leb (length (message_of o (parse b) v)) largest) refl d w e
  writable_as v false w d e = not_refused 12 m e

  tree_as : (x : Option Value) → sheet_tree (parse b) s ≡ x → written_tree o (parse b) x ≡ message m → WrittenAs o b s m
  unfolding written_tree
  tree_as Op.none d e = not_refused 11 m e
  tree_as (Op.some v) d e = writable_as v (writable deepest o (parse b) (O.Table (parse b).root) v) refl d e

lawful_as : (o : ℕ) (b s m : List ℕ) (t : Bool) → lawful o b ≡ t → pick t (written_tree o (parse b) (sheet_tree (parse b) s)) (refused 1) ≡ message m
    → WrittenAs o b s m
lawful_as o b s m true l e = tree_as o b s m l (sheet_tree (parse b) s) refl e
lawful_as o b s m false l e = not_refused 1 m e

pub written_as : (o : ℕ) (b s m : List ℕ) → written o b s ≡ message m → WrittenAs o b s m
unfolding written
written_as o b s m e = lawful_as o b s m (lawful o b) refl e
