-- `utf8::after_byte` meets its contract, by the table's rule.
use Rattle.std.proofs.Common.{ℕ, ◌/◌, ◌%◌, ◌^◌, get_or, subst, sym, rules}
use Rattle.utf8.specs.Table.{words}
use Rattle.utf8.specs.Steps.{StateAfter}
use Rattle.utf8.proofs.TableLaws.{shift-after}
use Rattle.utf8.proofs.after_byte.Goals as goal

pub returns : goal.returns
returns c = let a = c.args in
    subst (λ (i : ℕ). StateAfter a.w a.b (get_or words i 0 / 2 ^ (a.w % 64))) (sym c.from.ensures) (shift-after a.w a.b c.requires (search rules))
