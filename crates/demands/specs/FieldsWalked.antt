-- The field's answer from the packed bytes of a schema, where the walk goes on to the end: it is the answer of the path, and
-- that shows what the tree shows.
use Rattle.std.specs.Prelude.{◌≡◌, List, true, ℕ, ◌≤◌, length, Ok}
use Rattle.std.proofs.Common.{sym, ◌∙◌}
use Rattle.std.proofs.Math.Path.{ap}
use borrow.Author.Tests.{le-leb}
use Rattle.coding.specs.Packed.{parse}
use Rattle.coding.specs.Lawful.{lawful}
use Rattle.coding.specs.Walk.{walk, size_ok, start_ok}
use Rattle.coding.specs.Read.{message_read}
use Rattle.coding.specs.Field.{found, answer_of, field_found, field, found_span, field_span, text_of, field_text}
use Rattle.laws.specs.Sound.{Sound}
use Rattle.demands.specs.FieldEntries.{shown, entry_at, text_at}
use Rattle.demands.specs.FieldShows.{found_shows, shows_entry, shows-text, shows-refusal}
use Rattle.coding.specs.declared.Object.TheVariants as O
use Rattle.coding.specs.declared.Answer.TheVariants as A
use Rattle.coding.specs.declared.Budget.{Budget}
use Rattle.coding.specs.declared.Spent.{Spent}
use Rattle.coding.specs.declared.Refusal.{Refusal}
use Rattle.coding.specs.declared.Found.{Found}

module _ (o : ℕ) (b m : List ℕ) (budget : Budget) (path : List ℕ) (sound : Sound (parse b)) (schema : lawful o b ≡ true)
    (size : size_ok o m ≡ true) (start : start_ok m ≡ true) (spent : Spent) (walks : walk o (parse b) m budget ≡ Ok spent)
    (short : length path ≤ 96) where
  path-found : field_found o b m path ≡ found o (parse b) m path
  unfolding field_found
  path-found = rw (schema, le-leb (length path) 96 short, size, start)

  pub walked_entry : shown (field o b m path) ≡ entry_at (parse b) (O.Table (parse b).root) (message_read o (parse b) m) path
  unfolding field entry_at
  walked_entry =
      ap (λ (f : Found). shown (answer_of f)) path-found
      ∙ shows_entry o (parse b) m budget (found_shows o (parse b) sound m budget spent walks path)

  pub walked-text : field_text o b m path ≡ text_at (parse b) (O.Table (parse b).root) (message_read o (parse b) m) path
  unfolding field_text field_span text_at
  walked-text =
      ap (λ (f : Found). text_of m (found_span f)) path-found ∙ shows-text o (parse b) m budget (found_shows o (parse b) sound m budget spent walks path)

  pub walked-refusal : (r : Refusal) → field o b m path ≡ A.Refused r → r.number ≡ 15
  unfolding field
  walked-refusal r e =
      shows-refusal o (parse b) m budget (found_shows o (parse b) sound m budget spent walks path) r
      (sym (ap answer_of path-found) ∙ e)
