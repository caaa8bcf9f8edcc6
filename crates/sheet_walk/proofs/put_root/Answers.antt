use Rattle.sheet_walk.proofs.Root.{root_long, root_readable, root_puts}
use borrow.Author.Rules.{rules}
use Rattle.sheet_walk.proofs.put_root.Goals as goal

pub root_place-p-requires : goal.root_place-p-requires
root_place-p-requires c = (search rules, search root_long)

pub put_object-requires-clause-object_readable : goal.put_object-requires-clause-object_readable
put_object-requires-clause-object_readable c = search root_readable

pub returns : goal.returns
returns c = search root_puts
