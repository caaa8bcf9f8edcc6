use Rattle.std.proofs.Common.{refl, sym, ◌∙◌, rules, tests}
use Rattle.coding.specs.Packed as P
use Rattle.coding.specs.Lawful as L
use Rattle.laws.specs.Lists.{never}
use Rattle.schema.specs.Every.{every_from_all}
use Rattle.schema_lawful.proofs.older.Goals as goal
use Rattle.schema_lawful.proofs.older.Goals.{then-all, else-all}

pub returns-then-all-2 : goal.returns-then-all-2
unfolding L.older_ok
returns-then-all-2 c =
    let b = c.args.packed.now.bytes.now in
    let lists = every_from_all (λ i. L.older_element b (P.list_place b i)) c.all.ensures.ran refl c.count-lists.ensures.0 (λ x t q k. search (rules, tests)) in
    let tables = every_from_all (L.older_table b) c.all-then-all-2.ensures.ran refl c.count-tables.ensures.0 (λ x t q k. search (rules, tests)) in
    elim c.if-all.branch [
      | then-all w ↦
          let unions = every_from_all (L.older_union b) w.all-then-all.ensures.ran refl c.count-unions.ensures.0 (λ x t q k. search (rules, tests)) in
          simp (sym lists ∙ w.if-all.true, sym unions ∙ sym w.value-is ∙ c.if-all-2.true) tables
      | else-all w ↦ never (sym w.if-all.false ∙ sym w.value-is ∙ c.if-all-2.true)
    ]

pub returns-else-all-2 : goal.returns-else-all-2
unfolding L.older_ok
returns-else-all-2 c =
    let b = c.args.packed.now.bytes.now in
    let lists = every_from_all (λ i. L.older_element b (P.list_place b i)) c.all.ensures.ran refl c.count-lists.ensures.0 (λ x t q k. search (rules, tests)) in
    elim c.if-all.branch [
      | then-all w ↦
          let unions = every_from_all (L.older_union b) w.all-then-all.ensures.ran refl c.count-unions.ensures.0 (λ x t q k. search (rules, tests)) in
          simp (sym lists ∙ w.if-all.true, sym unions ∙ sym w.value-is ∙ c.if-all-2.false) c.if-all-2.false
      | else-all w ↦ simp (sym lists ∙ w.if-all.false) c.if-all-2.false
    ]
