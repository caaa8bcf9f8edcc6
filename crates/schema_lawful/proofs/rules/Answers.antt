use Rattle.std.proofs.Common.{refl, sym, ◌∙◌, rules, tests}
use Rattle.coding.specs.Lawful as L
use Rattle.laws.specs.Lists.{never}
use Rattle.schema.specs.Every.{every_from_all}
use Rattle.schema_lawful.specs.Parts as Pa
use Rattle.schema_lawful.proofs.rules.Goals as goal
use Rattle.schema_lawful.proofs.rules.Goals.{then-all, else-all, then-all-2, else-all-2}

pub returns-then-all-3 : goal.returns-then-all-3
unfolding Pa.rest_lawful
returns-then-all-3 c =
    let b = c.args.packed.now.bytes.now in
    let lists = every_from_all (L.list_lawful b) c.all.ensures.ran refl c.count-lists.ensures.0 (λ x t q k. search (rules, tests)) in
    let ids = every_from_all (L.id_lawful b) c.all-then-all-3.ensures.ran refl c.count-tables.ensures.0 (λ x t q k. search (rules, tests)) in
    elim c.if-all-2.branch [
      | then-all-2 v ↦
          let tables = every_from_all (L.table_lawful b) v.all-then-all-2.ensures.ran refl c.count-tables.ensures.0 (λ x t q k. search (rules, tests)) in
          elim c.if-all.branch [
            | then-all w ↦
                let unions = every_from_all (L.union_lawful b) w.all-then-all.ensures.ran refl c.count-unions.ensures.0 (λ x t q k. search (rules, tests)) in
                simp (sym lists ∙ w.if-all.true, sym unions ∙ sym w.value-is ∙ v.if-all-2.true, sym tables ∙ sym v.value-is ∙ c.if-all-3.true) ids
            | else-all w ↦ never (sym w.if-all.false ∙ sym w.value-is ∙ v.if-all-2.true)
          ]
      | else-all-2 v ↦ never (sym v.if-all-2.false ∙ sym v.value-is ∙ c.if-all-3.true)
    ]

pub returns-else-all-3 : goal.returns-else-all-3
unfolding Pa.rest_lawful
returns-else-all-3 c =
    let b = c.args.packed.now.bytes.now in
    let lists = every_from_all (L.list_lawful b) c.all.ensures.ran refl c.count-lists.ensures.0 (λ x t q k. search (rules, tests)) in
    elim c.if-all-2.branch [
      | then-all-2 v ↦
          let tables = every_from_all (L.table_lawful b) v.all-then-all-2.ensures.ran refl c.count-tables.ensures.0 (λ x t q k. search (rules, tests)) in
          elim c.if-all.branch [
            | then-all w ↦
                let unions = every_from_all (L.union_lawful b) w.all-then-all.ensures.ran refl c.count-unions.ensures.0 (λ x t q k. search (rules, tests)) in
                simp (sym lists ∙ w.if-all.true, sym unions ∙ sym w.value-is ∙ v.if-all-2.true, sym tables ∙ sym v.value-is ∙ c.if-all-3.false) c.if-all-3.false
            | else-all w ↦ never (sym w.if-all.false ∙ sym w.value-is ∙ v.if-all-2.true)
          ]
      | else-all-2 v ↦
          elim c.if-all.branch [
            | then-all w ↦
                let unions = every_from_all (L.union_lawful b) w.all-then-all.ensures.ran refl c.count-unions.ensures.0 (λ x t q k. search (rules, tests)) in
                simp (sym lists ∙ w.if-all.true, sym unions ∙ sym w.value-is ∙ v.if-all-2.false) c.if-all-3.false
            | else-all w ↦ simp (sym lists ∙ w.if-all.false) c.if-all-3.false
          ]
    ]
