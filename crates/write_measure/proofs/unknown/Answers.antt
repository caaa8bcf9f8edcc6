use borrow.Author.Rules.{rules}
use Rattle.write_measure.proofs.PartCases.{unknown_flat, unknown_object, unknown_union, union-counted}
use Rattle.write_measure.proofs.unknown.Goals as goal

pub returns-in-OfFlat : goal.returns-in-OfFlat
returns-in-OfFlat c = unknown_flat _ _ _ _ c.flat_unknown.result c.map.result c.map.ensures.cases c.in-OfFlat.f c.in-OfFlat.is c.flat_unknown.ensures

pub choice_unknown-requires : goal.choice_unknown-requires
choice_unknown-requires c = search (union-counted, rules)

pub returns-in-OfObject : goal.returns-in-OfObject
returns-in-OfObject c = search unknown_object

pub returns-in-OfUnion : goal.returns-in-OfUnion
returns-in-OfUnion c =
    unknown_union _ _ _ _ c.choice_unknown.result c.map-in-OfUnion.result c.map-in-OfUnion.ensures.cases c.in-OfUnion.u _ c.in-OfUnion.is c.from.ensures c.choice_unknown.ensures
