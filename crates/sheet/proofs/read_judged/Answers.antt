use Rattle.sheet.proofs.Whole.{message_readable, read_answer, read_over, refused_answer, refused_over}
use Rattle.sheet.proofs.read_judged.Goals as goal

pub invariant_of-reading-clause-within : goal.invariant_of-reading-clause-within
invariant_of-reading-clause-within c = (message_readable _ _ _ _ c.args.schema.now.accepted c.requires.allowed _ _ c.judged-v.ensures c.if-v-eq0.true).short

pub invariant_of-reading-clause-bytes : goal.invariant_of-reading-clause-bytes
invariant_of-reading-clause-bytes c = λ i. (c.shared_slice_known-1.given i).fits

pub read_accepted-requires : goal.read_accepted-requires
read_accepted-requires c = message_readable _ _ _ _ c.args.schema.now.accepted c.requires.allowed _ _ c.judged-v.ensures c.if-v-eq0.true

pub returns-then-v-eq0 : goal.returns-then-v-eq0
returns-then-v-eq0 c = record { value = search read_answer; out_after = search read_over }

pub returns : goal.returns
returns c = record { value = search refused_answer; out_after = refused_over _ _ _ _ _ _ c.judged-v.ensures c.if-v-eq0.false }
