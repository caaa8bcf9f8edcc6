use Rattle.schema.specs.Parsed.{bytes_of}
use Rattle.message_layout.specs.Bounds.{Laid}
use Rattle.judge_direct.specs.Direct as Ds
use Prim.Native.Nat.{◌-◌, ◌*◌, ◌≤◌}
use Rattle.judge_direct.proofs.is_silent.Given as goal

abbrev pub invariant-loop-j : goal.invariant-loop-j
invariant-loop-j l = Laid (4097 * l.j) l.c × Ds.Onto l.schema.width (bytes_of l.schema) l.t l.w l.c l.j
