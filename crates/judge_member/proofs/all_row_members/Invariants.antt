use Prim.Native.Nat.{◌-◌, ◌≤◌}
use Rattle.judge_member.specs.Records as Rs
use Rattle.judge_member.proofs.all_row_members.Given as goal

abbrev pub invariant-loop-j : goal.invariant-loop-j
invariant-loop-j l = (l.j ≤ l.count) × Rs.RowMembers l.b l.first l.j

abbrev pub decreases-loop-j : goal.decreases-loop-j
decreases-loop-j l = l.count - l.j
