use borrow.Author.Rules.{rules}
use Rattle.write_pass.proofs.EmitRoom.{begun, going_room, room-below}
use Rattle.write_pass.proofs.RunCases.{bits_begun, bits-cut, bits_done, bits_turn, bits_octet, octet-cut}
use Rattle.write_pass.proofs.emit_bits.Goals as goal

pub loop-left-init : goal.loop-left-init
loop-left-init c = (search rules, search bits_begun)

pub put_octet-p-requires : goal.put_octet-p-requires
put_octet-p-requires c = search (room-below, going_room, rules)

pub returns-in_err-y : goal.returns-in_err-y
returns-in_err-y c = search (octet-cut, c.in_err-y.ensures)

pub loop-left-preserved-then-at-eq0 : goal.loop-left-preserved-then-at-eq0
loop-left-preserved-then-at-eq0 c = (search rules, search (bits_octet, c.in_ok-y.ensures))

pub returns-in_err-x : goal.returns-in_err-x
returns-in_err-x c = search (bits-cut, c.in_err-x.ensures)

pub put_bit-p-requires : goal.put_bit-p-requires
put_bit-p-requires c = search (room-below, going_room, c.in_ok-x.ensures, rules)

pub loop-left-preserved : goal.loop-left-preserved
loop-left-preserved c = (search rules, search (bits_turn, c.in_ok-x.ensures))

pub returns : goal.returns
returns c = search bits_done
