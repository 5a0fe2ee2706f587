-- `assignment::judge_space` meets its contract: the entry total is the entry count of the sheet's nets. Assumes nothing.
use Rattle.std.proofs.Common.{sym, arith}
use Rattle.netlist.specs.Netlist.{nets}
use Rattle.numbers.proofs.NumbersLaws.{space-short, space-room}
use Rattle.net.specs.Nets.{entry_count}
use Rattle.assignment.proofs.judge_space.Goals as goal

pub returns-then-len-entry_total : goal.returns-then-len-entry_total
returns-then-len-entry_total c =
    let a = c.args in
    let e = c.entry_total.ensures.0 in
    sym (space-short (entry_count (nets a.sheet.netlist.bytes.now)) a.len (omega arith))

pub returns : goal.returns
returns c =
    let a = c.args in
    let e = c.entry_total.ensures.0 in
    sym (space-room (entry_count (nets a.sheet.netlist.bytes.now)) a.len (omega arith))
