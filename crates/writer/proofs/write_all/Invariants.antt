use lib.ListN.{take}
use Rattle.netlist.specs.Netlist.{nets, connected_on}
use Rattle.rank.specs.Facts.{rising_nets}
use Rattle.netsearch.specs.HomeTrack.{home_track_of}
use Rattle.writer.proofs.NetsLaws.{NetsWritten}
use Rattle.writer.proofs.write_all.Given as goal

abbrev pub invariant-loop-j : goal.invariant-loop-j
invariant-loop-j l =
    let s = l.sheet.netlist.bytes.now in
    NetsWritten (connected_on s l.w) (home_track_of (rising_nets s) (take l.sheet.netlist.trailer.nets l.homes)) (nets s) l.initial.out l.out l.j l.at
