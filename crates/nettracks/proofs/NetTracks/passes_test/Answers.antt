-- `nettracks::NetTracks::passes_test` meets its contract: a test of all entries is its test of each. Assumes nothing.
use Rattle.std.proofs.Common.{rules, tests, sym, ap, ◌∙◌}
use Rattle.bounded.proofs.Listed.{every_from_all}
use Rattle.marks.specs.Marks.{marked_in}
use Rattle.switchbox.specs.SwitchBox.{connected}
use Rattle.net.specs.Net.{size}
use Rattle.net.specs.Read.{net_read}
use Rattle.nettracks.specs.Facts.{tracks_pass_at}
use Rattle.nettracks.proofs.NetTracksLaws.{tracks_pass-every}
use Rattle.nettracks.proofs.NetTracks.passes_test.Goals as goal

pub returns : goal.returns
returns c =
    let s = c.args.self in
    let n = net_read s.record in
    every_from_all (size n) (tracks_pass_at c.args.test (connected s.switches.boxes.fabric s.switches.width) (marked_in c.args.dead.now) s.switches.width n s.tracks.now) c.all.ensures.ran
    (ap (λ e. record { start = 0; end = e }) c.entry_count.ensures.0)
    (λ x b q k. search (rules, tests))
    ∙ sym (tracks_pass-every _ _ _ _ _ _)
