-- `nettracks::NetTracks::entry_passes` meets its contract: each arm runs the test that `tracks_pass_at` gives for its name. Assumes nothing.
use native.Mathlib.Omega.{arith}
use Rattle.net.specs.Read.{net_read}
use Rattle.nettracks.proofs.NetTracksLaws.{in_range-at, whole-range}
use Rattle.nettracks.proofs.NetTracks.entry_passes.Goals as goal

pub is_held-requires : goal.is_held-requires
is_held-requires c =
    let s = c.args.self in
    let i = c.args.i in
    let range = c.requires.0 (whole-range c.in-Whole.is) in
    (omega (arith, s.few i c.requires.1), omega (arith, in_range-at s.switches.width (net_read s.record) s.tracks.now range i c.requires.1, s.switches.narrow))
