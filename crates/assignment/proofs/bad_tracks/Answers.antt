-- `assignment::bad_tracks` meets its contract: the loop's invariant is that the nets passed are not looked at or pass the test, and that
-- `at` is the next net's first byte. Assumes nothing.
use mathlib.Core.Path.{◌≡◌, sym, ap, ap₂, ◌∙◌}
use mathlib.Core.Bool.{Bool, true, not}
use mathlib.Core.List.{List}
use Prim.Native.Nat.{ℕ}
use native.Mathlib.Omega.{arith}
use Rattle.bounded.proofs.BoundedLaws.{passed_none, passed-more, passed-all, failed-one}
use Rattle.marks.specs.Marks.{marked_in}
use Rattle.switchbox.specs.SwitchBox.{connected}
use Rattle.switchbox.specs.declared.Boxes.{Boxes}
use Rattle.switchbox.specs.Facts.{boxes_of}
use Rattle.switchbox.proofs.GeneratorLaws.{made-own}
use Rattle.net.specs.Net.{Net}
use Rattle.netlist.specs.declared.Trailer.{Trailer}
use Rattle.netlist.specs.Netlist.{trailer_of, fabric_of, nets}
use Rattle.netlist.proofs.NetlistLaws.{readable-allowed, readable-width, readable-trailer, nets-length}
use Rattle.nettracks.specs.declared.TrackTest.{TrackTest}
use Rattle.nettracks.specs.NetTracks.{in_range}
use Rattle.nettracks.specs.Facts.{tracks_pass}
use Rattle.assignment.specs.Assignment.{every_net}
use Rattle.assignment.specs.Facts.{bad_tracks}
use Rattle.assignment.proofs.AssignmentLaws.{first_byte-none, pass-of, pass-counted, pass-parents, pass-channel-lt, pass-end-le, pass-next, pass-filled}
use Rattle.assignment.proofs.AssignmentLaws.{pass-skips, pass-passes, pass-fails, pass-in-range}
use Rattle.assignment.proofs.bad_tracks.Goals as goal
use Rattle.assignment.proofs.bad_tracks.Goals.{then-not-is_skipped+else-not-passes_test, else-not-is_skipped}

-- the test of a net's tracks in the boxes, with the marks of the broken wires and at the width that a trailer says
abbrev test_of : TrackTest → List ℕ → Boxes → Trailer → Net → List ℕ → Bool
test_of test dead boxes trailer = tracks_pass test (connected boxes.fabric trailer.width) (marked_in dead) trailer.width

pub loop-k-init : goal.loop-k-init
loop-k-init c = (sym (first_byte-none _), passed_none _ _)

pub overflow_add-end : goal.overflow_add-end
overflow_add-end c =
    let s = c.args.inputs.now.sheet in
    let u = pass-of s.accepted s.netlist.own c.requires.whole c.loop-k-test.true c.loop-k.invariant.0 c.record-record.ensures in
    let l = pass-end-le u c.entry_count.result c.entry_count.ensures.0 in
    omega arith

pub slice_bounds-tracks-end : goal.slice_bounds-tracks-end
slice_bounds-tracks-end c =
    let s = c.args.inputs.now.sheet in
    let u = pass-of s.accepted s.netlist.own c.requires.whole c.loop-k-test.true c.loop-k.invariant.0 c.record-record.ensures in
    let l = pass-end-le u c.entry_count.result c.entry_count.ensures.0 in
    omega arith

pub invariant_of-switches : goal.invariant_of-switches
invariant_of-switches c =
    let i = c.args.inputs.now in
    let s = i.sheet.netlist in
    record { made = made-own i.made (readable-allowed s.readable); narrow = rw (s.own) (readable-width s.readable).1 }

pub invariant_of-net : goal.invariant_of-net
invariant_of-net c =
    let i = c.args.inputs.now in
    let u = pass-of i.sheet.accepted i.sheet.netlist.own c.requires.whole c.loop-k-test.true c.loop-k.invariant.0 c.record-record.ensures in
    record { sized = pass-filled u c.entry_count.result c.entry_count.ensures.0; parents = rw (i.made) (pass-parents u); few = pass-channel-lt u }

-- at an equal width
in-range : {w v : ℕ} (n : Net) (ts : List ℕ) → w ≡ v → in_range v n ts ≡ true → in_range w n ts ≡ true
in-range n ts e h = ap (λ (x : ℕ). in_range x n ts) e ∙ h

pub passes_test-requires : goal.passes_test-requires
passes_test-requires c =
    let n = c.entry_count in
    let s = c.args.inputs.now.sheet in
    let u = pass-of s.accepted s.netlist.own c.requires.whole c.loop-k-test.true c.loop-k.invariant.0 c.record-record.ensures in
    λ q. in-range _ _ (ap (λ (t : Trailer). t.width) s.netlist.own) (pass-in-range u n.result n.ensures.0 c.args.partial c.is_skipped.ensures _ (c.requires.in_range q) (ap not c.if-not-is_skipped.true))

-- the grid with its kind and the width that the trailer says are the sheet's own
own : {trailer : Trailer} {boxes : Boxes} (test : TrackTest) (s dead b : List ℕ) (partial : Bool)
    → boxes ≡ boxes_of (fabric_of s) → trailer ≡ trailer_of s
    → not (every_net partial (test_of test dead boxes trailer) (nets s) b)
    ≡ not (every_net partial (test_of test dead (boxes_of (fabric_of s)) (trailer_of s)) (nets s) b)
own test s dead b partial e f = ap₂ (λ (x : Boxes) (u : Trailer). not (every_net partial (test_of test dead x u) (nets s) b)) e f

pub returns-then-not-passes_test : goal.returns-then-not-passes_test
unfolding bad_tracks every_net
returns-then-not-passes_test c =
    let n = c.entry_count in
    let a = c.args in
    let i = a.inputs.now in
    let s = i.sheet.netlist in
    let u = pass-of i.sheet.accepted s.own c.requires.whole c.loop-k-test.true c.loop-k.invariant.0 c.record-record.ensures in
    let f = pass-fails u n.result n.ensures.0 a.partial c.is_skipped.ensures (test_of a.test i.dead i.boxes s.trailer) in
    ap not (failed-one _ _ _ (pass-counted u) (f c.passes_test.ensures (ap not c.if-not-is_skipped.true) (ap not c.if-not-passes_test.true)))
    ∙ own a.test s.bytes.now i.dead a.b.now a.partial i.made s.own

pub loop-k-preserved : goal.loop-k-preserved
loop-k-preserved c =
    let n = c.entry_count in
    let a = c.args in
    let i = a.inputs.now in
    let u = pass-of i.sheet.accepted i.sheet.netlist.own c.requires.whole c.loop-k-test.true c.loop-k.invariant.0 c.record-record.ensures in
    let test = test_of a.test i.dead i.boxes i.sheet.netlist.trailer in (
      pass-next u n.result n.ensures.0,
      passed-more _ _ _ c.loop-k.invariant.1 (pass-counted u)
          (elim c.if-not-is_skipped.branch [
            | then-not-is_skipped+else-not-passes_test w ↦ pass-passes u n.result n.ensures.0 a.partial test w.passes_test.ensures (ap not w.if-not-passes_test.false)
            | else-not-is_skipped w ↦ pass-skips u n.result n.ensures.0 a.partial c.is_skipped.ensures test (ap not w.if-not-is_skipped.false)
          ]),
    )

pub returns : goal.returns
unfolding bad_tracks every_net
returns c =
    let a = c.args in
    let i = a.inputs.now in
    let s = i.sheet.netlist in
    let w = readable-trailer s.readable s.trailer s.own in
    ap not (passed-all _ _ _ c.loop-k.invariant.1 (omega (arith, nets-length s.bytes.now)))
    ∙ own a.test s.bytes.now i.dead a.b.now a.partial i.made s.own
