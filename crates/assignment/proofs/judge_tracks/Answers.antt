-- `assignment::judge_tracks` meets its contract: each test found what a condition says, and the first that applies answers. Assumes nothing.
use Rattle.std.proofs.Common.{◌≡◌, arith, sym, ◌∙◌, Bool, false, List, ℕ, length}
use Rattle.numbers.specs.Numbers.{first_number}
use Rattle.net.specs.Net.{Net}
use Rattle.net.specs.Nets.{entry_count}
use Rattle.netlist.specs.Netlist.{nets}
use Rattle.nettracks.specs.declared.TrackTest.TheVariants.{Range, Switches, Whole}
use Rattle.nettracks.proofs.NetTracksLaws.{range-alone}
use Rattle.assignment.specs.Board.{Board}
use Rattle.assignment.specs.Assignment.{wrong_size, track_out_of_range, not_switched, broken_wire}
use Rattle.assignment.specs.Facts.{bad_tracks, assignment_number}
use Rattle.assignment.proofs.AssignmentLaws.{bad_tracks-range, bad_tracks-switches, bad_tracks-whole, wrong_size-false, wrong_size-true}
use Rattle.assignment.proofs.judge_tracks.Goals as goal

-- the size was found right
sized : (ns : List Net) (b : List ℕ) {n : ℕ} → n ≡ entry_count ns → length b ≡ n → wrong_size ns b ≡ false
sized ns b e f = wrong_size-false ns b (f ∙ e)

-- what a test found is its condition
module _ (partial : Bool) (board : Board) (w : ℕ) (ns : List Net) (b : List ℕ) {x y : Bool} where
  ranged : x ≡ bad_tracks Range partial board w ns b → x ≡ y → track_out_of_range partial w ns b ≡ y
  ranged e f = sym (bad_tracks-range partial board w ns b) ∙ sym e ∙ f

  switched : x ≡ bad_tracks Switches partial board w ns b → x ≡ y → not_switched partial (board.partner w) ns b ≡ y
  switched e f = sym (bad_tracks-switches partial board w ns b) ∙ sym e ∙ f

  whole : x ≡ bad_tracks Whole partial board w ns b → x ≡ y → broken_wire partial board.broken ns b ≡ y
  whole e f = sym (bad_tracks-whole partial board w ns b) ∙ sym e ∙ f

pub returns-then-b-entry_total : goal.returns-then-b-entry_total
unfolding assignment_number first_number
returns-then-b-entry_total c =
    let a = c.args in
    let e = c.entry_total.ensures.0 in
    rw (wrong_size-true (nets a.inputs.now.sheet.netlist.bytes.now) a.b.now (λ q. omega arith))

pub bad_tracks-requires : goal.bad_tracks-requires
bad_tracks-requires c = let e = c.entry_total.ensures.0 in record { whole = omega arith; in_range = range-alone }

pub returns-then-bad_tracks : goal.returns-then-bad_tracks
unfolding assignment_number first_number
returns-then-bad_tracks c = rw (sized _ _ c.entry_total.ensures.0 c.if-b-entry_total.false, ranged _ _ _ _ _ c.bad_tracks.ensures c.if-bad_tracks.true)

pub bad_tracks-requires-2 : goal.bad_tracks-requires-2
bad_tracks-requires-2 c = record {
  whole = c.if-b-entry_total.false ∙ c.entry_total.ensures.0;
  in_range = λ _. ranged _ _ _ _ _ c.bad_tracks.ensures c.if-bad_tracks.false;
}

pub returns-then-bad_tracks-2 : goal.returns-then-bad_tracks-2
unfolding assignment_number first_number
returns-then-bad_tracks-2 c =
    rw (
      sized _ _ c.entry_total.ensures.0 c.if-b-entry_total.false,
      ranged _ _ _ _ _ c.bad_tracks.ensures c.if-bad_tracks.false,
      switched _ _ _ _ _ c.bad_tracks-2.ensures c.if-bad_tracks-2.true,
    )

pub bad_tracks-requires-3 : goal.bad_tracks-requires-3
bad_tracks-requires-3 c = record {
  whole = c.if-b-entry_total.false ∙ c.entry_total.ensures.0;
  in_range = λ _. ranged _ _ _ _ _ c.bad_tracks.ensures c.if-bad_tracks.false;
}

pub returns-then-bad_tracks-3 : goal.returns-then-bad_tracks-3
unfolding assignment_number first_number
returns-then-bad_tracks-3 c =
    rw (
      sized _ _ c.entry_total.ensures.0 c.if-b-entry_total.false,
      ranged _ _ _ _ _ c.bad_tracks.ensures c.if-bad_tracks.false,
      switched _ _ _ _ _ c.bad_tracks-2.ensures c.if-bad_tracks-2.false,
      whole _ _ _ _ _ c.bad_tracks-3.ensures c.if-bad_tracks-3.true,
    )

pub wire_conflict-requires : goal.wire_conflict-requires
wire_conflict-requires c = record {
  whole = c.if-b-entry_total.false ∙ c.entry_total.ensures.0;
  in_range = ranged _ _ _ _ _ c.bad_tracks.ensures c.if-bad_tracks.false;
}

pub returns-then-wire_conflict : goal.returns-then-wire_conflict
unfolding assignment_number first_number
returns-then-wire_conflict c =
    rw (
      sized _ _ c.entry_total.ensures.0 c.if-b-entry_total.false,
      ranged _ _ _ _ _ c.bad_tracks.ensures c.if-bad_tracks.false,
      switched _ _ _ _ _ c.bad_tracks-2.ensures c.if-bad_tracks-2.false,
      whole _ _ _ _ _ c.bad_tracks-3.ensures c.if-bad_tracks-3.false,
      sym c.wire_conflict.ensures ∙ c.if-wire_conflict.true,
    )

pub returns : goal.returns
unfolding assignment_number first_number
returns c =
    rw (
      sized _ _ c.entry_total.ensures.0 c.if-b-entry_total.false,
      ranged _ _ _ _ _ c.bad_tracks.ensures c.if-bad_tracks.false,
      switched _ _ _ _ _ c.bad_tracks-2.ensures c.if-bad_tracks-2.false,
      whole _ _ _ _ _ c.bad_tracks-3.ensures c.if-bad_tracks-3.false,
      sym c.wire_conflict.ensures ∙ c.if-wire_conflict.false,
    )
