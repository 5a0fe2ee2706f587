-- Remove beside another call (02, M-100), over all byte lists and numbers. Assumes nothing.
-- way_back: after a Refit that placed just one net and moved none, taking that net out gives the old ticket. remove-resp: Remove on two
-- relistings.
use mathlib.Core.Path.{◌≡◌, refl, sym, subst, ap, ap₂, ◌∙◌}
use mathlib.Core.Logic.{◌≢◌}
use Prim.Native.Nat.{ℕ, ◌<◌}
use mathlib.Core.List.{List, [], ◌∷◌, map}
use mathlib.Core.Bool.{Bool, true, false, not}
use lib.Dec.{eqb}
use lib.ListN.{length}
use borrow.Author.Tests.{eqb-true, eqb-false, eq-eqb, ne_eqb, not-true, not-false}
use Rattle.numbers.specs.Numbers.{first_number, stranger_no, track_no, switch_no}
use Rattle.numbers.proofs.NumbersLaws.{condition_of, or_number, first_number-first}
use Rattle.grid.specs.Grid.{meet}
use Rattle.net.specs.Net.{Net, has, entry_of, channels}
use Rattle.netlist.specs.Netlist.{grid_of, connected_on}
use Rattle.defects.proofs.DefectsLaws.{same_items-self}
use Rattle.assignment.specs.Assignment.{Unrouted, track_out_of_range, not_switched, ticket_conditions}
use Rattle.assignment.proofs.AssignmentLaws.{number-clear}
use Rattle.assignment.proofs.CheckLaws.{number-partly, partly-number, legal-partly}
use Rattle.routing.specs.Equivalent.{EnoughSpace, SameOldTracks}
use Rattle.routing.specs.Outcomes.{Inputs, lent, with_dead, width_in, nets_in, old_byte, out_conditions, overwrite, moved_by, answer_of, output_of, unknown_net}
use Rattle.routing.specs.Remove.{remove_number, left_of, without, remove_output, OneUnrouted, SameRemoved, RemoveRelisting}
use Rattle.net.specs.Nets.{entry_count, net_in, In}
use Rattle.net.specs.Facts.{Accepted}
use Rattle.net.proofs.NetsLaws.{place_in}
use Rattle.net.proofs.NetLaws.{has-entry}
use Rattle.netlist.proofs.SheetLaws.{well_formed-accepted, well_formed-connects}
use Rattle.rank.specs.Rank.{rising}
use Rattle.rank.proofs.OrderLaws.{in-rising}
use Rattle.nettracks.proofs.NetTracksLaws.{skipped-partial}
use Rattle.assignment.specs.Facts.{assignment_number}
use Rattle.assignment.proofs.AssignmentLaws.{unrouted-tracks}
use Rattle.netsearch.specs.Facts.{InRange, AllConnected}
use Rattle.netsearch.specs.HomeTrack.{byte_of, track}
use Rattle.netsearch.specs.Refit.{is_routed}
use Rattle.netsearch.proofs.DeadLaws.{legal-unbroken}
use Rattle.netsearch.proofs.FixedLaws.{bytes_same}
use Rattle.netsearch.proofs.LegalLaws.{byte_of-track_at, one_index, each-place}
use Rattle.netsearch.proofs.OldTestLaws.{range-test, switch-test}
use Rattle.netsearch.proofs.RoutedLaws.{looked_nets, in-looked_nets, is_routed-same}
use Rattle.netsearch.proofs.StepLaws.{unmoved-home}
use Rattle.netsearch.proofs.TrackLaws.{connected-track}
use Rattle.routing.specs.Outcomes.{unknown_net, board_in}
use Rattle.routing.specs.declared.Call.TheVariants.{Refit}
use Rattle.routing.specs.Results.{LegalFor, assignment_in}
use Rattle.routing.proofs.CallLaws.{CallFound, call-found}
use Rattle.routing.proofs.EquivalentLaws.{equivalent-relisted, old-resp}
use Rattle.routing.proofs.FirstTheorems.{refit-fewest}
use Rattle.routing.proofs.LegalLaws.{legal_at-bytes}
use Rattle.routing.proofs.RefusalLaws.{number_before-old, zero-space}
use Rattle.routing.proofs.RemoveLaws.{without-length, byte_of-without, unknown_net-false, unknown_net-resp, number_under, stranger_conditions}
use Rattle.routing.proofs.RemoveLaws.{Accepts, remove_number-accepted, remove_number-zero, zero-remove_number, remove_output-zero}
use Rattle.routing.proofs.RemoveTheorems.{remove_first, accepts-whole}

-- ---- the way back

module _ (i : Inputs) (x : ℕ) (answered : (answer_of Refit i).number ≡ 0) (unmoved : (answer_of Refit i).moved ≡ 0)
    (U : OneUnrouted (nets_in i) i.old x) where
  abbrev s : List ℕ
  s = i.sheet

  abbrev ns : List Net
  ns = nets_in i

  abbrev w : ℕ
  w = width_in i

  -- the ticket that Refit wrote, and its byte for each net number and channel
  abbrev new : List ℕ
  new = assignment_in i (output_of Refit i)

  abbrev new_byte : ℕ → ℕ → ℕ
  new_byte = byte_of ns new

  F : CallFound Refit i
  F = call-found Refit i answered

  A : Accepted (meet (grid_of s)) ns
  A = well_formed-accepted s F.accepted

  legal : LegalFor i w new
  legal = (refit-fewest i answered).1.legal

  -- the old ticket passes its tests
  old-passes : number_under i i.dead ≡ 0
  unfolding assignment_number
  old-passes = number_before-old i F.before

  old-whole : length i.old ≡ entry_count ns
  old-whole = (number-partly s i.dead w i.old old-passes).whole

  old-connected : AllConnected (board_in i) w (looked_nets true (old_byte i) ns) (old_byte i)
  unfolding track_out_of_range not_switched
  old-connected =
      (switch-test true (meet (grid_of s)) ns A i.old old-whole (board_in i) w (well_formed-connects s F.accepted w) in-range).0 (not-false _ (clear switch_no))
    where
      clear : (y : ℕ) → condition_of y (ticket_conditions true (board_in i) w ns i.old) ≡ false
      clear = number-clear true (board_in i) w ns i.old old-passes

      in-range : InRange (board_in i) w (looked_nets true (old_byte i) ns) (old_byte i)
      in-range = (range-test true (meet (grid_of s)) ns A i.old old-whole (board_in i) w).0 (not-false _ (clear track_no))

  -- a net that was routed keeps its home track, and this fixes its tracks
  kept : (n : Net) → In n ns → is_routed (old_byte i) n ≡ true → (c : ℕ) → has n c ≡ true → new_byte n.number c ≡ old_byte i n.number c
  unfolding moved_by is_routed
  kept n k r c h =
      connected-track (meet (grid_of s)) n (A.each n k) (connected_on s w) (new_byte n.number)
      ((legal_at-bytes s i.dead F.accepted w new legal).tracks.connected n k) c h
      ∙ ap (λ (t : ℕ). track (connected_on s w) n t c)
      (sym (unmoved-home (old_byte i) new_byte (rising ns) (sym (refit-fewest i answered).2 ∙ unmoved) n (in-rising n ns k) r))
      ∙ sym (connected-track (meet (grid_of s)) n (A.each n k) (connected_on s w) (old_byte i n.number) (old-connected n (in-looked_nets true (old_byte i) ns n k (skipped-partial (map (old_byte i n.number) (channels n)) ∙ not-true _ r))) c h)

  -- every byte comes back: that of the net taken out, and of any other
  back_at : (k : ℕ) → k < length ns → (c : ℕ) → has (net_in ns k) c ≡ true
      → byte_of ns (without ns x new) (net_in ns k).number c ≡ old_byte i (net_in ns k).number c
  unfolding is_routed
  back_at k h c q = byte_of-without ns x new legal.whole (meet (grid_of s)) A n (place_in ns k h) c q ∙ at (eqb k U.index) refl
    where
      n : Net
      n = net_in ns k

      at : (p : Bool) → eqb k U.index ≡ p → left_of (eqb n.number x) (new_byte n.number c) ≡ old_byte i n.number c
      at true e =
          let j = eqb-true _ _ e in
          ap (λ (p : Bool). left_of p (new_byte n.number c)) (eq-eqb n.number x (ap (λ (m : ℕ). (net_in ns m).number) j ∙ U.number))
          ∙ sym (byte_of-track_at (meet (grid_of s)) ns A i.old k c h q
          ∙ (unrouted-tracks ns i.old k old-whole h).0 (subst (λ (m : ℕ). Unrouted ns i.old m) (sym j) U.own) (entry_of n c) (has-entry n c q).0)
      at false e =
          let differs : n.number ≢ x = λ z.
          eqb-false _ _ e (one_index (meet (grid_of s)) ns A new k U.index h U.below (z ∙ sym U.number)) in
          ap (λ (p : Bool). left_of p (new_byte n.number c)) (ne_eqb n.number x differs)
          ∙ kept n (place_in ns k h)
          (is_routed-same (meet (grid_of s)) ns A i.old old-whole k h ∙ ap not (U.others k h (eqb-false _ _ e)))
          c q

  old-back : without ns x new ≡ i.old
  old-back =
      bytes_same (meet (grid_of s)) ns A (without ns x new) i.old (without-length ns x new) old-whole
      (each-place (meet (grid_of s)) ns A new
      (λ n. (c : ℕ) → has n c ≡ true → byte_of ns (without ns x new) n.number c ≡ old_byte i n.number c) back_at)

  -- "Where Refit placed just one new net and moved none, this gives back the ticket from before."
  pub way_back : (out2 : List ℕ) → EnoughSpace (lent s [] new 0 out2)
      → (remove_number (lent s [] new 0 out2) x ≡ 0) × (remove_output (lent s [] new 0 out2) x ≡ overwrite i.old out2)
  way_back out2 space =
      let j = lent s [] new 0 out2 in
      let z = zero-remove_number j x record {
        accepted = F.accepted;
        ticket = partly-number s [] w new (legal-unbroken (legal-partly s i.dead w new legal));
        known = (unknown_net-false ns x).1 (U.index, U.below, U.number);
        space = space;
      } in
      (z, remove_output-zero j x z ∙ ap (λ (b : List ℕ). overwrite b out2) old-back)

-- ---- relistings

module _ (i j : Inputs) (x : ℕ) (R : RemoveRelisting i j) where
  -- Remove is lent no list
  none : SameOldTracks (with_dead i []) (with_dead j [])
  none = let O = R.tracks in record { whole = O.whole; whole2 = O.whole2; same = O.same }

  late-space : (k : Inputs) → EnoughSpace k → first_number (stranger_conditions k x) ≡ first_number ((stranger_no, unknown_net (nets_in k) x) ∷ [])
  late-space k h = first_number-first ((stranger_no, unknown_net (nets_in k) x) ∷ []) (out_conditions k) (zero-space k h)

  numbers-same : remove_number i x ≡ remove_number j x
  unfolding assignment_number
  numbers-same =
      remove_number-accepted i x R.sheets.accepted
      ∙ ap₂ or_number (old-resp (with_dead i []) (with_dead j []) R.sheets (same_items-self []) none)
      (late-space i R.space
      ∙ ap (λ (u : Bool). first_number ((stranger_no, u) ∷ []))
      (unknown_net-resp (nets_in i) (nets_in j) x (equivalent-relisted i.sheet j.sheet R.sheets))
      ∙ sym (late-space j R.space2))
      ∙ sym (remove_number-accepted j x R.sheets.accepted2)

  -- what is written on either sheet
  written_byte : (k : Inputs) → Accepts k x → (n : Net) → In n (nets_in k) → (c : ℕ) → has n c ≡ true
      → byte_of (nets_in k) (assignment_in k (remove_output k x)) n.number c ≡ left_of (eqb n.number x) (old_byte k n.number c)
  written_byte k B n l c h =
      ap (λ (b : List ℕ). byte_of (nets_in k) b n.number c) (remove_first k x B)
      ∙ byte_of-without (nets_in k) x k.old (accepts-whole k x B) (meet (grid_of k.sheet)) (well_formed-accepted k.sheet B.accepted) n l c h

  -- "the same byte for each net number and channel"
  pub remove-resp : SameRemoved i j (remove_number i x) (remove_number j x) (remove_output i x) (remove_output j x)
  remove-resp = record {
    numbers = numbers-same;
    bytes = λ z n k c h.
        let m = (equivalent-relisted i.sheet j.sheet R.sheets).there n k in
        let y = m.2.number in
        written_byte i (remove_number-zero i x z) n k c h
        ∙ ap (left_of (eqb n.number x)) (R.tracks.same n k c h)
        ∙ ap (λ (v : ℕ). left_of (eqb v x) (old_byte j v c)) y
        ∙ sym (written_byte j (remove_number-zero j x (sym numbers-same ∙ z)) m.0 m.1 c (sym (m.2.channels c) ∙ h))
        ∙ ap (λ (v : ℕ). byte_of (nets_in j) (assignment_in j (remove_output j x)) v c) (sym y);
  }
