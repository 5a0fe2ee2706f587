-- The conditions of 19 and 20 and of 10 to 13 and 21 mean what specs/Meanings.antt says of them. Assumes nothing.
-- list-means, track-means, clash-means, ticket-means, check-means: conditions and their meanings.
use mathlib.Core.Path.{◌≡◌, refl, sym, ap, ap₂, ◌∙◌}
use mathlib.Core.Logic.{◌↔◌, ◌≢◌}
use mathlib.Core.Bool.{Bool, true, false, not, ◌||◌, true≢false}
use mathlib.Core.List.{List, ◌∷◌, ◌++◌}
use Prim.Native.Nat.{ℕ, ◌<◌}
use native.Mathlib.Omega.{arith}
use native.Mathlib.Decide.{dec_lt, ℕ_discrete}
use lib.ListN.{length}
use borrow.Author.Tests.{ltb-false, le-ltb, eqb-false, ne_eqb, not-true, not-false}
use Rattle.bounded.specs.Bounded.{every}
use Rattle.bounded.proofs.BoundedLaws.{neither, every-fails, every_some}
use Rattle.numbers.specs.Numbers.{broken_no}
use Rattle.numbers.proofs.MeaningLaws.{Means, means-append}
use Rattle.grid.specs.Grid.{Wire}
use Rattle.grid.proofs.WireLaws.{same_wire-true, true-same_wire}
use Rattle.net.specs.Net.{Net, size}
use Rattle.net.specs.Nets.{net_in}
use Rattle.netlist.specs.Netlist.{sheet_conditions, channels_of, width_of, nets}
use Rattle.netlist.specs.Meanings.{sheet_meanings}
use Rattle.netlist.proofs.MeaningLaws.{sheet-means}
use Rattle.nettracks.specs.NetTracks.{in_range, switched_at, switched, whole_wires, skipped}
use Rattle.nettracks.proofs.NetTracksLaws.{switched_at-first, switched_at-later, skipped-partial, skipped-whole}
use Rattle.defects.specs.Defects.{list_conditions, KnownItems, NoRepeat, bad_list, repeated_item}
use Rattle.defects.proofs.ListLaws.{known, unrepeated}
use Rattle.assignment.specs.Board.{Board, board_of}
use Rattle.assignment.specs.Assignment.{tracks_of, wire_in, every_net, no_conflict, no_wire_shared, wires_differ}
use Rattle.assignment.specs.Assignment.{wrong_size, track_out_of_range, not_switched, broken_wire, wire_conflict, track_conditions, clash_conditions, ticket_conditions}
use Rattle.assignment.specs.Check.{check_conditions}
use Rattle.assignment.specs.Meanings.{list_meanings, LookedAt, EntryOf, WrongSize, HighTrack, OpenJoint, OnBroken, SharedWire}
use Rattle.assignment.specs.Meanings.{track_meanings, clash_meanings, ticket_meanings, check_meanings}
use Rattle.assignment.proofs.AssignmentLaws.{net_passes, wrong_size-true, wrong_size-false}
use Rattle.assignment.proofs.WireLaws.{no_conflict-looked}

-- ---- 19 and 20

-- a condition whose refutation means P
refuted : (c : Bool) (P : Type 0) → (c ≡ false) ↔ P → (c ≡ true) ↔ (P → ⊥)
refuted true P e = ((λ h p. true≢false (e.1 p)), (λ h. refl))
refuted false P e = ((λ h p. true≢false (sym h)), (λ h. absurd (h (e.0 refl))))

pub list-means : (s d : List ℕ) (B : Type 0) → Means B (list_conditions (channels_of s) d) (list_meanings s d)
list-means s d B = (
  refl,
  (λ b. refuted (bad_list (channels_of s) d) (KnownItems (channels_of s) d) (known (channels_of s) d)),
  (refl, (λ b. refuted (repeated_item d) (NoRepeat d) (unrepeated d)), tt),
)

-- ---- tests of the nets that are looked at

looked-at : (partial : Bool) (ns : List Net) (b : List ℕ) (k : ℕ) → (skipped partial (tracks_of ns b k) ≡ false) ↔ LookedAt partial ns b k
looked-at false ns b k = ((λ o. tt), (λ o. skipped-whole (tracks_of ns b k)))
looked-at true ns b k = ((λ o. sym (skipped-partial (tracks_of ns b k)) ∙ o), (λ o. skipped-partial (tracks_of ns b k) ∙ o))

not-every : (n : ℕ) (f : ℕ → Bool) → (not (every n f) ≡ true) ↔ ((i : ℕ) × (i < n) × (f i ≡ false))
not-every n f = ((λ e. every_some n f (not-true _ e)), (λ r. ap not (every-fails n f r.0 r.1 r.2)))

module _ (partial : Bool) (ns : List Net) (b : List ℕ) where
  -- a net that is looked at and does not pass
  some-net : (test : Net → List ℕ → Bool)
      → (not (every_net partial test ns b) ≡ true)
      ↔ ((k : ℕ) × (k < length ns) × LookedAt partial ns b k × (test (net_in ns k) (tracks_of ns b k) ≡ false))
  unfolding every_net
  some-net test =
      let t = not-every (length ns) (net_passes partial test ns b) in (
        (λ e.
            let r = t.0 e in
            let n = neither (skipped partial (tracks_of ns b r.0)) (test (net_in ns r.0) (tracks_of ns b r.0)) r.2 in
            (r.0, r.1, (looked-at partial ns b r.0).0 n.0, n.1)),
        (λ r. t.1 (r.0, r.1, ap₂ ◌||◌ ((looked-at partial ns b r.0).1 r.2) r.3)),
      )

  high-track : (w : ℕ) → (track_out_of_range partial w ns b ≡ true) ↔ HighTrack partial w ns b
  unfolding track_out_of_range in_range
  high-track w =
      let t = some-net (in_range w) in (
        (λ e.
            let r = t.0 e in
            let q = every_some (size (net_in ns r.0)) _ r.3 in
            (r.0, q.0, record { net = r.1; looked = r.2; entry = q.1 }, ltb-false _ w q.2)),
        (λ r. t.1 (r.0, r.2.net, r.2.looked, every-fails (size (net_in ns r.0)) _ r.1 r.2.entry (le-ltb _ w r.3))),
      )

  open-joint : (partner : ℕ → ℕ → ℕ → ℕ) → (not_switched partial partner ns b ≡ true) ↔ OpenJoint partial partner ns b
  unfolding not_switched switched
  open-joint partner =
      let t = some-net (switched partner) in (
        (λ e.
            let r = t.0 e in
            let q = every_some (size (net_in ns r.0)) _ r.3 in
            let n = net_in ns r.0 in
            let ts = tracks_of ns b r.0 in
            let z : 0 < q.0 = later n ts q.0 q.2 in
            (r.0, q.0, record { net = r.1; looked = r.2; entry = q.1 }, z, eqb-false _ _ (sym (switched_at-later partner n ts q.0 z) ∙ q.2))),
        (λ r.
            t.1 (
              r.0,
              r.2.net,
              r.2.looked,
              every-fails (size (net_in ns r.0)) _ r.1 r.2.entry
                  (switched_at-later partner (net_in ns r.0) (tracks_of ns b r.0) r.1 r.3 ∙ ne_eqb _ _ r.4),
            )),
      )
    where
      -- the first entry has no joint
      later : (n : Net) (ts : List ℕ) (i : ℕ) → switched_at partner n ts i ≡ false → 0 < i
      later n ts i e = at (dec_lt 0 i)
        where
          at : Dec (0 < i) → 0 < i
          at (yes l) = l
          at (no l) = absurd (true≢false (sym (switched_at-first partner n ts i (omega arith)) ∙ e))

  on-broken : (broken : Wire → Bool) → (broken_wire partial broken ns b ≡ true) ↔ OnBroken partial broken ns b
  unfolding broken_wire whole_wires
  on-broken broken =
      let t = some-net (whole_wires broken) in (
        (λ e.
            let r = t.0 e in
            let q = every_some (size (net_in ns r.0)) _ r.3 in
            (r.0, q.0, record { net = r.1; looked = r.2; entry = q.1 }, not-false _ q.2)),
        (λ r. t.1 (r.0, r.2.net, r.2.looked, every-fails (size (net_in ns r.0)) _ r.1 r.2.entry (ap not r.3))),
      )

  -- ---- 13

  conflict-some : (k l : ℕ) → k < length ns → l < length ns → (no_conflict partial ns b k l ≡ false)
      ↔ ((i j : ℕ) × EntryOf partial ns b k i × EntryOf partial ns b l j × (wire_in ns b k i ≡ wire_in ns b l j))
  unfolding no_conflict no_wire_shared wires_differ
  conflict-some k l hk hl = (there, back)
    where
      there : no_conflict partial ns b k l ≡ false
          → (i j : ℕ) × EntryOf partial ns b k i × EntryOf partial ns b l j × (wire_in ns b k i ≡ wire_in ns b l j)
      there e =
          let p = neither (skipped partial (tracks_of ns b k) || skipped partial (tracks_of ns b l)) _ e in
          let q = neither (skipped partial (tracks_of ns b k)) (skipped partial (tracks_of ns b l)) p.0 in
          let r = every_some (size (net_in ns k)) _ p.1 in
          let t = every_some (size (net_in ns l)) _ r.2 in (
            r.0,
            t.0,
            record { net = hk; looked = (looked-at partial ns b k).0 q.0; entry = r.1 },
            record { net = hl; looked = (looked-at partial ns b l).0 q.1; entry = t.1 },
            same_wire-true _ _ (not-false _ t.2),
          )

      back : (i j : ℕ) × EntryOf partial ns b k i × EntryOf partial ns b l j × (wire_in ns b k i ≡ wire_in ns b l j)
          → no_conflict partial ns b k l ≡ false
      back r =
          no_conflict-looked partial ns b k l ((looked-at partial ns b k).1 r.2.looked) ((looked-at partial ns b l).1 r.3.looked)
          ∙ every-fails (size (net_in ns k)) _ r.0 r.2.entry
          (every-fails (size (net_in ns l)) _ r.1 r.3.entry (ap not (true-same_wire _ _ r.4)))

  shared-wire : (wire_conflict partial ns b ≡ true) ↔ SharedWire partial ns b
  unfolding wire_conflict
  shared-wire =
      let t = not-every (length ns) (λ k. every k (no_conflict partial ns b k)) in (
        (λ e.
            let r = t.0 e in
            let q = every_some r.0 (no_conflict partial ns b r.0) r.2 in
            let l : q.0 < length ns = omega (arith, r.1, q.1) in
            let z = (conflict-some r.0 q.0 r.1 l).0 q.2 in
            (r.0, q.0, z.0, z.1, z.2, z.3, (λ h. omega (arith, q.1)), z.4)),
        (λ r. t.1 (at r (dec_lt r.1 r.0))),
      )
    where
      at : (r : SharedWire partial ns b) → Dec (r.1 < r.0) → (k : ℕ) × (k < length ns) × (every k (no_conflict partial ns b k) ≡ false)
      at r (yes l) = (
        r.0,
        r.4.net,
        every-fails r.0 (no_conflict partial ns b r.0) r.1 l
            ((conflict-some r.0 r.1 r.4.net r.5.net).1 (r.2, r.3, r.4, r.5, r.7)),
      )
      at r (no l) = (
        r.1,
        r.5.net,
        every-fails r.1 (no_conflict partial ns b r.1) r.0 (below (ℕ_discrete r.0 r.1))
            ((conflict-some r.1 r.0 r.5.net r.4.net).1 (r.3, r.2, r.5, r.4, sym r.7)),
      )
        where
          apart : r.0 ≢ r.1
          apart = r.6

          below : Dec (r.0 ≡ r.1) → r.0 < r.1
          below (yes e) = absurd (apart e)
          below (no n) = omega arith

-- ---- the conditions and their meanings

wrong_size_lem : (ns : List Net) (b : List ℕ) → (wrong_size ns b ≡ true) ↔ WrongSize ns b
wrong_size_lem ns b = ((λ e h. true≢false (sym e ∙ wrong_size-false ns b h)), wrong_size-true ns b)

module _ (partial : Bool) (board : Board) (w : ℕ) (ns : List Net) (b : List ℕ) where
  pub track-means : (B : Type 0) → Means B (track_conditions partial board w ns b) (track_meanings partial board w ns b)
  track-means B = (
    refl,
    (λ _. wrong_size_lem ns b),
    (refl, (λ _. high-track partial ns b w), (refl, (λ _. open-joint partial ns b (board.partner w)), tt)),
  )

  pub clash-means : (B : Type 0) → Means B (clash_conditions partial ns b) (clash_meanings partial ns b)
  clash-means B = (refl, (λ _. shared-wire partial ns b), tt)

  pub ticket-means : (B : Type 0) → Means B (ticket_conditions partial board w ns b) (ticket_meanings partial board w ns b)
  ticket-means =
      means-append (track_conditions partial board w ns b) ((broken_no, broken_wire partial board.broken ns b) ∷ clash_conditions partial ns b)
      (track_meanings partial board w ns b) ((broken_no, OnBroken partial board.broken ns b) ∷ clash_meanings partial ns b)
      track-means
      (λ B. (refl, (λ _. on-broken partial ns b board.broken), clash-means (B × (OnBroken partial board.broken ns b → ⊥))))

pub check-means : (partial : Bool) (s d b : List ℕ) (B : Type 0) → Means B (check_conditions partial s d b) (check_meanings partial s d b)
check-means partial s d b =
    let tests = ticket_conditions partial (board_of s d) (width_of s) (nets s) b in
    let meant = ticket_meanings partial (board_of s d) (width_of s) (nets s) b in
    means-append (sheet_conditions s) (list_conditions (channels_of s) d ++ tests) (sheet_meanings s) (list_meanings s d ++ meant) (sheet-means s)
    (means-append (list_conditions (channels_of s) d) tests (list_meanings s d) meant (list-means s d)
    (ticket-means partial (board_of s d) (width_of s) (nets s) b))
