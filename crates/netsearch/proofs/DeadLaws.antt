-- Broken wires that agree below a width: the same loads, tests, runs and numbers there, and the same legal assignments (02, M-105: "Items at or
-- above the width in use … are ignored"). Assumes nothing.
-- over_agree, plain-agree, rounds-agree: at one width. least-agree: at all widths of Least. number-agree: 10 to 13 and 21. legal-agree: what is
-- legal; broken-none, legal-unbroken: with the empty list.
use mathlib.Core.Path.{◌≡◌, refl, sym, ap, ◌∙◌}
use Prim.Native.Nat.{ℕ, ◌<◌}
use native.Mathlib.Omega.{arith}
use mathlib.Core.List.{List, [], ◌∷◌, ◌++◌}
use mathlib.Core.Bool.{Bool, true, false, not, ◌&&◌}
use lib.Dec.{ltb, leb, eqb}
use lib.ListN.{length}
use Rattle.bounded.proofs.BoundedLaws.{at_every, every-same, any_below-same, count_below-same, same_test}
use Rattle.bounded.proofs.ListsLaws.{every_in-same}
use Rattle.backtracking.proofs.AgreeLaws.{Agrees}
use Rattle.grid.specs.Grid.{Wire, wire}
use Rattle.switchbox.specs.Facts.{Connects}
use Rattle.net.specs.Net.{Net, size, channels}
use Rattle.net.specs.Nets.{entry_count, net_in}
use Rattle.net.specs.Facts.{AcceptedNet, Accepted}
use Rattle.net.proofs.NetsLaws.{place_in}
use Rattle.rank.specs.Rank.{rising}
use Rattle.rank.proofs.OrderLaws.{rising-in, rising-length}
use Rattle.nettracks.specs.NetTracks.{in_range, switched, whole_wires}
use Rattle.nettracks.proofs.NetTracksLaws.{in_range-at}
use Rattle.defects.specs.Defects.{is_dead}
use Rattle.defects.proofs.DefectsLaws.{is_dead-none}
use Rattle.assignment.specs.Assignment.{tracks_of, wire_in, LegalAmong, every_net, track_out_of_range, broken_wire, wire_conflict, wrong_size, not_switched}
use Rattle.assignment.specs.Board.{Board, with_broken}
use Rattle.assignment.specs.Facts.{assignment_number}
use Rattle.assignment.proofs.AssignmentLaws.{every_net-at, at-every_net}
use Rattle.assignment.proofs.CheckLaws.{Looked}
use Rattle.netsearch.specs.HomeTrack.{track}
use Rattle.netsearch.specs.declared.Search.{Search}
use Rattle.netsearch.specs.declared.Search.TheVariants.{Plain}
use Rattle.netsearch.specs.PlainSearch.{density, whole_tracks, over_capacity, held, fits, fits_by, plain_search, least_search}
use Rattle.netsearch.specs.Refit.{moves_in, fits_in, refit_search, round_count}
use Rattle.netsearch.proofs.OldTestLaws.{no_conflicts, numbers-same}
use Rattle.netsearch.proofs.PlaceLaws.{fits-channels}
use Rattle.netsearch.proofs.SearchByLaws.{search_by-same, rounds_by-same, least_search-same}
use Rattle.netsearch.proofs.TrackLaws.{track-lt}

-- the same wires below w are broken
abbrev pub AgreeBelow : ℕ → (Wire → Bool) → (Wire → Bool) → Type 0
AgreeBelow w broken broken2 = (v : Wire) → v.track < w → broken v ≡ broken2 v

module _ (board : Board) (broken2 : Wire → Bool) (w : ℕ) (D : AgreeBelow w board.broken broken2) where
  abbrev board2 : Board
  board2 = with_broken board broken2

  whole_agree : (c : ℕ) → whole_tracks board w c ≡ whole_tracks board2 w c
  unfolding whole_tracks
  whole_agree c = count_below-same w _ _ (λ t l. ap not (D (wire c t) l))

  over_agree : (ns : List Net) → over_capacity board w ns ≡ over_capacity board2 w ns
  unfolding over_capacity
  over_agree ns = any_below-same board.channels _ _ (λ c l. ap (λ (x : ℕ). ltb x (density ns c)) (whole_agree c))

  -- a home track gives wires below w
  module _ (meet : ℕ → ℕ → Bool) (P : Connects w meet (board.partner w)) (ns : List Net) (A : Accepted meet ns) where
    fits-agree : Agrees w (length ns) (fits board w (rising ns)) (fits board2 w (rising ns))
    fits-agree p t b h l =
        fits-channels board w (rising ns) p t
        ∙ every_in-same _ _ (channels n) (channels n) (λ c. refl) (λ c q.
        let v = wire c (track (board.partner w) n t c) in
        ap (λ (x : Bool). not x && not (held (board.partner w) (rising ns) p v)) (D v (track-lt meet n good (board.partner w) w P t l c q)))
        ∙ sym (fits-channels board2 w (rising ns) p t)
      where
        n : Net
        n = net_in (rising ns) (length p)

        good : AcceptedNet meet n
        good = A.each n (rising-in n ns (place_in (rising ns) (length p) (omega (arith, rising-length ns))))

    fits_by-agree : (h : Search) → Agrees w (length ns) (fits_by h board w (rising ns)) (fits_by h board2 w (rising ns))
    fits_by-agree Plain = fits-agree

    pub plain-agree : (h : Search) → plain_search h board w ns ≡ plain_search h board2 w ns
    unfolding plain_search
    plain-agree h = search_by-same _ _ w _ _ (length ns) (length ns) (over_agree ns) (fits_by-agree h) refl

    pub rounds-agree : (old : ℕ → ℕ → ℕ) → refit_search old board w ns ≡ refit_search old board2 w ns
    unfolding refit_search fits_in
    rounds-agree old =
        rounds_by-same _ _ w _ _ (length ns) (length ns) (round_count old ns) (round_count old ns) (over_agree ns)
        (λ d p t b h l. ap (λ (x : Bool). x && leb (moves_in old (rising ns) (p ++ (t ∷ []))) d) (fits-agree p t b h l)) refl refl

  -- of an assignment that is in range
  broken-agree : (partial : Bool) (ns : List Net) (b : List ℕ) → every_net partial (in_range w) ns b ≡ true
      → every_net partial (whole_wires board.broken) ns b ≡ every_net partial (whole_wires broken2) ns b
  unfolding whole_wires
  broken-agree partial ns b r = same_test _ _
      (λ h. at-every_net partial (whole_wires broken2) ns b (λ k l o. sym (net k l o) ∙ every_net-at partial (whole_wires board.broken) ns b h k l o))
      (λ h. at-every_net partial (whole_wires board.broken) ns b (λ k l o. net k l o ∙ every_net-at partial (whole_wires broken2) ns b h k l o))
    where
      net : (k : ℕ) → k < length ns → Looked partial ns b k
          → whole_wires board.broken (net_in ns k) (tracks_of ns b k) ≡ whole_wires broken2 (net_in ns k) (tracks_of ns b k)
      net k l o = every-same (size (net_in ns k)) _ _ (λ i m.
          ap not (D (wire_in ns b k i) (in_range-at w (net_in ns k) (tracks_of ns b k) (every_net-at partial (in_range w) ns b r k l o) i m)))

  pub number-agree : (partial : Bool) (ns : List Net) (b : List ℕ)
      → assignment_number partial board w ns b ≡ assignment_number partial board2 w ns b
  unfolding assignment_number wrong_size track_out_of_range not_switched broken_wire wire_conflict
  number-agree partial ns b =
      let x = eqb (length b) (entry_count ns) in
      let y = every_net partial (in_range w) ns b in
      let z = every_net partial (switched (board.partner w)) ns b in
      let v = no_conflicts partial ns b in
      numbers-same x x y y z z _ _ v v refl refl (λ _. refl) (broken-agree partial ns b) refl

  pub legal-agree : (Chosen : ℕ → Type 0) (ns : List Net) (b : List ℕ) → LegalAmong Chosen board w ns b → LegalAmong Chosen board2 w ns b
  legal-agree Chosen ns b L = record {
    whole = L.whole;
    below = L.below;
    joined = L.joined;
    unbroken = λ k i h o l. sym (D (wire_in ns b k i) (L.below k i h o l)) ∙ L.unbroken k i h o l;
    alone = L.alone;
  }

-- with the empty list no wire is broken
pub broken-none : (partial : Bool) (ns : List Net) (b : List ℕ) → broken_wire partial (is_dead []) ns b ≡ false
unfolding broken_wire whole_wires
broken-none partial ns b =
    ap not (at-every_net partial (whole_wires (is_dead [])) ns b (λ k l o.
    at_every (size (net_in ns k)) _ (λ i m. ap not (is_dead-none (wire_in ns b k i)))))

-- without the list, what is legal with one is so too
pub legal-unbroken : {Chosen : ℕ → Type 0} {board : Board} {w : ℕ} {ns : List Net} {b : List ℕ}
    → LegalAmong Chosen board w ns b → LegalAmong Chosen (with_broken board (is_dead [])) w ns b
legal-unbroken {ns = ns} {b = b} L = record {
  whole = L.whole;
  below = L.below;
  joined = L.joined;
  unbroken = λ k i h o l. is_dead-none (wire_in ns b k i);
  alone = L.alone;
}

module _ (h : Search) (board : Board) (broken2 : Wire → Bool) (meet : ℕ → ℕ → Bool) (P : (w : ℕ) → Connects w meet (board.partner w))
    (ns : List Net) (A : Accepted meet ns) where
  -- at all widths of Least
  pub least-agree : AgreeBelow 32 board.broken broken2 → least_search h board ns ≡ least_search h (with_broken board broken2) ns
  least-agree D =
      least_search-same h board (with_broken board broken2) ns ns
      (λ w l. plain-agree board broken2 w (λ v m. D v (omega arith)) meet (P w) ns A h)
