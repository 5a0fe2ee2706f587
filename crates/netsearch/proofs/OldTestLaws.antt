-- The numbers 10 to 13 and 21 of an assignment, Check's or Refit's old one (01 "Words for no"), on equivalent netlists. Assumes nothing.
-- Where `partial` is true, as Refit reads its old one, an unrouted net is not looked at. range-test, switch-test, whole-test, conflict-test: what the
-- tests say of the tracks of the nets that are looked at. assignment_number-resp: equal tracks have one number.
use mathlib.Core.Path.{◌≡◌, refl, sym, subst, ap, ap₂, ◌∙◌}
use mathlib.Core.Logic.{◌↔◌}
use Prim.Native.Nat.{ℕ, zero, suc, ◌<◌}
use native.Mathlib.Omega.{arith}
use native.Mathlib.Decide.{dec_lt}
use mathlib.Core.List.{List, [], ◌∷◌}
use mathlib.Core.Bool.{Bool, true, false, not, true≢false}
use lib.Dec.{eqb}
use lib.ListN.{length}
use borrow.Author.Tests.{ltb-true, lt-ltb, eqb-true, eq-eqb, not-true}
use Rattle.bounded.specs.Bounded.{every}
use Rattle.bounded.proofs.BoundedLaws.{not-passed, both_true, true-both, same_test, every-at, at_every}
use Rattle.net.specs.Net.{Net, size, channel, parent, has, entry_of}
use Rattle.numbers.specs.Numbers.{first_number}
use Rattle.grid.specs.Grid.{wire}
use Rattle.nettracks.specs.NetTracks.{in_range, switched_at, switched, whole_wires}
use Rattle.assignment.specs.Assignment.{tracks_of, track_at, wires_differ, no_wire_shared, every_net, no_conflict}
use Rattle.assignment.specs.Assignment.{wrong_size, track_out_of_range, not_switched, broken_wire, wire_conflict}
use Rattle.assignment.proofs.AssignmentLaws.{every_net-at, at-every_net}
use Rattle.assignment.proofs.CheckLaws.{Looked}
use Rattle.assignment.proofs.WireLaws.{no_conflict-looked, no_conflict-where}
use Rattle.switchbox.specs.Facts.{Connects}
use Rattle.net.specs.Nets.{entry_count, net_in, In}
use Rattle.net.specs.Facts.{AcceptedNet, Accepted, Relisted}
use Rattle.net.proofs.NetsLaws.{place_in, apart-at}
use Rattle.net.proofs.NetLaws.{has-at, has-entry}
use Rattle.assignment.specs.Board.{Board}
use Rattle.assignment.specs.Facts.{assignment_number}
use Rattle.netsearch.specs.HomeTrack.{SameTracks, byte_of}
use Rattle.netsearch.specs.Facts.{EdgesConnected, InRange, AllConnected, WiresWhole, WiresExclusive}
use Rattle.netsearch.proofs.CarryLaws.{relisted-sym, tracks-sym, range-carries, connected-carries, whole_carries, exclusive-carries}
use Rattle.netsearch.proofs.LegalLaws.{track_at-byte_of, byte_of-track_at, each-place}
use Rattle.netsearch.proofs.RoutedLaws.{is_skipped, looked_nets, looked_nets-in, in-looked_nets, looked_nets-accepted, skipped-same, looked_nets-relisted, looked_nets-tracks}
use Rattle.netsearch.proofs.TrackLaws.{edge-down, links-connected}

-- no net that is looked at shares a wire with an earlier one that is
abbrev pub no_conflicts : Bool → List Net → List ℕ → Bool
no_conflicts partial ns b = every (length ns) (λ k. every k (no_conflict partial ns b k))

module _ (partial : Bool) (meet : ℕ → ℕ → Bool) (ns : List Net) (A : Accepted meet ns) (b : List ℕ) (whole : length b ≡ entry_count ns) where
  -- the byte of each net number and channel
  abbrev byte : ℕ → ℕ → ℕ
  byte = byte_of ns b

  -- the net at index k, its bytes, and whether it is looked at
  abbrev net : ℕ → Net
  net k = net_in ns k

  abbrev bytes : ℕ → List ℕ
  bytes k = tracks_of ns b k

  abbrev LookedAt : ℕ → Type 0
  LookedAt k = Looked partial ns b k

  -- what holds of the net at each index, if it is looked at, holds of each net that is
  each-looked : (Q : Net → Type 0) → ((k : ℕ) → k < length ns → LookedAt k → Q (net k)) → (n : Net) → In n (looked_nets partial byte ns) → Q n
  each-looked Q f n i =
      let r = looked_nets-in partial byte ns n i in
      each-place meet ns A b (λ x. is_skipped partial byte x ≡ false → Q x) (λ k l e. f k l (skipped-same meet ns A b whole k l partial ∙ e))
      n r.0 r.1

  looked-at : (k : ℕ) → k < length ns → LookedAt k → In (net k) (looked_nets partial byte ns)
  looked-at k l o = in-looked_nets partial byte ns (net k) (place_in ns k l) (sym (skipped-same meet ns A b whole k l partial) ∙ o)

  module _ (board : Board) (w : ℕ) where
    pub range-test : (every_net partial (in_range w) ns b ≡ true) ↔ InRange board w (looked_nets partial byte ns) byte
    unfolding in_range
    range-test = (
      (λ h n c. each-looked (λ x. has x c ≡ true → byte x.number c < w) (λ k l o m.
          subst (λ (x : ℕ). x < w) (sym (byte_of-track_at meet ns A b k c l m))
          (ltb-true _ w (every-at (size (net k)) _ (every_net-at partial (in_range w) ns b h k l o) (entry_of (net k) c) (has-entry (net k) c m).0)))
          n),
      (λ R. at-every_net partial (in_range w) ns b (λ k l o. at_every (size (net k)) _ (λ i m.
          lt-ltb (track_at ns b k i) w
          (subst (λ (x : ℕ). x < w) (sym (track_at-byte_of meet ns A b k i l m))
          (R (net k) (channel (net k) i) (looked-at k l o) (has-at (net k) i m)))))),
    )

    pub switch-test : Connects w meet (board.partner w) → InRange board w (looked_nets partial byte ns) byte
        → (every_net partial (switched (board.partner w)) ns b ≡ true) ↔ AllConnected board w (looked_nets partial byte ns) byte
    unfolding switched switched_at
    switch-test P R = (
      (λ h. each-looked (λ x. EdgesConnected (board.partner w) x (byte x.number)) (λ k l o.
          links-connected meet (net k) (good k l) (board.partner w) w P (byte (net k).number) (λ c. R (net k) c (looked-at k l o))
          (λ i z m. down k l i z m (every-at (size (net k)) _ (every_net-at partial (switched (board.partner w)) ns b h k l o) i m)))),
      (λ K. at-every_net partial (switched (board.partner w)) ns b (λ k l o. at_every (size (net k)) _ (up k l (K (net k) (looked-at k l o))))),
    )
      where
        good : (k : ℕ) → k < length ns → AcceptedNet meet (net k)
        good k l = A.each (net k) (place_in ns k l)

        down : (k : ℕ) → k < length ns → (i : ℕ) → 0 < i → i < size (net k) → switched_at (board.partner w) (net k) (bytes k) i ≡ true
            → byte (net k).number (channel (net k) i)
            ≡ board.partner w (channel (net k) (parent (net k) i)) (channel (net k) i) (byte (net k).number (channel (net k) (parent (net k) i)))
        down k l zero z m e = absurd (omega arith)
        down k l (suc i) z m e =
            let p = (good k l).earlier (suc i) z m in
            sym (track_at-byte_of meet ns A b k (suc i) l m) ∙ eqb-true _ _ e
            ∙ ap (board.partner w _ _) (track_at-byte_of meet ns A b k (parent (net k) (suc i)) l (omega arith))

        up : (k : ℕ) → k < length ns → EdgesConnected (board.partner w) (net k) (byte (net k).number) → (i : ℕ) → i < size (net k)
            → switched_at (board.partner w) (net k) (bytes k) i ≡ true
        up k l K zero m = refl
        up k l K (suc i) m =
            let p = (good k l).earlier (suc i) (omega arith) m in
            eq-eqb _ _ (track_at-byte_of meet ns A b k (suc i) l m ∙ K _ _ (edge-down (net k) (suc i) (omega arith) m)
            ∙ ap (board.partner w _ _) (sym (track_at-byte_of meet ns A b k (parent (net k) (suc i)) l (omega arith))))

    whole-test : (every_net partial (whole_wires board.broken) ns b ≡ true) ↔ WiresWhole board w (looked_nets partial byte ns) byte
    unfolding whole_wires
    whole-test = (
      (λ h n c. each-looked (λ x. has x c ≡ true → board.broken (wire c (byte x.number c)) ≡ false) (λ k l o m.
          let e = has-entry (net k) c m in
          ap₂ (λ (d t : ℕ). board.broken (wire d t)) (sym e.1) (byte_of-track_at meet ns A b k c l m)
          ∙ not-true _ (every-at (size (net k)) _ (every_net-at partial (whole_wires board.broken) ns b h k l o) (entry_of (net k) c) e.0))
          n),
      (λ R. at-every_net partial (whole_wires board.broken) ns b (λ k l o. at_every (size (net k)) _ (λ i m.
          ap not (ap (λ (t : ℕ). board.broken (wire (channel (net k) i) t)) (track_at-byte_of meet ns A b k i l m)
          ∙ R (net k) (channel (net k) i) (looked-at k l o) (has-at (net k) i m))))),
    )

    -- no wire is shared by the nets at two indices
    shared : (k l : ℕ) → no_wire_shared (net k) (bytes k) (net l) (bytes l) ≡ true → k < length ns → l < length ns
        → (c : ℕ) → has (net k) c ≡ true → has (net l) c ≡ true → byte (net k).number c ≡ byte (net l).number c → ⊥
    unfolding no_wire_shared wires_differ
    shared k l h p q c m o e =
        let x = has-entry (net k) c m in
        let y = has-entry (net l) c o in
        let d = every-at (size (net l)) _ (every-at (size (net k)) _ h (entry_of (net k) c) x.0) (entry_of (net l) c) y.0 in
        let f = sym (byte_of-track_at meet ns A b k c p m) ∙ e ∙ byte_of-track_at meet ns A b l c q o in
        true≢false (sym (true-both _ _ (eq-eqb _ _ (x.1 ∙ sym y.1)) (eq-eqb _ _ f)) ∙ not-true _ d)

    conflict-test : (no_conflicts partial ns b ≡ true) ↔ WiresExclusive board w (looked_nets partial byte ns) byte
    unfolding no_wire_shared wires_differ
    conflict-test = (
      (λ h n m c i j.
          each-looked (λ x. has x c ≡ true → has m c ≡ true → byte x.number c ≡ byte m.number c → x.number ≡ m.number)
          (λ k p r. each-looked
          (λ y. has (net k) c ≡ true → has y c ≡ true → byte (net k).number c ≡ byte y.number c → (net k).number ≡ y.number)
          (λ l q t. same h c k l p q r t (dec_lt k l) (dec_lt l k)) m j) n i),
      (λ C. at_every (length ns) _ (λ k p. at_every k _ (λ l q. let g : l < length ns = omega arith in
          no_conflict-where partial ns b k l (λ r t.
          at_every (size (net k)) _ (λ i m. at_every (size (net l)) _ (λ j o. not-passed _ (λ e.
          let d = both_true (eqb (channel (net k) i) (channel (net l) j)) _ e in
          let c = eqb-true _ _ d.0 in
          apart-at ns A.apart k l q p
          (C (net k) (net l) (channel (net k) i) (looked-at k p r) (looked-at l g t)
          (has-at (net k) i m) (ap (has (net l)) c ∙ has-at (net l) j o)
          (sym (track_at-byte_of meet ns A b k i p m) ∙ eqb-true _ _ d.1 ∙ track_at-byte_of meet ns A b l j g o
          ∙ ap (byte (net l).number) (sym c)))))))))),
    )
      where
        pair : no_conflicts partial ns b ≡ true → (k l : ℕ) → k < length ns → l < k → LookedAt k → LookedAt l
            → no_wire_shared (net k) (bytes k) (net l) (bytes l) ≡ true
        pair h k l p q r t = sym (no_conflict-looked partial ns b k l r t) ∙ every-at k _ (every-at (length ns) _ h k p) l q

        same : no_conflicts partial ns b ≡ true → (c k l : ℕ) → k < length ns → l < length ns → LookedAt k → LookedAt l
            → Dec (k < l) → Dec (l < k) → has (net k) c ≡ true → has (net l) c ≡ true
            → byte (net k).number c ≡ byte (net l).number c → (net k).number ≡ (net l).number
        same h c k l p q r t (yes d) f m o e = absurd (shared l k (pair h l k q d t r) q p c o m (sym e))
        same h c k l p q r t (no d) (yes f) m o e = absurd (shared k l (pair h k l p f r t) p q c m o e)
        same h c k l p q r t (no d) (no f) m o e = let z : k ≡ l = omega arith in ap (λ (x : ℕ). (net x).number) z

-- tests that agree, the third and the fourth only where the second passes, have one first number
abbrev numbers : Bool → Bool → Bool → Bool → Bool → ℕ
numbers x y z u v = first_number ((10, not x) ∷ (11, not y) ∷ (12, not z) ∷ (21, not u) ∷ (13, not v) ∷ [])

pub numbers-same : (x x2 y y2 z z2 u u2 v v2 : Bool) → x ≡ x2 → y ≡ y2 → (y ≡ true → z ≡ z2) → (y ≡ true → u ≡ u2) → v ≡ v2
    → numbers x y z u v ≡ numbers x2 y2 z2 u2 v2
unfolding first_number
numbers-same x x2 true y2 z z2 u u2 v v2 e f g d h = let k = g refl in let l = d refl in λ i. numbers (e i) (f i) (k i) (l i) (h i)
numbers-same x x2 false y2 z z2 u u2 v v2 e f g d h = λ i. numbers (e i) (f i) z2 u2 (h i)

-- equivalent netlists with equal tracks
module _ (partial : Bool) (meet : ℕ → ℕ → Bool) (board : Board) (w : ℕ) (P : Connects w meet (board.partner w))
    (ns ms : List Net) (A : Accepted meet ns) (B : Accepted meet ms) (r : Relisted ns ms) (b d : List ℕ)
    (S : SameTracks ns (byte_of ns b) (byte_of ms d)) (p : length b ≡ entry_count ns) (q : length d ≡ entry_count ms) where
  abbrev τ : ℕ → ℕ → ℕ
  τ = byte_of ns b

  abbrev σ : ℕ → ℕ → ℕ
  σ = byte_of ms d

  abbrev ps : List Net
  ps = looked_nets partial τ ns

  abbrev qs : List Net
  qs = looked_nets partial σ ms

  there : Relisted ps qs
  there = looked_nets-relisted ns ms r τ σ S partial

  back : Relisted qs ps
  back = relisted-sym ps qs there

  same_there : SameTracks ps τ σ
  same_there = looked_nets-tracks ns ms r τ σ S partial

  same_back : SameTracks qs σ τ
  same_back = tracks-sym ps qs τ σ there same_there

  range_same : every_net partial (in_range w) ns b ≡ every_net partial (in_range w) ms d
  range_same =
      same_test _ _
      (λ h. (range-test partial meet ms B d q board w).1
      (range-carries board w ps qs τ σ there same_there ((range-test partial meet ns A b p board w).0 h)))
      (λ h. (range-test partial meet ns A b p board w).1
      (range-carries board w qs ps σ τ back same_back ((range-test partial meet ms B d q board w).0 h)))

  switch-same : every_net partial (in_range w) ns b ≡ true → every_net partial (switched (board.partner w)) ns b ≡ every_net partial (switched (board.partner w)) ms d
  switch-same g =
      let R = (range-test partial meet ns A b p board w).0 g in
      let Q = range-carries board w ps qs τ σ there same_there R in
      same_test _ _
      (λ h. (switch-test partial meet ms B d q board w P Q).1
      (connected-carries board w ps qs τ σ there same_there meet (looked_nets-accepted partial σ meet ms B)
      ((switch-test partial meet ns A b p board w P R).0 h)))
      (λ h. (switch-test partial meet ns A b p board w P R).1
      (connected-carries board w qs ps σ τ back same_back meet (looked_nets-accepted partial τ meet ns A)
      ((switch-test partial meet ms B d q board w P Q).0 h)))

  whole_same : every_net partial (whole_wires board.broken) ns b ≡ every_net partial (whole_wires board.broken) ms d
  whole_same =
      same_test _ _
      (λ h. (whole-test partial meet ms B d q board w).1
      (whole_carries board w ps qs τ σ there same_there ((whole-test partial meet ns A b p board w).0 h)))
      (λ h. (whole-test partial meet ns A b p board w).1
      (whole_carries board w qs ps σ τ back same_back ((whole-test partial meet ms B d q board w).0 h)))

  conflict-same : no_conflicts partial ns b ≡ no_conflicts partial ms d
  conflict-same =
      same_test _ _
      (λ h. (conflict-test partial meet ms B d q board w).1
      (exclusive-carries board w ps qs τ σ there same_there ((conflict-test partial meet ns A b p board w).0 h)))
      (λ h. (conflict-test partial meet ns A b p board w).1
      (exclusive-carries board w qs ps σ τ back same_back ((conflict-test partial meet ms B d q board w).0 h)))

  -- the same number, whatever it is
  pub assignment_number-resp : assignment_number partial board w ns b ≡ assignment_number partial board w ms d
  unfolding assignment_number wrong_size track_out_of_range not_switched broken_wire wire_conflict
  assignment_number-resp =
      numbers-same _ _ _ _ _ _ _ _ _ _
      (eq-eqb (length b) (entry_count ns) p ∙ sym (eq-eqb (length d) (entry_count ms) q)) range_same switch-same (λ e. whole_same) conflict-same
