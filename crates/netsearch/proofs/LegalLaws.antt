-- An assignment is legal by indices of nets and entries exactly if it is by net number and channel. Assumes nothing.
-- track_at-byte_of, byte_of-track_at: one byte, both ways; tracks_of-bytes: all of a net's. one_index: a number has one index. legal-bytes, bytes-legal: of accepted nets, from one to
-- the other; legal_at-bytes, bytes-legal_at: of an accepted sheet.
use mathlib.Core.Path.{◌≡◌, sym, subst, ap, ap₂, ◌∙◌}
use Prim.Native.Nat.{ℕ, ◌<◌}
use native.Mathlib.Omega.{arith}
use native.Mathlib.Decide.{dec_lt}
use mathlib.Core.List.{List, map}
use mathlib.Core.Bool.{Bool, true, false}
use lib.ListN.{length, length-map}
use lib.Seq.{ext_get_or}
use Rattle.bounded.proofs.ListsLaws.{map_at}
use Rattle.grid.specs.Grid.{meet, Wire, wire}
use Rattle.switchbox.specs.Facts.{Connects}
use Rattle.net.specs.Net.{Entry, Net, size, channels, channel, parent, has, entry_of}
use Rattle.net.specs.Nets.{entry_count, net_in, In}
use Rattle.net.specs.Facts.{AcceptedNet, Accepted}
use Rattle.net.proofs.NetsLaws.{in_place, place_in, apart-at}
use Rattle.net.proofs.NetLaws.{has-at, has-entry}
use Rattle.assignment.specs.Assignment.{first_byte, tracks_of, track_at, Legal}
use Rattle.assignment.proofs.AssignmentLaws.{tracks_of-length, track_at-byte}
use Rattle.assignment.specs.Board.{Board}
use Rattle.netsearch.specs.HomeTrack.{byte_of}
use Rattle.netsearch.specs.Facts.{EdgesConnected, LegalBytes}
use Rattle.netsearch.proofs.StepLaws.{byte_of-entry}
use Rattle.netsearch.proofs.TrackLaws.{edge-down, links-connected}

module _ (meet : ℕ → ℕ → Bool) (ns : List Net) (A : Accepted meet ns) (b : List ℕ) where
  -- the byte of the net at index k for its entry i
  pub track_at-byte_of : (k i : ℕ) → k < length ns → i < size (net_in ns k)
      → track_at ns b k i ≡ byte_of ns b (net_in ns k).number (channel (net_in ns k) i)
  unfolding first_byte
  track_at-byte_of k i l h = track_at-byte ns b k i h ∙ sym (byte_of-entry meet ns A b k i l h)

  -- and for its channel c
  pub byte_of-track_at : (k c : ℕ) → k < length ns → has (net_in ns k) c ≡ true
      → byte_of ns b (net_in ns k).number c ≡ track_at ns b k (entry_of (net_in ns k) c)
  byte_of-track_at k c l h =
      let e = has-entry (net_in ns k) c h in
      ap (byte_of ns b (net_in ns k).number) (sym e.1) ∙ sym (track_at-byte_of k (entry_of (net_in ns k) c) l e.0)

  -- all of a net's bytes
  pub tracks_of-bytes : length b ≡ entry_count ns → (k : ℕ) → k < length ns
      → tracks_of ns b k ≡ map (byte_of ns b (net_in ns k).number) (channels (net_in ns k))
  tracks_of-bytes whole k l =
      let n = net_in ns k in
      let f = byte_of ns b n.number in
      let z = tracks_of-length ns b k whole l in
      let y = length-map (channels n) f in
      let x = length-map n.entries (λ (e : Entry). e.channel) in
      ext_get_or 0 _ _ (z ∙ sym (y ∙ x)) (λ i h.
      track_at-byte_of k i l (omega arith) ∙ sym (map_at f (channels n) 0 i (omega arith)))

  -- one number, one index
  pub one_index : (k l : ℕ) → k < length ns → l < length ns → (net_in ns k).number ≡ (net_in ns l).number → k ≡ l
  one_index k l p q e = at (dec_lt k l) (dec_lt l k)
    where
      at : Dec (k < l) → Dec (l < k) → k ≡ l
      at (yes m) d = absurd (apart-at ns A.apart l k m q (sym e))
      at (no m) (yes o) = absurd (apart-at ns A.apart k l o p e)
      at (no m) (no o) = omega arith

  -- what holds of the net at each index holds of each net
  pub each-place : (Q : Net → Type 0) → ((k : ℕ) → k < length ns → Q (net_in ns k)) → (n : Net) → In n ns → Q n
  each-place Q f n i = let p = in_place ns n i in subst Q p.2 (f p.0 p.1)

  -- x and y do not share a wire of channel c
  abbrev Alone : ℕ → Net → Net → Type 0
  Alone c x y = has x c ≡ true → has y c ≡ true → byte_of ns b x.number c ≡ byte_of ns b y.number c → x.number ≡ y.number

  module _ (board : Board) (w : ℕ) where
    module _ (P : Connects w meet (board.partner w)) (L : Legal board w ns b) where
      below_at : (k : ℕ) → k < length ns → (c : ℕ) → has (net_in ns k) c ≡ true → byte_of ns b (net_in ns k).number c < w
      below_at k l c h =
          let e = has-entry (net_in ns k) c h in
          subst (λ (x : ℕ). x < w) (sym (byte_of-track_at k c l h)) (L.below k (entry_of (net_in ns k) c) l tt e.0)

      connected-at : (k : ℕ) → k < length ns → EdgesConnected (board.partner w) (net_in ns k) (byte_of ns b (net_in ns k).number)
      connected-at k l = links-connected meet n G (board.partner w) w P (byte_of ns b n.number) (below_at k l) (λ i z h.
          let p = G.earlier i z h in
          sym (track_at-byte_of k i l h) ∙ L.joined k i l tt z h ∙ ap (board.partner w _ _) (track_at-byte_of k (parent n i) l (omega arith)))
        where
          n : Net
          n = net_in ns k

          G : AcceptedNet meet n
          G = A.each n (place_in ns k l)

      whole-at : (k : ℕ) → k < length ns → (c : ℕ) → has (net_in ns k) c ≡ true → board.broken (wire c (byte_of ns b (net_in ns k).number c)) ≡ false
      whole-at k l c h =
          let e = has-entry (net_in ns k) c h in
          ap₂ (λ (d t : ℕ). board.broken (wire d t)) (sym e.1) (byte_of-track_at k c l h) ∙ L.unbroken k (entry_of (net_in ns k) c) l tt e.0

      pub legal-bytes : LegalBytes board w ns b
      legal-bytes = record {
        whole = L.whole;
        tracks = record {
          below = λ n c i. each-place (λ x. has x c ≡ true → byte_of ns b x.number c < w) (λ k l. below_at k l c) n i;
          connected = each-place (λ x. EdgesConnected (board.partner w) x (byte_of ns b x.number)) connected-at;
          whole = λ n c i. each-place (λ x. has x c ≡ true → board.broken (wire c (byte_of ns b x.number c)) ≡ false) (λ k l. whole-at k l c) n i;
          alone = λ n m c i j.
              each-place (λ x. Alone c x m) (λ k l. each-place (Alone c (net_in ns k)) (λ o p. alone_at c k o l p) m j) n i;
        };
      }
        where
          alone_at : (c k o : ℕ) → k < length ns → o < length ns → Alone c (net_in ns k) (net_in ns o)
          alone_at c k o l p h g e =
              let x = has-entry (net_in ns k) c h in
              let y = has-entry (net_in ns o) c g in
              ap (λ (z : ℕ). (net_in ns z).number)
              (L.alone k o (entry_of (net_in ns k) c) (entry_of (net_in ns o) c) l p tt tt x.0 y.0
              (ap₂ (λ (d t : ℕ). record { channel = d; track = t }) (x.1 ∙ sym y.1) (sym (byte_of-track_at k c l h) ∙ e ∙ byte_of-track_at o c p g)))

    pub bytes-legal : LegalBytes board w ns b → Legal board w ns b
    bytes-legal R = record {
      whole = R.whole;
      below = λ k i l o h.
          subst (λ (x : ℕ). x < w) (sym (track_at-byte_of k i l h))
          (R.tracks.below (net_in ns k) (channel (net_in ns k) i) (place_in ns k l) (has-at (net_in ns k) i h));
      joined = λ k i l o z h.
          let p = (A.each (net_in ns k) (place_in ns k l)).earlier i z h in
          track_at-byte_of k i l h
          ∙ R.tracks.connected (net_in ns k) (place_in ns k l) _ _ (edge-down (net_in ns k) i z h)
          ∙ ap (board.partner w _ _) (sym (track_at-byte_of k (parent (net_in ns k) i) l (omega arith)));
      unbroken = λ k i l o h.
          ap (λ (t : ℕ). board.broken (wire (channel (net_in ns k) i) t)) (track_at-byte_of k i l h)
          ∙ R.tracks.whole (net_in ns k) (channel (net_in ns k) i) (place_in ns k l) (has-at (net_in ns k) i h);
      alone = λ k l i j p q m o h g e. one_index k l p q
          (let c = ap (λ (v : Wire). v.channel) e in
          R.tracks.alone (net_in ns k) (net_in ns l) (channel (net_in ns k) i) (place_in ns k p) (place_in ns l q)
          (has-at (net_in ns k) i h) (ap (has (net_in ns l)) c ∙ has-at (net_in ns l) j g)
          (sym (track_at-byte_of k i p h) ∙ ap (λ (v : Wire). v.track) e ∙ track_at-byte_of l j q g
          ∙ ap (byte_of ns b (net_in ns l).number) (sym c)));
    }
