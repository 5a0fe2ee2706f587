-- Valid lists of home tracks and legal assignments are the same thing. Assumes nothing.
-- legal-valid: from legal tracks to a valid list. valid-legal, valid-homes: from a valid list to its assignment, whose home tracks it is.
use mathlib.Core.Path.{◌≡◌, sym, subst, ap, ◌∙◌}
use Prim.Native.Nat.{ℕ, ◌<◌}
use native.Mathlib.Omega.{arith}
use native.Mathlib.Decide.{dec_lt}
use mathlib.Core.List.{List, []}
use mathlib.Core.Bool.{Bool, true, false, true≢false}
use lib.ListN.{length, get_or, take, length-map}
use lib.Seq.{length-take-le, get_or-take, ext_get_or}
use Rattle.backtracking.proofs.SearchLaws.{Valid}
use Rattle.net.specs.Net.{Net, has}
use Rattle.bounded.proofs.BoundedLaws.{cannot-pass}
use Rattle.bounded.proofs.ListsLaws.{map_at}
use Rattle.grid.specs.Grid.{wire}
use Rattle.switchbox.specs.Facts.{Connects}
use Rattle.net.specs.Nets.{no_net, net_in, In}
use Rattle.net.specs.Facts.{AcceptedNet, Accepted}
use Rattle.net.proofs.NetsLaws.{in_place, place_in}
use Rattle.rank.specs.Rank.{rising}
use Rattle.rank.proofs.OrderLaws.{Rising, rising-in, in-rising, rising-length, rising-rising, rising-at}
use Rattle.assignment.specs.Board.{Board}
use Rattle.netsearch.specs.HomeTrack.{home, track, byte_of, home_track_of, assignment_from, homes}
use Rattle.netsearch.specs.PlainSearch.{held, fits}
use Rattle.netsearch.specs.Facts.{EdgesConnected, LegalTracks, LegalBytes}
use Rattle.netsearch.proofs.ByteLaws.{assignment_from-length, bytes_from-byte}
use Rattle.netsearch.proofs.PlaceLaws.{home_track_of-at, valid-length, valid-at, at-valid, held-holds, holds-held, fits-free, free-fits}
use Rattle.netsearch.proofs.TrackLaws.{edge-has, has-home, connected-track, track-home, track-connected, track-lt}

module _ (board : Board) (w : ℕ) where
  module _ (meet : ℕ → ℕ → Bool) (ns : List Net) (A : Accepted meet ns) where
    abbrev sorted : List Net
    sorted = rising ns

    up : Rising sorted
    up = rising-rising ns A.apart

    accepted_at : (i : ℕ) → i < length sorted → AcceptedNet meet (net_in sorted i)
    accepted_at i h = A.each _ (rising-in _ ns (place_in sorted i h))

    in_at : (i : ℕ) → i < length sorted → In (net_in sorted i) ns
    in_at i h = rising-in _ ns (place_in sorted i h)

    -- the home tracks of legal tracks are valid
    pub legal-valid : (τ : ℕ → ℕ → ℕ) → LegalTracks board w ns τ → Valid w (fits board w (rising ns)) (length ns) [] (homes τ (rising ns))
    legal-valid τ R = at-valid w (fits board w sorted) (length ns) [] hs (count ∙ rising-length ns) (λ i h. let k : i < length sorted = omega (arith, rising-length ns) in (
      subst (λ (x : ℕ). x < w) (sym (map_at tr sorted no_net i k)) (R.below (net_in sorted i) (home (net_in sorted i)) (in_at i k) (has-home meet (net_in sorted i) (accepted_at i k))),
      free-fits board w sorted (take i hs) (get_or hs i 0) i (length-take-le i hs (omega (arith, count))) (λ c h. (whole i k c h, cannot-pass _ (free i k c h))),
    ))
      where
        tr : Net → ℕ
        tr n = τ n.number (home n)

        hs : List ℕ
        hs = homes τ sorted

        count : length hs ≡ length sorted
        count = length-map sorted tr

        -- the track that its home track gives the net at place i
        given : (i : ℕ) → i < length sorted → (c : ℕ) → has (net_in sorted i) c ≡ true → track (board.partner w) (net_in sorted i) (get_or hs i 0) c ≡ τ (net_in sorted i).number c
        given i k c h = ap (λ (x : ℕ). track (board.partner w) (net_in sorted i) x c) (map_at tr sorted no_net i k) ∙ sym (connected-track meet (net_in sorted i) (accepted_at i k) (board.partner w) (τ (net_in sorted i).number) (R.connected (net_in sorted i) (in_at i k)) c h)

        whole : (i : ℕ) → i < length sorted → (c : ℕ) → has (net_in sorted i) c ≡ true → board.broken (wire c (track (board.partner w) (net_in sorted i) (get_or hs i 0) c)) ≡ false
        whole i k c h = ap (λ (x : ℕ). board.broken (wire c x)) (given i k c h) ∙ R.whole (net_in sorted i) c (in_at i k) h

        free : (i : ℕ) → i < length sorted → (c : ℕ) → has (net_in sorted i) c ≡ true → held (board.partner w) sorted (take i hs) (wire c (track (board.partner w) (net_in sorted i) (get_or hs i 0) c)) ≡ true → ⊥
        free i k c h q =
            let r = held-holds (board.partner w) sorted (take i hs) c _ q in
            let j = r.0 in
            let len = length-take-le i hs (omega (arith, count)) in
            let l : j < i = omega (arith, r.1.0) in
            let kj : j < length sorted = omega arith in
            let e = R.alone (net_in sorted j) (net_in sorted i) c (in_at j kj) (in_at i k) r.1.1 h
            (sym (given j kj c r.1.1) ∙ ap (λ (x : ℕ). track (board.partner w) (net_in sorted j) x c) (sym (get_or-take i hs j 0 l)) ∙ r.1.2 ∙ given i k c h) in
            omega (arith, rising-at sorted up j i l k)

    -- a valid list of home tracks gives a legal assignment
    module _ (P : Connects w meet (board.partner w)) (hs : List ℕ) (v : Valid w (fits board w (rising ns)) (length ns) [] hs) where
      abbrev byte : Net → ℕ → ℕ
      byte n c = byte_of ns (assignment_from (board.partner w) ns hs) n.number c

      count : length hs ≡ length sorted
      count = valid-length w _ (length ns) [] hs v ∙ sym (rising-length ns)

      -- the home track at place i fits
      home_at : (i : ℕ) → i < length sorted → (get_or hs i 0 < w) × (fits board w sorted (take i hs) (get_or hs i 0) ≡ true)
      home_at i k = valid-at w _ (length ns) [] hs v i (omega (arith, rising-length ns))

      -- the bytes of the net at place i
      byte_at : (i : ℕ) → i < length sorted → (c : ℕ) → has (net_in sorted i) c ≡ true → byte (net_in sorted i) c ≡ track (board.partner w) (net_in sorted i) (get_or hs i 0) c
      unfolding assignment_from
      byte_at i k c h = bytes_from-byte (board.partner w) ns (home_track_of sorted hs) (net_in sorted i) c A.apart (in_at i k) h ∙ ap (λ (x : ℕ). track (board.partner w) (net_in sorted i) x c) (home_track_of-at sorted up hs i k count)

      below_at : (i : ℕ) → i < length sorted → (c : ℕ) → has (net_in sorted i) c ≡ true → byte (net_in sorted i) c < w
      below_at i k c h = subst (λ (y : ℕ). y < w) (sym (byte_at i k c h)) (track-lt meet _ (accepted_at i k) (board.partner w) w P (get_or hs i 0) (home_at i k).0 c h)

      connected-at : (i : ℕ) → i < length sorted → EdgesConnected (board.partner w) (net_in sorted i) (byte (net_in sorted i))
      connected-at i k c d j =
          let h = edge-has meet (net_in sorted i) (accepted_at i k) c d j in
          byte_at i k d h.1 ∙ track-connected meet _ (accepted_at i k) (board.partner w) w P (get_or hs i 0) (home_at i k).0 c d j ∙ ap (board.partner w c d) (sym (byte_at i k c h.0))

      whole-at : (i : ℕ) → i < length sorted → (c : ℕ) → has (net_in sorted i) c ≡ true → board.broken (wire c (byte (net_in sorted i) c)) ≡ false
      whole-at i k c h =
          ap (λ (x : ℕ). board.broken (wire c x)) (byte_at i k c h)
          ∙ (fits-free board w sorted (take i hs) (get_or hs i 0) i (length-take-le i hs (omega (arith, count))) (home_at i k).1 c h).0

      -- no wire of an earlier net
      clash : (i j : ℕ) → j < i → i < length sorted → j < length sorted → (c : ℕ) → has (net_in sorted i) c ≡ true → has (net_in sorted j) c ≡ true → byte (net_in sorted j) c ≡ byte (net_in sorted i) c → ⊥
      clash i j l k kj c h m e =
          let len = length-take-le i hs (omega (arith, count)) in
          let f = (fits-free board w sorted (take i hs) (get_or hs i 0) i len (home_at i k).1 c h).1 in
          let g = holds-held (board.partner w) sorted (take i hs) c (track (board.partner w) (net_in sorted i) (get_or hs i 0) c) j kj
          (omega arith, m, ap (λ (x : ℕ). track (board.partner w) (net_in sorted j) x c) (get_or-take i hs j 0 l) ∙ sym (byte_at j kj c m) ∙ e ∙ byte_at i k c h) in
          true≢false (sym g ∙ f)

      alone_at : (i j : ℕ) → i < length sorted → j < length sorted → (c : ℕ) → has (net_in sorted i) c ≡ true → has (net_in sorted j) c ≡ true → byte (net_in sorted i) c ≡ byte (net_in sorted j) c → (net_in sorted i).number ≡ (net_in sorted j).number
      alone_at i j k kj c h m e = at (dec_lt i j) (dec_lt j i)
        where
          at : Dec (i < j) → Dec (j < i) → (net_in sorted i).number ≡ (net_in sorted j).number
          at (yes l) d = absurd (clash j i l kj k c m h e)
          at (no a) (yes l) = absurd (clash i j l k kj c h m (sym e))
          at (no a) (no b) = let q : i ≡ j = omega arith in ap (λ (x : ℕ). (net_in sorted x).number) q

      -- what holds of the net at each place holds of each net
      each : (Q : Net → Type 0) → ((i : ℕ) → i < length sorted → Q (net_in sorted i)) → (n : Net) → In n ns → Q n
      each Q f n i = let a = in_place sorted n (in-rising n ns i) in subst Q a.2 (f a.0 a.1)

      pub valid-legal : LegalBytes board w ns (assignment_from (board.partner w) ns hs)
      valid-legal = record {
        whole = assignment_from-length (board.partner w) ns hs;
        tracks = record {
          below = λ n c i. each (λ x. has x c ≡ true → byte x c < w) (λ a k. below_at a k c) n i;
          connected = λ n i. each (λ x. EdgesConnected (board.partner w) x (byte x)) connected-at n i;
          whole = λ n c i. each (λ x. has x c ≡ true → board.broken (wire c (byte x c)) ≡ false) (λ a k. whole-at a k c) n i;
          alone = λ n m c i k. each (λ x. has x c ≡ true → has m c ≡ true → byte x c ≡ byte m c → x.number ≡ m.number)
              (λ a l. each (λ y. has (net_in sorted a) c ≡ true → has y c ≡ true → byte (net_in sorted a) c ≡ byte y c → (net_in sorted a).number ≡ y.number) (λ b o. alone_at a b l o c) m k) n i;
        };
      }

      -- its home tracks are the list
      pub valid-homes : homes (byte_of ns (assignment_from (board.partner w) ns hs)) (rising ns) ≡ hs
      valid-homes = ext_get_or 0 _ hs (length-map sorted tr ∙ sym count) (λ i l.
          let k : i < length sorted = omega (arith, length-map sorted tr) in
          map_at tr sorted no_net i k
          ∙ byte_at i k (home (net_in sorted i)) (has-home meet (net_in sorted i) (accepted_at i k))
          ∙ track-home meet (net_in sorted i) (accepted_at i k) (board.partner w) w P (get_or hs i 0) (home_at i k).0)
        where
          tr : Net → ℕ
          tr n = byte n (home n)
