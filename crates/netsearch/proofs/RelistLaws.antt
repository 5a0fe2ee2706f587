-- Equivalent netlists: the same loads, the same tests, the same runs, and from the same home tracks the same bytes. Assumes nothing.
-- rising-pairs, counterparts: in rising order the nets correspond. density-same, over_capacity-same, fits-agree: the tests. plain-same,
-- least-same: the runs. assignment_from-resp: the bytes.
use mathlib.Core.Path.{◌≡◌, refl, sym, ap, ap₂, ◌∙◌, fun_ext}
use Prim.Native.Nat.{ℕ, ◌<◌}
use native.Mathlib.Omega.{arith}
use mathlib.Core.List.{List, [], ◌∷◌}
use mathlib.Core.Bool.{Bool, true, false, not, ◌&&◌, ◌||◌}
use lib.Dec.{ltb, eqb}
use lib.ListN.{length}
use Rattle.bounded.specs.Bounded.{any_below}
use Rattle.bounded.proofs.ListsLaws.{every_in-same}
use Rattle.backtracking.proofs.AgreeLaws.{Below, Agrees}
use Rattle.grid.specs.Grid.{wire}
use Rattle.net.specs.Net.{Net, channels, has}
use Rattle.switchbox.specs.Facts.{Connects}
use Rattle.net.specs.Nets.{net_in, In}
use Rattle.net.specs.Facts.{SameNet, AcceptedNet, Apart, Accepted, Relisted}
use Rattle.rank.specs.Rank.{rising}
use Rattle.rank.proofs.OrderLaws.{rising-in, in-rising, rising-length, rising-tally, rising-rising, Pairs, OneNumber, pairs, pairs-length, pairs-at, pairs-tally}
use Rattle.assignment.specs.Board.{Board}
use Rattle.netsearch.specs.HomeTrack.{track, byte_of, home_track_of, bytes_from, assignment_from}
use Rattle.netsearch.specs.declared.Search.{Search}
use Rattle.netsearch.specs.declared.Search.TheVariants.{Plain}
use Rattle.netsearch.specs.PlainSearch.{density, whole_tracks, over_capacity, held, available, fits, fits_by, plain_search, least_search}
use Rattle.netsearch.proofs.ByteLaws.{bytes_from-byte}
use Rattle.netsearch.proofs.PlaceLaws.{fits-channels}
use Rattle.netsearch.proofs.SearchByLaws.{search_by-same, least_search-same}
use Rattle.netsearch.proofs.TrackLaws.{track-same, wires_from-has}

and_same : (a b c d : Bool) → a ≡ b → (a ≡ true → c ≡ d) → (a && c) ≡ (b && d)
and_same true b c d e h = ap₂ ◌&&◌ e (h refl)
and_same false true c d e h = ap (λ (x : Bool). x && d) e
and_same false false c d e h = refl

-- the same net in two lists, accepted in both
pub record Counterpart (meet : ℕ → ℕ → Bool) (n m : Net) : Type 0 where
  pub same : SameNet n m
  pub accepted : AcceptedNet meet n
  pub accepted2 : AcceptedNet meet m

-- equivalent netlists, in rising order, correspond in whatever R holds of a net and its counterpart
pub rising-pairs : (R : Net → Net → Type 0) → OneNumber R → (ns ms : List Net) → Apart ns → Apart ms → Relisted ns ms
    → ((n m : Net) → In n ns → In m ms → SameNet n m → R n m) → Pairs R (rising ns) (rising ms)
rising-pairs R numbers ns ms A B r f =
    pairs R numbers (rising ns) (rising ms) (rising-rising ns A) (rising-rising ms B)
    (λ n h. let i = rising-in n ns h in let a = r.there n i in (a.0, in-rising a.0 ms a.1, f n a.0 i a.1 a.2))
    (λ m h. let i = rising-in m ms h in let a = r.back m i in (a.0, in-rising a.0 ns a.1, f a.0 m a.1 i a.2))

module _ (meet : ℕ → ℕ → Bool) where
  abbrev Counterparts : List Net → List Net → Type 0
  Counterparts = Pairs (Counterpart meet)

  module _ (partner : ℕ → ℕ → ℕ → ℕ) (w : ℕ) (P : Connects w meet partner) where
    counterpart-track : (n m : Net) → Counterpart meet n m → (t : ℕ) → t < w → (c : ℕ) → has n c ≡ true → track partner n t c ≡ track partner m t c
    counterpart-track n m l = track-same meet n m l.same l.accepted l.accepted2 partner w P

    held_same : (ns ms : List Net) → Counterparts ns ms → (p : List ℕ) → Below w p → (c x : ℕ)
        → held partner ns p (wire c x) ≡ held partner ms p (wire c x)
    unfolding held
    held_same [] [] a p b c x = refl
    held_same [] (m ∷ ms) a p b c x = absurd a
    held_same (n ∷ ns) [] a p b c x = absurd a
    held_same (n ∷ ns) (m ∷ ms) a [] b c x = refl
    held_same (n ∷ ns) (m ∷ ms) a (t ∷ p) b c x =
        ap₂ ◌||◌
        (wires_from-has partner n t c x
        ∙ and_same _ _ _ _ (a.0.same.channels c) (λ h. ap (λ (y : ℕ). eqb y x) (counterpart-track n m a.0 t b.0 c h))
        ∙ sym (wires_from-has partner m t c x))
        (held_same ns ms a.1 p b.1 c x)

  -- the test of a track is the same
  pub fits-same : (board : Board) (w : ℕ) → Connects w meet (board.partner w) → (ns ms : List Net) → Counterparts ns ms
      → (p : List ℕ) (t : ℕ) → Below w p → length p < length ns → t < w → fits board w ns p t ≡ fits board w ms p t
  fits-same board w P ns ms a p t b h l =
      let k = pairs-at (Counterpart meet) ns ms a (length p) h in
      fits-channels board w ns p t
      ∙ every_in-same _ _ (channels (net_in ns (length p))) (channels (net_in ms (length p))) k.same.channels
      (λ c q.
      let v = wire c (track (board.partner w) (net_in ns (length p)) t c) in
      ap (λ (x : Bool). not (board.broken v) && not x) (held_same (board.partner w) w P ns ms a p b c v.track)
      ∙ ap (λ (x : ℕ). available board w ms p (wire c x)) (counterpart-track (board.partner w) w P _ _ k t l c q))
      ∙ sym (fits-channels board w ms p t)

  module _ (ns ms : List Net) (A : Accepted meet ns) (B : Accepted meet ms) (r : Relisted ns ms) where
    pub counterparts : Counterparts (rising ns) (rising ms)
    counterparts = rising-pairs (Counterpart meet) (λ n m l. l.same.number) ns ms A.apart B.apart r (λ n m i j s. record { same = s; accepted = A.each n i; accepted2 = B.each m j })

    pub nets-length-same : length ns ≡ length ms
    nets-length-same = let e = pairs-length (Counterpart meet) (rising ns) (rising ms) counterparts in omega (arith, rising-length ns, rising-length ms)

    -- each channel carries as many nets
    pub density-same : (c : ℕ) → density ns c ≡ density ms c
    unfolding density
    density-same c = sym (rising-tally (λ n. has n c) ns) ∙ pairs-tally (Counterpart meet) _ _ (λ n m l. l.same.channels c) (rising ns) (rising ms) counterparts ∙ rising-tally (λ n. has n c) ms

    pub over_capacity-same : (board : Board) (w : ℕ) → over_capacity board w ns ≡ over_capacity board w ms
    unfolding over_capacity
    over_capacity-same board w =
        ap (λ (f : ℕ → ℕ). any_below board.channels (λ c. ltb (whole_tracks board w c) (f c))) (fun_ext density-same)

    pub fits-agree : (board : Board) (w : ℕ) → Connects w meet (board.partner w)
        → Agrees w (length ns) (fits board w (rising ns)) (fits board w (rising ms))
    fits-agree board w P p t b h l = fits-same board w P (rising ns) (rising ms) counterparts p t b (omega (arith, rising-length ns)) l

    fits_by-agree : (h : Search) (board : Board) (w : ℕ) → Connects w meet (board.partner w)
        → Agrees w (length ns) (fits_by h board w (rising ns)) (fits_by h board w (rising ms))
    fits_by-agree Plain = fits-agree

    -- one search: the same home tracks in as many trials, or nothing in as many
    pub plain-same : (h : Search) (board : Board) (w : ℕ) → Connects w meet (board.partner w) → plain_search h board w ns ≡ plain_search h board w ms
    unfolding plain_search
    plain-same h board w P =
        search_by-same _ _ w _ _ (length ns) (length ms) (over_capacity-same board w) (fits_by-agree h board w P) nets-length-same

    -- all widths
    pub least-same : (h : Search) (board : Board) → ((w : ℕ) → Connects w meet (board.partner w)) → least_search h board ns ≡ least_search h board ms
    least-same h board P = least_search-same h board board ns ms (λ w l. plain-same h board w (P w))

-- ---- the bytes written

home_of-below : (w : ℕ) → 0 < w → (ns : List Net) (hs : List ℕ) → Below w hs → (x : ℕ) → home_track_of ns hs x < w
unfolding home_track_of
home_of-below w z [] hs b x = z
home_of-below w z (n ∷ ns) [] b x = z
home_of-below w z (n ∷ ns) (t ∷ hs) b x = at (eqb n.number x) (home_of-below w z ns hs b.1 x)
  where
    at : (q : Bool) → home_track_of ns hs x < w → elim q [ true ↦ t | false ↦ home_track_of ns hs x ] < w
    at true r = b.0
    at false r = r

module _ (meet : ℕ → ℕ → Bool) where
  pairs-home_of : (ns ms : List Net) → Pairs (Counterpart meet) ns ms → (hs : List ℕ) (x : ℕ) → home_track_of ns hs x ≡ home_track_of ms hs x
  unfolding home_track_of
  pairs-home_of [] [] a hs x = refl
  pairs-home_of [] (m ∷ ms) a hs x = absurd a
  pairs-home_of (n ∷ ns) [] a hs x = absurd a
  pairs-home_of (n ∷ ns) (m ∷ ms) a [] x = refl
  pairs-home_of (n ∷ ns) (m ∷ ms) a (t ∷ hs) x = ap₂ (λ (y z : ℕ). elim (eqb y x) as (λ _. ℕ) [ true ↦ t | false ↦ z ]) a.0.same.number (pairs-home_of ns ms a.1 hs x)

  module _ (ns ms : List Net) (A : Accepted meet ns) (B : Accepted meet ms) (r : Relisted ns ms) (partner : ℕ → ℕ → ℕ → ℕ) (w : ℕ) (P : Connects w meet partner) (z : 0 < w) where
    -- the same home tracks give the same bytes
    pub assignment_from-resp : (hs : List ℕ) → Below w hs → (n : Net) (c : ℕ) → In n ns → has n c ≡ true
        → byte_of ns (assignment_from partner ns hs) n.number c ≡ byte_of ms (assignment_from partner ms hs) n.number c
    unfolding assignment_from
    assignment_from-resp hs b n c i h =
        let f = home_track_of (rising ns) hs in
        let g = home_track_of (rising ms) hs in
        let m = r.there n i in
        let x = n.number in
        let s = m.2 in
        let l = home_of-below w z (rising ns) hs b x in
        let q = s.number in
        bytes_from-byte partner ns f n c A.apart i h
        ∙ track-same meet n m.0 s (A.each n i) (B.each m.0 m.1) partner w P (f x) l c h
        ∙ ap (λ (t : ℕ). track partner m.0 t c) (pairs-home_of (rising ns) (rising ms) (counterparts meet ns ms A B r) hs x ∙ ap g q)
        ∙ sym (bytes_from-byte partner ms g m.0 c B.apart m.1 (sym (s.channels c) ∙ h))
        ∙ ap (λ (y : ℕ). byte_of ms (bytes_from partner ms g) y c) (sym q)
