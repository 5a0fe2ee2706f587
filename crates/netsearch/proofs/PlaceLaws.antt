-- Lists by their places: what is held, a valid list, a rising list. Assumes nothing.
-- in-place, place_in, apart-at, rising-at, home_track_of-at: a net by its place. valid: place by place. held, fits: which net holds a wire, and
-- that a track fits where each wire is whole and none is held.
use mathlib.Core.Path.{◌≡◌, refl, sym, subst, ap, ◌∙◌}
use mathlib.Core.Logic.{◌⊎◌, inl, inr, ◌≢◌}
use Prim.Native.Nat.{ℕ, zero, suc, ◌<◌}
use native.Mathlib.Omega.{arith}
use mathlib.Core.List.{List, [], ◌∷◌, ◌++◌, append-nil, append_assoc}
use mathlib.Core.Bool.{Bool, true, false, not, true≢false}
use lib.Dec.{eqb}
use lib.ListN.{length, get_or, take}
use borrow.Author.Tests.{eqb-true, eq-eqb, ne_eqb, not-true}
use Rattle.bounded.specs.Lists.{every_in, any_in}
use Rattle.bounded.proofs.BoundedLaws.{either_true, left-true, right-true, both_true, true-both}
use Rattle.bounded.proofs.ListsLaws.{every_in-true, true-every_in, every_in-map}
use Rattle.backtracking.proofs.SearchLaws.{Valid}
use Rattle.grid.specs.Grid.{Wire, same_wire, wire}
use Rattle.net.specs.Net.{Net, channels, has}
use Rattle.net.specs.Nets.{net_in}
use Rattle.net.proofs.NetsLaws.{place_in}
use Rattle.rank.proofs.OrderLaws.{Rising}
use Rattle.assignment.specs.Board.{Board}
use Rattle.netsearch.specs.HomeTrack.{track, wires_from, home_track_of}
use Rattle.netsearch.specs.PlainSearch.{held, available, fits}
use Rattle.netsearch.proofs.TrackLaws.{wires_from-has}

pub home_track_of-at : (ns : List Net) → Rising ns → (hs : List ℕ) (i : ℕ) → i < length ns → length hs ≡ length ns → home_track_of ns hs (net_in ns i).number ≡ get_or hs i 0
unfolding home_track_of
home_track_of-at [] r hs i a b = absurd (omega arith)
home_track_of-at (n ∷ ns) r [] i a b = absurd (omega arith)
home_track_of-at (n ∷ ns) r (t ∷ hs) zero a b = rw (eq-eqb n.number n.number refl, home_track_of)
home_track_of-at (n ∷ ns) r (t ∷ hs) (suc i) a b =
    rw (ne_eqb n.number (net_in ns i).number (λ e. omega (arith, r.0 (net_in ns i) (place_in ns i (omega arith)))), home_track_of)
    (home_track_of-at ns r.1 hs i (omega arith) (omega arith))

-- a valid list, place by place
module _ (w : ℕ) (f : List ℕ → ℕ → Bool) where
  abbrev FitsAt : List ℕ → List ℕ → ℕ → Type 0
  FitsAt p l i = (get_or l i 0 < w) × (f (p ++ take i l) (get_or l i 0) ≡ true)

  pub valid-length : (n : ℕ) (p l : List ℕ) → Valid w f n p l → length l ≡ n
  valid-length zero p [] v = refl
  valid-length zero p (t ∷ l) v = absurd v
  valid-length (suc n) p [] v = absurd v
  valid-length (suc n) p (t ∷ l) v = ap suc (valid-length n (p ++ (t ∷ [])) l v.2)

  pub valid-at : (n : ℕ) (p l : List ℕ) → Valid w f n p l → (i : ℕ) → i < n → FitsAt p l i
  valid-at zero p l v i h = absurd (omega arith)
  valid-at (suc n) p [] v i h = absurd v
  valid-at (suc n) p (t ∷ l) v zero h = (v.0, ap (λ (q : List ℕ). f q t) (append-nil p) ∙ v.1)
  valid-at (suc n) p (t ∷ l) v (suc i) h =
      let r = valid-at n (p ++ (t ∷ [])) l v.2 i (omega arith) in
      (r.0, ap (λ (q : List ℕ). f q (get_or l i 0)) (sym (append_assoc p (t ∷ []) (take i l))) ∙ r.1)

  pub at-valid : (n : ℕ) (p l : List ℕ) → length l ≡ n → ((i : ℕ) → i < n → FitsAt p l i) → Valid w f n p l
  at-valid zero p [] e h = tt
  at-valid zero p (t ∷ l) e h = absurd (omega arith)
  at-valid (suc n) p [] e h = absurd (omega arith)
  at-valid (suc n) p (t ∷ l) e h =
      let z = h 0 (omega arith) in (
        z.0,
        ap (λ (q : List ℕ). f q t) (sym (append-nil p)) ∙ z.1,
        at-valid n (p ++ (t ∷ [])) l (omega arith) (λ i k. let r = h (suc i) (omega arith) in (r.0, ap (λ (q : List ℕ). f q (get_or l i 0)) (append_assoc p (t ∷ []) (take i l)) ∙ r.1)),
      )

module _ (partner : ℕ → ℕ → ℕ → ℕ) where
  -- the net at place i holds the wire
  abbrev pub Holds : List Net → List ℕ → ℕ → ℕ → ℕ → Type 0
  Holds ns p c x i = (i < length p) × (has (net_in ns i) c ≡ true) × (track partner (net_in ns i) (get_or p i 0) c ≡ x)

  pub held-holds : (ns : List Net) (p : List ℕ) (c x : ℕ) → held partner ns p (wire c x) ≡ true → (i : ℕ) × Holds ns p c x i
  unfolding held
  held-holds [] p c x h = absurd (true≢false (sym h))
  held-holds (n ∷ ns) [] c x h = absurd (true≢false (sym h))
  held-holds (n ∷ ns) (t ∷ p) c x h = at (either_true (any_in (same_wire (wire c x)) (wires_from partner n t)) _ h) (held-holds ns p c x)
    where
      at : (any_in (same_wire (wire c x)) (wires_from partner n t) ≡ true) ⊎ (held partner ns p (wire c x) ≡ true)
          → (held partner ns p (wire c x) ≡ true → (i : ℕ) × Holds ns p c x i) → (i : ℕ) × Holds (n ∷ ns) (t ∷ p) c x i
      at (inl e) rec =
          let b = both_true (has n c) (eqb (track partner n t c) x) (sym (wires_from-has partner n t c x) ∙ e) in
          (0, (omega arith, b.0, eqb-true _ _ b.1))
      at (inr e) rec = let r = rec e in (suc r.0, (omega (arith, r.1.0), r.1.1, r.1.2))

  pub holds-held : (ns : List Net) (p : List ℕ) (c x i : ℕ) → i < length ns → Holds ns p c x i → held partner ns p (wire c x) ≡ true
  unfolding held
  holds-held [] p c x i h k = absurd (omega arith)
  holds-held (n ∷ ns) [] c x i h k = absurd (omega (arith, k.0))
  holds-held (n ∷ ns) (t ∷ p) c x zero h k =
      left-true (any_in (same_wire (wire c x)) (wires_from partner n t)) _
      (wires_from-has partner n t c x ∙ true-both (has n c) _ k.1 (eq-eqb (track partner n t c) x k.2))
  holds-held (n ∷ ns) (t ∷ p) c x (suc i) h k =
      right-true (any_in (same_wire (wire c x)) (wires_from partner n t)) _
      (holds-held ns p c x i (omega arith) (omega (arith, k.0), k.1, k.2))

module _ (board : Board) (w : ℕ) where
  -- the wire on channel c that the home track t gives the net at place k
  abbrev GivenOn : List Net → ℕ → ℕ → ℕ → Wire
  GivenOn ns t k c = wire c (track (board.partner w) (net_in ns k) t c)

  -- the test of a track, channel by channel
  pub fits-channels : (ns : List Net) (p : List ℕ) (t : ℕ)
      → fits board w ns p t ≡ every_in (λ c. available board w ns p (GivenOn ns t (length p) c)) (channels (net_in ns (length p)))
  unfolding fits
  fits-channels ns p t = every_in-map _ _ (channels (net_in ns (length p)))

  -- the wire is whole, and no net holds it
  abbrev pub Available : List Net → List ℕ → Wire → Type 0
  Available ns p v = (board.broken v ≡ false) × (held (board.partner w) ns p v ≡ false)

  -- a track fits where each wire of the net is whole and free
  pub fits-free : (ns : List Net) (p : List ℕ) (t k : ℕ) → length p ≡ k → fits board w ns p t ≡ true → (c : ℕ) → has (net_in ns k) c ≡ true
      → Available ns p (GivenOn ns t k c)
  fits-free ns p t k e h c m =
      subst (λ (k : ℕ). has (net_in ns k) c ≡ true → Available ns p (GivenOn ns t k c)) e
      (λ q.
      let b = both_true _ _ (every_in-true _ (channels (net_in ns (length p))) c (sym (fits-channels ns p t) ∙ h) q) in
      (not-true _ b.0, not-true _ b.1))
      m

  pub free-fits : (ns : List Net) (p : List ℕ) (t k : ℕ) → length p ≡ k
      → ((c : ℕ) → has (net_in ns k) c ≡ true → Available ns p (GivenOn ns t k c)) → fits board w ns p t ≡ true
  free-fits ns p t k e =
      subst (λ (k : ℕ). ((c : ℕ) → has (net_in ns k) c ≡ true → Available ns p (GivenOn ns t k c)) → fits board w ns p t ≡ true) e
      (λ h.
      fits-channels ns p t
      ∙ true-every_in _ (channels (net_in ns (length p))) (λ c q. let b = h c q in true-both _ _ (ap not b.0) (ap not b.1)))
