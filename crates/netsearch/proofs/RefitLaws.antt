-- Relisted nets with equal old tracks have the same rounds of Refit: refit-same; and the same moves: moved-resp. Assumes nothing.
use mathlib.Core.Path.{◌≡◌, refl, sym, ap, ap₂, ◌∙◌}
use Prim.Native.Nat.{ℕ, suc, ◌+◌}
use mathlib.Core.List.{List, [], ◌∷◌, ◌++◌}
use mathlib.Core.Bool.{Bool, true, not, ◌&&◌}
use lib.Dec.{leb, eqb}
use lib.ListN.{length}
use Rattle.net.specs.Net.{Net, has}
use Rattle.switchbox.specs.Facts.{Connects}
use Rattle.net.specs.Facts.{Accepted, Relisted}
use Rattle.rank.specs.Rank.{rising, one_if}
use Rattle.rank.proofs.OrderLaws.{rising-tally, Pairs, pairs-tally}
use Rattle.assignment.specs.Board.{Board}
use Rattle.netsearch.specs.HomeTrack.{SameTracks, home}
use Rattle.netsearch.specs.Refit.{is_routed, moves, moves_in, routed_count, fits_in, refit_search}
use Rattle.netsearch.proofs.RelistLaws.{Counterpart, rising-pairs, nets-length-same, over_capacity-same, fits-agree}
use Rattle.netsearch.proofs.RoutedLaws.{is_routed-resp}
use Rattle.netsearch.proofs.SearchByLaws.{rounds_by-same}
use Rattle.netsearch.proofs.TrackLaws.{has-home, home_same}

module _ (meet : ℕ → ℕ → Bool) (old old2 : ℕ → ℕ → ℕ) where
  -- counterparts with equal old tracks
  record CounterpartOld (n m : Net) : Type 0 where
    nets : Counterpart meet n m
    placing : is_routed old n ≡ is_routed old2 m
    tracks : (c : ℕ) → has n c ≡ true → old n.number c ≡ old2 m.number c

  moves-same : (n m : Net) → CounterpartOld n m → (t : ℕ) → moves old n t ≡ moves old2 m t
  unfolding moves
  moves-same n m l t =
      let k = l.nets in
      ap₂ (λ (a : Bool) (x : ℕ). a && not (eqb x t)) l.placing
      (l.tracks (home n) (has-home meet n k.accepted) ∙ ap (old2 m.number) (home_same meet n m k.same k.accepted k.accepted2))

  moves_in-same : (ns ms : List Net) → Pairs CounterpartOld ns ms → (p : List ℕ) → moves_in old ns p ≡ moves_in old2 ms p
  unfolding moves_in
  moves_in-same [] [] a p = refl
  moves_in-same [] (m ∷ ms) a p = absurd a
  moves_in-same (n ∷ ns) [] a p = absurd a
  moves_in-same (n ∷ ns) (m ∷ ms) a [] = refl
  moves_in-same (n ∷ ns) (m ∷ ms) a (t ∷ p) = ap₂ ◌+◌ (ap one_if (moves-same n m a.0 t)) (moves_in-same ns ms a.1 p)

  module _ (ns ms : List Net) (A : Accepted meet ns) (B : Accepted meet ms) (r : Relisted ns ms) (S : SameTracks ns old old2) where
    counterparts-old : Pairs CounterpartOld (rising ns) (rising ms)
    counterparts-old =
        rising-pairs CounterpartOld (λ n m l. l.nets.same.number) ns ms A.apart B.apart r
        (λ n m i j s. record { nets = record { same = s; accepted = A.each n i; accepted2 = B.each m j }; placing = is_routed-resp ns ms r old old2 S n m i s; tracks = λ c h. S n i c h ∙ ap (λ (x : ℕ). old2 x c) s.number })

    routed_count-same : routed_count old ns ≡ routed_count old2 ms
    unfolding routed_count
    routed_count-same = sym (rising-tally _ ns) ∙ pairs-tally CounterpartOld _ _ (λ n m l. l.placing) (rising ns) (rising ms) counterparts-old ∙ rising-tally _ ms

    -- as many nets are moved
    pub moved-resp : (hs : List ℕ) → moves_in old (rising ns) hs ≡ moves_in old2 (rising ms) hs
    moved-resp = moves_in-same (rising ns) (rising ms) counterparts-old

    -- the same home tracks in as many trials over the rounds, or nothing in as many
    pub refit-same : (board : Board) (w : ℕ) → Connects w meet (board.partner w)
        → refit_search old board w ns ≡ refit_search old2 board w ms
    unfolding refit_search fits_in
    refit-same board w P =
        rounds_by-same _ _ w _ _ (length ns) (length ms) _ _ (over_capacity-same meet ns ms A B r board w)
        (λ d p t u v l. ap₂ ◌&&◌ (fits-agree meet ns ms A B r board w P p t u v l) (ap (λ (x : ℕ). leb x d) (moved-resp (p ++ (t ∷ [])))))
        (nets-length-same meet ns ms A B r) (ap suc routed_count-same)
