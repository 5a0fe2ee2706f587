-- Refit's placed nets, its count of moves and its rounds (01 "The ticket", "Trials"). Definitions only. Assumes nothing.
use Rattle.std.specs.Prelude.{ℕ, suc, ◌+◌, Bool, ◌&&◌, eqb, length}
use mathlib.Core.List.{List, [], ◌∷◌, ◌++◌, map}
use Rattle.std.proofs.Math.Bool.{not}
use Rattle.std.proofs.Math.Dec.{leb}
use Rattle.bounded.specs.Lists.{lowest}
use Rattle.backtracking.specs.Search.{Outcome, first_of, backtrack}
use Rattle.net.specs.Net.{Net, channels}
use Rattle.rank.specs.Rank.{rising, one_if, tally}
use Rattle.nettracks.specs.NetTracks.{unrouted}
use Rattle.assignment.specs.Board.{Board}
use Rattle.netsearch.specs.HomeTrack.{home}
use Rattle.netsearch.specs.PlainSearch.{over_capacity, unless_over, fits}

-- `old x c` is the old byte of the net number x on the channel c
module _ (old : ℕ → ℕ → ℕ) where
  -- 01: placed
  unfoldable pub is_routed : Net → Bool
  unfolding unrouted
  is_routed n = not (unrouted (map (old n.number) (channels n)))

  -- the routed net n has another home track than t
  unfoldable pub moves : Net → ℕ → Bool
  unfolding is_routed lowest
  moves n t = is_routed n && not (eqb (old n.number (home n)) t)

  -- how many of the nets the home tracks p move, net by net
  unfoldable pub moves_in : List Net → List ℕ → ℕ
  unfolding moves
  moves_in [] p = 0
  moves_in (n ∷ ns) [] = 0
  moves_in (n ∷ ns) (t ∷ p) = one_if (moves n t) + moves_in ns p

  unfoldable pub routed_count : List Net → ℕ
  unfolding tally is_routed
  routed_count ns = tally is_routed ns

  -- "rounds d = 0, 1, 2 up to the number of placed nets": how many
  abbrev pub round_count : List Net → ℕ
  round_count ns = suc (routed_count ns)

  module _ (board : Board) (w : ℕ) where
    -- "in round d a track that would be change d+1 does not fit"
    unfoldable pub fits_in : List Net → ℕ → List ℕ → ℕ → Bool
    unfolding fits moves_in
    fits_in ns d p t = fits board w ns p t && leb (moves_in ns (p ++ (t ∷ []))) d

    -- 01: round. "Refit, unless a channel is overloaded, sums rounds d = 0, 1, 2 up to the number of placed nets … It stops at the first round
    -- with a ticket."
    unfoldable pub refit_search : List Net → Outcome (List ℕ)
    unfolding unless_over over_capacity first_of backtrack fits_in rising routed_count
    refit_search ns =
        unless_over (over_capacity board w ns) (λ _. first_of (λ d. backtrack w (fits_in (rising ns) d) (length ns) []) (round_count ns) 0)
