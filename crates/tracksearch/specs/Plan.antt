-- Which tracks fit, by the prepared tables of a search. Definitions only; laws: proofs/PlanLaws.antt. Assumes nothing.
-- That the tables of a sheet make the same test as 01's plain search is proved above, where the tables are made.
use Rattle.std.specs.Prelude.{ℕ, zero, suc, ◌+◌, ◌≤◌, ◌<◌, List, Bool, true, false, ◌&&◌, ◌||◌, eqb, get_or}
use Rattle.std.proofs.Math.Bool.{not}
use Rattle.std.proofs.Math.Dec.{leb}
use Rattle.std.proofs.Math.ListN.{length}
use Rattle.bounded.specs.Bounded.{every, any_below}
use Rattle.marks.specs.Marks.{held_at}
use Rattle.wires.specs.Wires.{Tables, size_of, chan_of, track_of, holds, NetFits}

-- The tables of a search: those of its nets; the marks that it begins with; old[k] is the home track that net k had, 255 for none; limit is
-- how many nets may move.
pub record SearchTables : Type 0 where
  pub nets : Tables
  pub marks : List ℕ
  pub old : List ℕ
  pub limit : ℕ

abbrev pub search_tables : Tables → List ℕ → List ℕ → ℕ → SearchTables
search_tables nets marks old limit = record { nets = nets; marks = marks; old = old; limit = limit }

-- 1 where the home track t moves net k, which had the home track old[k]
unfoldable pub move_from : List ℕ → ℕ → ℕ → ℕ
move_from old k t = elim (not (eqb (get_or old k 0) 255) && not (eqb (get_or old k 0) t)) [ true ↦ 1 | false ↦ 0 ]

-- how many of the first k nets the home tracks hs move
unfoldable pub moves_from : List ℕ → List ℕ → ℕ → ℕ
unfolding move_from
moves_from old hs zero = 0
moves_from old hs (suc k) = moves_from old hs k + move_from old k (get_or hs k 0)

-- one of the first nets, which have the home tracks hs, holds track x of channel c
unfoldable pub held_by_nets : Tables → List ℕ → ℕ → ℕ → Bool
unfolding any_below holds
held_by_nets nets hs c x = any_below (length hs) (λ k. holds nets k (get_or hs k 0) c x)

module _ (p : SearchTables) where
  -- track x of channel c is held: it was marked before the search, or one of the nets placed holds it
  unfoldable pub held_by : List ℕ → ℕ → ℕ → Bool
  unfolding held_at held_by_nets
  held_by hs c x = held_at p.marks c x || held_by_nets p.nets hs c x

  -- no wire that the home track t gives the net after those of hs is held
  unfoldable pub free : List ℕ → ℕ → Bool
  unfolding every held_by track_of
  free hs t =
      let k = length hs in
      every (size_of p.nets k) (λ i. not (held_by hs (chan_of p.nets k i) (track_of p.nets k i t)))

  -- the home track t fits the net after those of hs
  unfoldable pub plan_fits : List ℕ → ℕ → Bool
  unfolding free moves_from move_from
  plan_fits hs t = free hs t && leb (moves_from p.old hs (length hs) + move_from p.old (length hs) t) p.limit

-- tables of n nets that a search can run on
pub record NetsFit (nets : Tables) (n : ℕ) : Type 0 where
  pub count : n ≤ 64
  pub width : nets.width ≤ 32
  pub each : (k : ℕ) → k < n → NetFits nets k
