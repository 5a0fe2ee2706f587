-- The plain search on nets, at one width and over the widths of Least (01 "Trials"; 02, M-105). Definitions only; laws: proofs/SearchByLaws.antt,
-- proofs/PlaceLaws.antt. Assumes nothing.
use Rattle.std.specs.Prelude.{ℕ, List, [], ◌∷◌, Bool, true, false, not, ◌&&◌, ◌||◌, ltb, length}
use Rattle.bounded.specs.Bounded.{any_below, count_below}
use Rattle.bounded.specs.Lists.{memb, every_in, any_in}
use Rattle.backtracking.specs.Search.{Outcome, found, not_found, first_of, backtrack}
use Rattle.grid.specs.Grid.{Wire, same_wire, wire}
use Rattle.net.specs.Net.{Net, has}
use Rattle.switchbox.specs.SwitchBox.{max_width}
use Rattle.net.specs.Nets.{net_in}
use Rattle.rank.specs.Rank.{rising, tally}
use Rattle.assignment.specs.Board.{Board}
use Rattle.netsearch.specs.HomeTrack.{track, wires_from}
use Rattle.netsearch.specs.declared.Search.{Search}
use Rattle.netsearch.specs.declared.Search.TheVariants.{Plain}

-- how many nets the channel c carries (channel density)
unfoldable pub density : List Net → ℕ → ℕ
unfolding tally memb
density ns c = tally (λ n. has n c) ns

-- how many tracks of the channel c are whole at the width w (02, M-105): "Items at or above the width in use, in Least the width tried, are
-- ignored"
unfoldable pub whole_tracks : Board → ℕ → ℕ → ℕ
unfolding count_below
whole_tracks board w c = count_below w (λ t. not (board.broken (wire c t)))

-- 01: overloaded. "some channel carries more nets than W", now: "The overload test compares a channel's nets with its whole tracks." (02,
-- M-105)
unfoldable pub over_capacity : Board → ℕ → List Net → Bool
unfolding density whole_tracks any_below
over_capacity board w ns = any_below board.channels (λ c. ltb (whole_tracks board w c) (density ns c))

-- nothing, in no trial, where a channel is over capacity
unfoldable pub unless_over : Bool → (Unit {0} → Outcome (List ℕ)) → Outcome (List ℕ)
unless_over true o = not_found 0
unless_over false o = o tt

-- the wire v "is held by a net placed before": it is one of the wires of the first nets, which have the home tracks p; `partner c d i` is the
-- track on channel d that track i on channel c is connected to
unfoldable pub held : (ℕ → ℕ → ℕ → ℕ) → List Net → List ℕ → Wire → Bool
unfolding any_in track
held partner [] p v = false
held partner (n ∷ ns) [] v = false
held partner (n ∷ ns) (t ∷ p) v = any_in (same_wire v) (wires_from partner n t) || held partner ns p v

module _ (board : Board) (w : ℕ) where
  -- the wire v is whole as well as free
  abbrev pub available : List Net → List ℕ → Wire → Bool
  available ns p v = not (board.broken v) && not (held (board.partner w) ns p v)

  -- "A track fits if none of the wires it gives the net is held", now: "A track fits only if its wires are whole as well as free" (02, M-105):
  -- home track t for the net after those of p
  unfoldable pub fits : List Net → List ℕ → ℕ → Bool
  unfolding every_in held track
  fits ns p t = every_in (available ns p) (wires_from (board.partner w) (net_in ns (length p)) t)

-- the test of a home track that a search makes
abbrev pub fits_by : Search → Board → ℕ → List Net → List ℕ → ℕ → Bool
fits_by Plain = fits

-- 01: plain search. "The plain search takes nets in rising net number"; "If some channel carries more nets than W, or there are no nets, it
-- makes no trial"
unfoldable pub plain_search : Search → Board → ℕ → List Net → Outcome (List ℕ)
unfolding unless_over over_capacity backtrack rising fits
plain_search h board w ns = unless_over (over_capacity board w ns) (λ _. backtrack w (fits_by h board w (rising ns)) (length ns) [])

-- ---- Least

-- what was found, with the width
unfoldable pub at_width : ℕ → Outcome (List ℕ) → Outcome (ℕ × List ℕ)
at_width w (found hs c) = found (w, hs) c
at_width w (not_found c) = not_found c

-- "the smallest width from 1 to 32": the first width that Least tries, and how many it tries
abbrev pub narrowest : ℕ
narrowest = 1

abbrev pub widths_tried : ℕ
widths_tried = max_width

-- "Least sums the trials of widths 1, 2 and so on up to the one found, else to 32"
unfoldable pub least_search : Search → Board → List Net → Outcome (ℕ × List ℕ)
unfolding first_of at_width plain_search
least_search h board ns = first_of (λ w. at_width w (plain_search h board w ns)) widths_tried narrowest
