-- What the prepared tables of a search hold (specs of tracksearch): some nets of a sheet. Definitions only; laws: proofs/PlacesLaws.antt,
-- proofs/PlannedLaws.antt. Assumes nothing.
use Rattle.std.specs.Prelude.{◌≡◌, ℕ, ◌+◌, ◌≤◌, ◌<◌, List, true, false, length, get_or, take, drop}
use Rattle.bounded.specs.Bounded.{build}
use Rattle.net.specs.Net.{Net, size, channel}
use Rattle.switchbox.specs.Facts.{boxes_of}
use Rattle.net.specs.Nets.{net_in}
use Rattle.netlist.specs.Netlist.{fabric_of, nets}
use Rattle.nettracks.specs.NetTracks.{no_track}
use Rattle.netsearch.specs.HomeTrack.{home}
use Rattle.assignment.specs.Assignment.{first_byte}
use Rattle.netsearch.specs.PlainSearch.{density}
use Rattle.netsearch.specs.Refit.{is_routed}
use Rattle.trackmaps.specs.TrackMaps.{MapsAre}
use Rattle.planner.specs.declared.Plan.{Plan}

-- some nets of a sheet: those at the places order[0], order[1] …, `count` of them
unfoldable pub nets_at : (s order : List ℕ) (count : ℕ) → List Net
unfolding build
nets_at s order count = build count (λ k. net_in (nets s) (get_or order k 0))

-- these are places of the sheet, and no more than a search has nets
pub record Places (s order : List ℕ) (count : ℕ) : Type 0 where
  pub few : count ≤ 64
  pub within : (k : ℕ) → k < count → get_or order k 0 < length (nets s)

-- the table of where the entries of the nets ns start
pub record Started (ns : List Net) (start : List ℕ) : Type 0 where
  pub first : get_or start 0 0 ≡ 0
  pub sizes : (k : ℕ) → k < length ns → get_or start (k + 1) 0 ≡ get_or start k 0 + size (net_in ns k)

-- and the table of their channels
pub record Planned (ns : List Net) (start chan : List ℕ) : Type 0 where
  pub started : Started ns start
  pub chans : (k i : ℕ) → k < length ns → i < size (net_in ns k) → get_or chan (get_or start k 0 + i) 0 ≡ channel (net_in ns k) i

-- the table of track maps, at the width w
abbrev pub Mapped : (ℕ → ℕ → ℕ → ℕ) → ℕ → List Net → List ℕ → List ℕ → Type 0
Mapped partner w ns start maps =
    (k : ℕ) → k < length ns → MapsAre partner w (net_in ns k) (take (size (net_in ns k)) (drop (get_or start k 0) maps))

-- load[c] is the number of the nets ns that channel c carries
pub record Counted (ns : List Net) (load : List ℕ) : Type 0 where
  pub each : (c : ℕ) → c < 480 → get_or load c 0 ≡ density ns c

-- the nets of a plan
abbrev pub plan_nets : List ℕ → Plan → List Net
plan_nets s p = nets_at s p.order p.count

-- these are the nets ns of the sheet, and the tables that serve every width are theirs
pub record PlanOf (s : List ℕ) (ns : List Net) (p : Plan) : Type 0 where
  pub places : Places s p.order p.count
  pub nets : plan_nets s p ≡ ns
  pub entries : Planned ns p.start p.chan
  pub loads : Counted ns p.load
  pub boxes : p.boxes ≡ boxes_of (fabric_of s)

-- the home track that a net had, or the byte for none
unfoldable pub old_home : (ℕ → ℕ → ℕ) → Net → ℕ
unfolding is_routed
old_home old n = elim (is_routed old n) [ true ↦ old n.number (home n) | false ↦ no_track ]

-- homes[k] is the home track that the k-th of the nets ns had, where `old x c` is the old byte of the net number x on the channel c
abbrev pub OldHomes : (ℕ → ℕ → ℕ) → List Net → List ℕ → Type 0
OldHomes old ns homes = (k : ℕ) → k < length ns → get_or homes k 0 ≡ old_home old (net_in ns k)

-- first[j] is where the bytes of the net at place j start in an assignment
abbrev pub FirstBytes : List Net → List ℕ → Type 0
FirstBytes ns first = (j : ℕ) → j < length ns → get_or first j 0 ≡ first_byte ns j
