-- The canonical form of a netlist, 02: standard form (M-101). Definitions only; laws: proofs/WrittenLaws.antt to proofs/FormLaws.antt. Assumes nothing.
use Prim.Native.Nat.{ℕ, zero, suc}
use mathlib.Core.List.{List, [], ◌∷◌, ◌++◌, map}
use Rattle.std.specs.Prelude.{Bool, true, false, ◌&&◌}
use Rattle.std.proofs.Math.Bool.{not}
use Rattle.bounded.specs.Bounded.{lowest_below, build}
use Rattle.bounded.specs.Lists.{memb, any_in, first_in}
use Rattle.grid.specs.Grid.{max_channels}
use Rattle.net.specs.Net.{Mark, Entry, Net, size, has, edge, no_parent}
use Rattle.netlist.specs.Netlist.{mark_of, fabric_of, width_of, nets}
use Rattle.rank.specs.Rank.{rising}
use Rattle.encoding.specs.Encoding.{encode}

-- ---- the tree of one net, from the set of its channels and the set of its joints alone

-- `is_channel c`: c is one of the net's channels; `joins c d`: c and d are a joint of it
module _ (is_channel : ℕ → Bool) (joins : ℕ → ℕ → Bool) where
  -- c may stand next, behind the channels that are written: "each tree starts at the net's home", its lowest-numbered channel (`next-home`); then
  -- one "not yet written that has a joint to a written one"
  unfoldable pub may_follow : List ℕ → ℕ → Bool
  unfolding memb any_in
  may_follow [] c = is_channel c
  may_follow (d ∷ ds) c = not (memb c (d ∷ ds)) && any_in (joins c) (d ∷ ds)

  -- "Each next entry is the lowest-numbered channel" of these
  unfoldable pub next_channel : List ℕ → ℕ
  unfolding lowest_below may_follow
  next_channel ws = lowest_below max_channels (may_follow ws)

  -- the first k channels written
  unfoldable pub written : ℕ → List ℕ
  unfolding next_channel
  written zero = []
  written (suc k) = written k ++ (next_channel (written k) ∷ [])

-- "and that one is its parent": the place among the channels ws, which are written, of the one that c has a joint to; there is no second
-- (`grown-unique`). "the first entry's parent is 65535" (01).
unfoldable pub parent_among : (ℕ → ℕ → Bool) → List ℕ → ℕ → ℕ
unfolding any_in first_in
parent_among joins ws c = elim (any_in (joins c) ws) [ true ↦ first_in (joins c) ws | false ↦ no_parent ]

-- entry k
unfoldable pub entry_next : (ℕ → Bool) → (ℕ → ℕ → Bool) → ℕ → Entry
unfolding next_channel written parent_among
entry_next is_channel joins k =
    let ws = written is_channel joins k in
    let c = next_channel is_channel joins ws in
    record { channel = c; parent = parent_among joins ws c }

-- a net with its tree so: as many entries as it has channels
unfoldable pub canonical_net : Net → Net
unfolding build entry_next edge
canonical_net n = record { number = n.number; entries = build (size n) (entry_next (has n) (edge n)) }

-- ---- the sheet

-- "so that nets stand in rising number"
abbrev pub canonical_nets : List ℕ → List Net
canonical_nets s = map canonical_net (rising (nets s))

-- 02: standard form, of the sheet s: the same grid, kind and W; of kind 3 the same 12 bytes, "and the standard form keeps them" (M-102); with each
-- mark, and with the sheet's own: "the standard form keeps the sheet's mark" (M-106)
unfoldable pub canonical_in : Mark → List ℕ → List ℕ
unfolding encode canonical_net rising nets
canonical_in mark s = encode mark (fabric_of s) (width_of s) (canonical_nets s)

unfoldable pub canonical_form : List ℕ → List ℕ
unfolding canonical_in
canonical_form s = canonical_in (mark_of s) s
