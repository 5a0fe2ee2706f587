-- What the code knows of a net's entries while it writes the canonical tree. Definitions only; laws: proofs/MarkLaws.antt,
-- proofs/GrowthLaws.antt. Assumes nothing.
use Rattle.std.specs.Prelude.{◌≡◌, ℕ, ◌<◌, List, ◌++◌, Bool, true, false, length, get_or, take}
use Rattle.bounded.specs.Bounded.{joined}
use Rattle.bounded.specs.Lists.{memb}
use Rattle.grid.specs.Grid.{max_channels}
use Rattle.net.specs.Net.{Net, max_entries, record_length, net_of, size, channel, parent, has, edge, no_parent}
use Rattle.net.specs.Facts.{AcceptedNet}
use Rattle.canonical.specs.Facts.{written_of, next_of}
use Rattle.encoding.specs.Encoding.{entry_bytes}
use Rattle.canonical.specs.Canonical.{parent_among, canonical_net}

-- the mark of an entry that is written
abbrev pub written_mark : ℕ
written_mark = 65534

-- the mark of entry i of the net n where the channels ws are written: `written_mark` if its own is; else the place of the written one that it has
-- a joint to, `no_parent` where there is none
unfoldable pub entry_mark : Net → List ℕ → ℕ → ℕ
unfolding memb parent_among edge
entry_mark n ws i = elim (memb (channel n i) ws) [ true ↦ written_mark | false ↦ parent_among (edge n) ws (channel n i) ]

-- the table of the marks of all entries
pub record Marked (n : Net) (ws marks : List ℕ) : Type 0 where
  pub whole : length marks ≡ max_entries
  pub each : (i : ℕ) → i < size n → get_or marks i 0 ≡ entry_mark n ws i

-- any two channels meet
abbrev pub any_meet : ℕ → ℕ → Bool
any_meet c d = true

-- what an accepted sheet says of the net n, but for where its channels meet: its entries are a tree
pub record IsTree (n : Net) : Type 0 where
  pub accepted : AcceptedNet any_meet n
  pub first : parent n 0 ≡ no_parent
  pub low : (c : ℕ) → has n c ≡ true → c < max_channels

-- a record's bytes with the entries in canonical order: the head, net number and entry count, stays as it is
abbrev pub record_in_form : ℕ → List ℕ → List ℕ
record_in_form z r = take (record_length z 0) r ++ joined (size (net_of z r)) (entry_bytes (canonical_net (net_of z r)))

-- entry i is the one that is written next, behind k others
pub record NextEntry (n : Net) (k i : ℕ) : Type 0 where
  pub within : i < size n
  pub next : channel n i ≡ next_of n (written_of n k)
