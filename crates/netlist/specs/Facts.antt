-- What the code's contracts and the laws say of the netlist file beside the paper's definitions. Definitions only; laws:
-- proofs/NetlistLaws.antt. Assumes nothing.
use Rattle.std.specs.Prelude.{◌≡◌, ℕ, ◌+◌, ◌*◌, ◌≤◌, ◌<◌, List, Bool, false, not, length, get_or}
use Rattle.bounded.specs.Bounded.{every}
use Rattle.switchbox.specs.SwitchBox.{rows_size}
use Rattle.net.specs.Net.{u16_at, max_entries, size, channel, parent}
use Rattle.net.specs.Facts.{passes}
use Rattle.net.specs.declared.Test.{Test}
use Rattle.netlist.specs.declared.Trailer.{Trailer}
use Rattle.netlist.specs.Netlist.{trailer_of, grid_of, net_count, offset_of, record_part, net_at, trailer_length, max_nets, bad_length, bad_mark, bad_grid, too_many_nets, bad_directory, bad_rows}

-- the most entries that the nets have together, each one byte of a track assignment
abbrev pub max_ticket : ℕ
max_ticket = max_nets * max_entries

-- the trailer of a sheet whose directory ends where the rows of kind 3 stand, or the trailer
pub record DirectoryFits (s : List ℕ) (trailer : Trailer) : Type 0 where
  pub own : trailer ≡ trailer_of s
  pub sum : trailer.directory + 2 * trailer.nets + rows_size trailer.kind + trailer_length ≡ length s
  pub low : trailer.directory ≤ 65535

-- a sheet that none of the numbers 1 to 5 and 18 refuses: its records can be read
pub record Readable (s : List ℕ) : Type 0 where
  pub sized : bad_length s ≡ false
  pub mark : bad_mark s ≡ false
  pub grid : bad_grid s ≡ false
  pub crowd : too_many_nets s ≡ false
  pub directory : bad_directory s ≡ false
  pub rows : bad_rows s ≡ false

-- where the entry count, the entries and the end of record k stand, from its first byte: the count at `at`
pub record LaidOut (s : List ℕ) (k at : ℕ) : Type 0 where
  pub count : size (net_at s k) ≡ u16_at s (offset_of s k + at)
  pub channels : (i : ℕ) → i < size (net_at s k) → channel (net_at s k) i ≡ u16_at s (offset_of s k + (at + 2 + 4 * i))
  pub parents : (i : ℕ) → i < size (net_at s k) → parent (net_at s k) i ≡ u16_at s (offset_of s k + (at + 4 + 4 * i))
  pub len : (record_part s k).len ≡ at + 2 + 4 * size (net_at s k)

-- 01: "net number u16, entry count n u16 (1 to 32), then n entries of channel u16 and parent u16"
pub record AsIn01 (s : List ℕ) (k : ℕ) : Type 0 where
  pub number : (net_at s k).number ≡ u16_at s (offset_of s k)
  pub rest : LaidOut s k 2

-- 02, M-106: "net numbers of 32 bits, low byte first; each record is 2 bytes longer"
pub record AsIn02 (s : List ℕ) (k : ℕ) : Type 0 where
  pub number : (net_at s k).number
      ≡ get_or s (offset_of s k) 0 + get_or s (offset_of s k + 1) 0 * 256 + get_or s (offset_of s k + 2) 0 * 65536 + get_or s (offset_of s k + 3) 0 * 16777216
  pub rest : LaidOut s k 4

-- some net does not pass the test: 6, 7 or 8 applies
unfoldable pub bad_net : Test → List ℕ → Bool
unfolding every passes
bad_net test s = not (every (net_count s) (λ k. passes (grid_of s) test (net_at s k)))
