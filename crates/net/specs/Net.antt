-- One net: the bytes of its record, its channels and the edges of its tree (01 "The sheet"), and the tests 6, 7 and 8 of one net.
-- Definitions only; laws: proofs/NetLaws.antt. Assumes nothing.
use Rattle.std.specs.Prelude.{ℕ, zero, suc, ◌+◌, ◌*◌, List, [], ◌∷◌, map, Bool, ◌&&◌, ◌||◌, ltb, eqb, length, get_or, take}
use Rattle.bounded.specs.Bounded.{every, any_below, differ, build}
use Rattle.bounded.specs.Lists.{memb, place}
use Rattle.grid.specs.declared.Grid.{Grid}
use Rattle.grid.specs.Grid.{channel_count, meet}

-- "Numbers are unsigned, low byte first; u8 and u16 have 8 and 16 bits": the u16 at offset k
unfoldable pub u16_at : List ℕ → ℕ → ℕ
u16_at s k = get_or s k 0 + get_or s (k + 1) 0 * 256

-- the same of any number of bytes
unfoldable pub low_first : List ℕ → ℕ
low_first [] = 0
low_first (b ∷ bs) = b + low_first bs * 256

pub record Entry : Type 0 where
  pub channel : ℕ
  pub parent : ℕ

pub record Net : Type 0 where
  pub number : ℕ
  pub entries : List Entry

-- "entry count n u16 (1 to 32)"
abbrev pub max_entries : ℕ
max_entries = 32

-- The marks of a sheet: 01 "the bytes 57 48 hexadecimal"; 02, M-106 "A sheet marked 57 49 hexadecimal"
pub data Mark : Type 0 where
  short : Mark
  long : Mark

-- how many bytes a net number has: 01 "net number u16"; 02, M-106 "net numbers of 32 bits"
unfoldable pub number_size : Mark → ℕ
number_size short = 2
number_size long = 4

-- Where the fields of a record stand, from its first byte, with a net number of z bytes: `number_size` of the sheet's mark.
-- "net number u16, entry count n u16 (1 to 32), then n entries of channel u16 and parent u16"
abbrev pub number_place : ℕ
number_place = 0

abbrev pub count_place : ℕ → ℕ
count_place z = number_place + z

-- the channel of entry i, and its parent behind it
abbrev pub channel_place : ℕ → ℕ → ℕ
channel_place z i = count_place z + 2 + 4 * i

abbrev pub parent_place : ℕ → ℕ → ℕ
parent_place z i = channel_place z i + 2

-- how many bytes a record of n entries has; 02, M-106 "each record is 2 bytes longer"
abbrev pub record_length : ℕ → ℕ → ℕ
record_length z n = z + 2 + 4 * n

-- the net number of a record's bytes: "net number u16"; 02, M-106 "32 bits, low byte first"
unfoldable pub number_in : ℕ → List ℕ → ℕ
unfolding low_first
number_in z r = low_first (take z r)

-- the entry count of the record that starts at offset o
abbrev pub count_at : ℕ → List ℕ → ℕ → ℕ
count_at z s o = u16_at s (o + count_place z)

-- the net of a record's bytes
unfoldable pub net_of : ℕ → List ℕ → Net
unfolding u16_at build number_in
net_of z r = record {
  number = number_in z r;
  entries = build (count_at z r 0) (λ i. record { channel = u16_at r (channel_place z i); parent = u16_at r (parent_place z i) });
}

-- how many entries a net has, and its channels
abbrev pub size : Net → ℕ
size n = length n.entries

abbrev pub channels : Net → List ℕ
channels n = map (λ (e : Entry). e.channel) n.entries

-- the channel and the parent of entry i
abbrev pub channel : Net → ℕ → ℕ
channel n i = get_or (channels n) i 0

abbrev pub parent : Net → ℕ → ℕ
parent n i = get_or (map (λ (e : Entry). e.parent) n.entries) i 0

-- one of the net's channels is c
abbrev pub has : Net → ℕ → Bool
has n c = memb c (channels n)

-- the entry with the channel c, one of the net's
abbrev pub entry_of : Net → ℕ → ℕ
entry_of n c = place c (channels n)

-- 01: joint. The channels of entry i, which is not the first, and of its parent: the parent's first
abbrev pub joint_at : Net → ℕ → ℕ × ℕ
joint_at n i = (channel n (parent n i), channel n i)

-- "Each such pair of channels, in either order, is a joint": entry i joins c and d
unfoldable pub edge_at : Net → ℕ → ℕ → ℕ → Bool
edge_at n c d i =
    ltb 0 i
    && (eqb (joint_at n i).0 c && eqb (joint_at n i).1 d || eqb (joint_at n i).0 d && eqb (joint_at n i).1 c)

-- "Channels of one net that meet without a joint are not connected.": only the entries and their parents join channels
unfoldable pub edge : Net → ℕ → ℕ → Bool
unfolding any_below edge_at
edge n c d = any_below (size n) (edge_at n c d)

-- ---- the tests of one net

-- 6: "no such channel" does not hold: every channel is one of the grid's
unfoldable pub channels_known : Grid → Net → Bool
unfolding every
channels_known g n = every (size n) (λ i. ltb (channel n i) (channel_count g))

-- 7: "a channel twice in one net" does not hold
unfoldable pub channels_differ : Net → Bool
unfolding differ
channels_differ n = differ (size n) (channel n)

-- "the first entry's parent is 65535"
abbrev pub no_parent : ℕ
no_parent = 65535

-- 8: "A parent is the place, from 0, of an earlier entry of this net whose channel meets this one; the first entry's parent is 65535"
unfoldable pub parent_right : Grid → Net → ℕ → Bool
parent_right g n zero = eqb (parent n 0) no_parent
parent_right g n (suc i) = ltb (parent n (suc i)) (suc i) && meet g (joint_at n (suc i)).0 (joint_at n (suc i)).1

unfoldable pub parents_right : Grid → Net → Bool
unfolding every parent_right
parents_right g n = every (size n) (parent_right g n)
