-- The netlist file, 01: sheet (01 "The sheet"), and the conditions of the numbers 1 to 9 (01 "Words for no") and 18 (02, M-102).
-- Definitions only; laws: proofs/NetlistLaws.antt. Assumes nothing.
use Rattle.std.specs.Prelude.{◌≡◌, ℕ, ◌+◌, ◌-◌, ◌*◌, List, [], ◌∷◌, Bool, true, false, not, ◌&&◌, ◌||◌, ltb, leb, eqb, length, get_or, take, drop, replicate}
use Rattle.numbers.specs.Numbers.{first_number, length_no, mark_no, chip_no, crowd_no, directory_no, parameter_no, channel_no, twice_no, joint_no, name_no}
use Rattle.bounded.specs.Bounded.{every, differ, build}
use Rattle.grid.specs.declared.Grid.{Grid}
use Rattle.grid.specs.Grid.{min_side, max_side, channel_count}
use Rattle.switchbox.specs.declared.Fabric.{Fabric}
use Rattle.switchbox.specs.SwitchBox.{rows_kind, max_kind, max_width, rows_length, rows_size, rows_allowed, connected}
use Rattle.net.specs.Net.{Net, u16_at, max_entries, Mark, short, long, number_size, record_length, count_at, net_of, channels_known, channels_differ, parents_right}
use Rattle.netlist.specs.declared.Trailer.{Trailer}
use Rattle.netlist.specs.declared.Part.{Part}

-- ---- the limits

-- "net count u16 (0 to 64)"
abbrev pub max_nets : ℕ
max_nets = 64

-- "a 12-byte trailer"
abbrev pub trailer_length : ℕ
trailer_length = 12

-- "and the bytes 57 48 hexadecimal"; 02, M-106: "A sheet marked 57 49 hexadecimal". The first byte of both marks, and the second of each
abbrev pub first_mark : ℕ
first_mark = 0x57

unfoldable pub mark_byte : Mark → ℕ
mark_byte short = 0x48
mark_byte long = 0x49

-- "The longest sheet has 8,588 bytes."; 02, M-106: "The limit of 1 becomes 8,728 bytes for both marks", and for every kind, since the kind
-- is read later
abbrev pub max_sheet : ℕ
max_sheet = 8728

-- ---- the parts of the file

-- the mark of a sheet, by its last byte: 57 49 or, with any other last byte, 57 48 (2 tells whether it has that mark)
unfoldable pub mark_of : List ℕ → Mark
unfolding mark_byte
mark_of s = elim (eqb (get_or s (length s - 1) 0) (mark_byte long)) [ true ↦ long | false ↦ short ]

-- "Last is a 12-byte trailer that points back: A u8, B u8, kind u8, W u8 (1 to 32), net count u16 (0 to 64), directory offset u16, …";
-- and how many bytes the net numbers of the sheet have, by its mark
unfoldable pub trailer_of : List ℕ → Trailer
unfolding u16_at mark_of number_size
trailer_of s =
    let at = length s - trailer_length in
    record {
      grid = record { cols = get_or s at 0; rows = get_or s (at + 1) 0 };
      kind = get_or s (at + 2) 0;
      width = get_or s (at + 3) 0;
      nets = u16_at s (at + 4);
      directory = u16_at s (at + 6);
      numbersize = number_size (mark_of s);
    }

abbrev pub grid_of : List ℕ → Grid
grid_of s = (trailer_of s).grid

abbrev pub kind_of : List ℕ → ℕ
kind_of s = (trailer_of s).kind

abbrev pub width_of : List ℕ → ℕ
width_of s = (trailer_of s).width

abbrev pub net_count : List ℕ → ℕ
net_count s = (trailer_of s).nets

abbrev pub directory_of : List ℕ → ℕ
directory_of s = (trailer_of s).directory

abbrev pub number_size_of : List ℕ → ℕ
number_size_of s = (trailer_of s).numbersize

-- 02, M-102: "Kind 3 puts 12 bytes between directory and trailer". The other kinds have none: zeros stand in, which are not read from the sheet.
-- (A sheet of kind 3 that is too short for them gets 5.)
unfoldable pub rows_of : List ℕ → List ℕ
rows_of s =
    elim (eqb (kind_of s) rows_kind) [
      | true ↦ take rows_length (drop (length s - trailer_length - rows_length) s)
      | false ↦ replicate rows_length 0
    ]

-- the grid, and the kind of its inner boxes with the rows that give kind 3
abbrev pub fabric_of : List ℕ → Fabric
fabric_of s = record { grid = grid_of s; kind = kind_of s; rows = rows_of s }

-- "Sheets are of one kind 3 only if these 12 bytes agree": the same kind, in 01's relistings and in M-101's promise
pub record SameKind (s t : List ℕ) : Type 0 where
  pub kind : kind_of s ≡ kind_of t
  pub rows : rows_of s ≡ rows_of t

-- how many channels the sheet's grid has
abbrev pub channels_of : List ℕ → ℕ
channels_of s = channel_count (grid_of s)

-- 01: partner. The track on channel d that track i on channel c is connected to, on the sheet s at the width w: `connected_on s w c d i`. 02,
-- M-102: "demand 2 counts this box with the published ones"; M-104: "Right tickets are judged by the new rule everywhere from here": all that
-- is promised of tickets goes through here.
abbrev pub connected_on : List ℕ → ℕ → ℕ → ℕ → ℕ → ℕ
connected_on s w = connected (fabric_of s) w

-- "After the records stands the directory: one u16 offset per record, in order."
abbrev pub offset_of : List ℕ → ℕ → ℕ
offset_of s k = u16_at s (directory_of s + 2 * k)

-- where record k starts; the place after the last record is the directory's own
unfoldable pub start_of : List ℕ → ℕ → ℕ
start_of s k = elim (ltb k (net_count s)) [ true ↦ offset_of s k | false ↦ directory_of s ]

-- the place of record k: the offset that the directory gives for it, and the length that its entry count says
unfoldable pub record_part : List ℕ → ℕ → Part
record_part s k = record { offset = offset_of s k; len = record_length (number_size_of s) (count_at (number_size_of s) s (offset_of s k)) }

-- the part of s that p names
abbrev pub part_bytes : List ℕ → Part → List ℕ
part_bytes s p = take p.len (drop p.offset s)

-- the bytes of record k
unfoldable pub record_bytes : List ℕ → ℕ → List ℕ
unfolding record_part
record_bytes s k = part_bytes s (record_part s k)

-- the net of record k, and all nets in the sheet's order
abbrev pub net_at : List ℕ → ℕ → Net
net_at s k = net_of (number_size_of s) (record_bytes s k)

unfoldable pub nets : List ℕ → List Net
unfolding build net_of record_bytes
nets s = build (net_count s) (net_at s)

-- ---- the conditions of the numbers 1 to 9 and 18

-- low to high
abbrev pub within : ℕ → ℕ → ℕ → Bool
within low high x = leb low x && leb x high

-- 1 length: "sheet under 12 or over 8,588 bytes", now 8,728
unfoldable pub bad_length : List ℕ → Bool
bad_length s = not (within trailer_length max_sheet (length s))

-- 2 mark: "last two bytes wrong", now neither 57 48 nor 57 49 (02, M-106), ", or length field wrong"
unfoldable pub bad_mark : List ℕ → Bool
unfolding u16_at mark_byte
bad_mark s =
    not
    (eqb (get_or s (length s - 2) 0) first_mark
    && (eqb (get_or s (length s - 1) 0) (mark_byte short) || eqb (get_or s (length s - 1) 0) (mark_byte long))
    && eqb (u16_at s (length s - 4)) (length s))

-- 3 chip: "A, B, kind or W outside its values"
unfoldable pub bad_grid : List ℕ → Bool
bad_grid s =
    not
    (within min_side max_side (grid_of s).cols
    && within min_side max_side (grid_of s).rows
    && within 0 max_kind (kind_of s)
    && within 1 max_width (width_of s))

-- 4 crowd: "more than 64 nets"
unfoldable pub too_many_nets : List ℕ → Bool
too_many_nets s = ltb max_nets (net_count s)

-- record k has 1 to 32 entries, and ends where the next one starts, at the directory at the latest
unfoldable pub record_fits : List ℕ → ℕ → Bool
unfolding start_of
record_fits s k =
    let n = count_at (number_size_of s) s (start_of s k) in
    within 1 max_entries n
    && eqb (start_of s (k + 1)) (start_of s k + record_length (number_size_of s) n)
    && leb (start_of s (k + 1)) (directory_of s)

-- 5 directory: "directory offset + 2·nets + 12 is not the length; or records not back to back from 0 to the directory at its
-- offsets; or n outside 1 to 32". "With no nets the directory offset is 0": the first start is then the directory's own. 02, M-102: "The length
-- rule of 5, for kind 3, … grow by 12."
unfoldable pub bad_directory : List ℕ → Bool
unfolding every record_fits rows_size
bad_directory s =
    not
    (eqb (directory_of s + 2 * net_count s + rows_size (kind_of s) + trailer_length) (length s)
    && eqb (start_of s 0) 0
    && every (net_count s) (record_fits s))

-- 18 parameter: "a bad sign or shift", of kind 3: the zeros that stand in for the rows of another kind are in range
unfoldable pub bad_rows : List ℕ → Bool
unfolding rows_of rows_allowed
bad_rows s = not (rows_allowed (rows_of s))

-- 6 channel: "no such channel"
unfoldable pub unknown_channel : List ℕ → Bool
unfolding every channels_known
unknown_channel s = not (every (net_count s) (λ k. channels_known (grid_of s) (net_at s k)))

-- 7 twice: "a channel twice in one net"
unfoldable pub repeated_channel : List ℕ → Bool
unfolding every channels_differ
repeated_channel s = not (every (net_count s) (λ k. channels_differ (net_at s k)))

-- 8 joint: "a parent breaks its rule"
unfoldable pub bad_edge : List ℕ → Bool
unfolding every parents_right
bad_edge s = not (every (net_count s) (λ k. parents_right (grid_of s) (net_at s k)))

-- 9 name: "two nets with one number"
unfoldable pub duplicate_net : List ℕ → Bool
unfolding differ
duplicate_net s = not (differ (net_count s) (λ k. (net_at s k).number))

-- the numbers of Read in the order of the table, each with its condition
abbrev pub sheet_conditions : List ℕ → List (ℕ × Bool)
sheet_conditions s =
    (length_no, bad_length s) ∷
    (mark_no, bad_mark s) ∷
    (chip_no, bad_grid s) ∷
    (crowd_no, too_many_nets s) ∷
    (directory_no, bad_directory s) ∷
    (parameter_no, bad_rows s) ∷
    (channel_no, unknown_channel s) ∷
    (twice_no, repeated_channel s) ∷
    (joint_no, bad_edge s) ∷
    (name_no, duplicate_net s) ∷
    []

-- "each test over the whole sheet": the first number that applies, in the order of the table; 0 where the sheet is accepted
unfoldable pub refusal : List ℕ → ℕ
unfolding first_number bad_length bad_mark bad_grid too_many_nets bad_directory bad_rows unknown_channel repeated_channel bad_edge duplicate_net
refusal s = first_number (sheet_conditions s)

-- 01: accepted. "An accepted sheet is one that Read answers with 0."
abbrev pub WellFormed : List ℕ → Type 0
WellFormed s = refusal s ≡ 0
