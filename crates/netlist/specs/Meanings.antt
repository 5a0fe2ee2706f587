-- The numbers of a sheet by what they mean: 18 in terms of signs and shifts (02, M-102); 1 to 9 by the tests of Netlist.antt, which transcribe the
-- table of 01 "Words for no". Definitions only; that the conditions mean this: proofs/MeaningLaws.antt. Assumes nothing.
use Rattle.std.specs.Prelude.{◌≡◌, ◌⊎◌, ℕ, ◌<◌, List, [], ◌∷◌, true}
use Rattle.numbers.specs.Numbers.{length_no, mark_no, chip_no, crowd_no, directory_no, parameter_no, channel_no, twice_no, joint_no, name_no}
use Rattle.numbers.specs.Meanings.{Meanings}
use Rattle.switchbox.specs.SwitchBox.{rows_kind, column_count, sign_of, shift_of}
use Rattle.netlist.specs.Netlist.{kind_of, rows_of, bad_length, bad_mark, bad_grid, too_many_nets, bad_directory, unknown_channel, repeated_channel, bad_edge, duplicate_net}

-- not "from −32 to 31": the bytes 32 to 223 are as signed bytes 32 to 127 and −128 to −33
abbrev pub BadShift : ℕ → Type 0
BadShift b = (31 < b) × (b < 224)

-- 18 parameter: "a bad sign or shift": of the rows of kind 3, for some column pair, "a sign byte (0 plus, 1 minus)" that is neither, or a shift out
-- of these bounds
pub record BadParameter (s : List ℕ) : Type 0 where
  pub kind : kind_of s ≡ rows_kind
  pub pair : ℕ
  pub below : pair < column_count
  pub bad : (1 < sign_of (rows_of s) pair) ⊎ BadShift (shift_of (rows_of s) pair)

abbrev pub sheet_meanings : List ℕ → Meanings
sheet_meanings s =
    (length_no, bad_length s ≡ true) ∷
    (mark_no, bad_mark s ≡ true) ∷
    (chip_no, bad_grid s ≡ true) ∷
    (crowd_no, too_many_nets s ≡ true) ∷
    (directory_no, bad_directory s ≡ true) ∷
    (parameter_no, BadParameter s) ∷
    (channel_no, unknown_channel s ≡ true) ∷
    (twice_no, repeated_channel s ≡ true) ∷
    (joint_no, bad_edge s ≡ true) ∷
    (name_no, duplicate_net s ≡ true) ∷
    []
