-- What the code's contracts and the laws say of refusals beside the paper's numbers: the code's refusals, and the number of each.
-- Definitions only; laws: proofs/RefusalsLaws.antt. Assumes nothing.
use Rattle.std.specs.Prelude.{ℕ, Result, Ok, Err}
use Rattle.numbers.specs.declared.Refusal.{Refusal}
use Rattle.numbers.specs.declared.Refusal.TheVariants.{Length, Mark, Chip, Crowd, Directory, Channel, Twice, Joint, Name, Size, Track, Switch, Clash, Space, Unroutable, Spent, Stranger, Parameter, List, Repeat, Broken}
use Rattle.numbers.specs.Numbers.{length_no, mark_no, chip_no, crowd_no, directory_no, channel_no, twice_no, joint_no, name_no, size_no, track_no, switch_no, clash_no, space_no, unroutable_no, spent_no, stranger_no, parameter_no, list_no, repeat_no, broken_no}

-- the number of a refusal
abbrev pub no_of : Refusal → ℕ
no_of Length = length_no
no_of Mark = mark_no
no_of Chip = chip_no
no_of Crowd = crowd_no
no_of Directory = directory_no
no_of Channel = channel_no
no_of Twice = twice_no
no_of Joint = joint_no
no_of Name = name_no
no_of Size = size_no
no_of Track = track_no
no_of Switch = switch_no
no_of Clash = clash_no
no_of Space = space_no
no_of Unroutable = unroutable_no
no_of Spent = spent_no
no_of Stranger = stranger_no
no_of Parameter = parameter_no
no_of List = list_no
no_of Repeat = repeat_no
no_of Broken = broken_no

-- the number of an outcome: 0 where nothing refuses
abbrev pub number_of : {A : Type 0} → Result A Refusal → ℕ
number_of (Ok x) = 0
number_of (Err e) = no_of e
