-- What is promised of the chip (specs/Chip.antt) holds: each field by its theorem. Assumes nothing.
use Rattle.grid.proofs.GridLaws.{meet-once}
use Rattle.routing.proofs.ChannelTheorems.{channel_right-ends, channel_up-ends, channel-numbers}
use Rattle.demands.specs.Chip.{Chip}

pub chip : Chip
chip = record {
  channel_right_ends = channel_right-ends;
  channel_up_ends = channel_up-ends;
  channel_numbers = channel-numbers;
  meet_once = λ g z. meet-once z;
}
