-- An assignment of an accepted sheet is legal by indices of nets and entries exactly if it is by net number and channel. Assumes nothing.
-- legal_at-bytes, bytes-legal_at: from one to the other.
use Prim.Native.Nat.{ℕ}
use mathlib.Core.List.{List}
use Rattle.grid.specs.Grid.{meet}
use Rattle.netlist.specs.Netlist.{WellFormed, grid_of, nets}
use Rattle.netlist.proofs.SheetLaws.{well_formed-accepted, well_formed-connects}
use Rattle.assignment.specs.Assignment.{LegalAt}
use Rattle.assignment.specs.Board.{board_of}
use Rattle.netsearch.specs.Facts.{LegalBytes}
use Rattle.netsearch.proofs.LegalLaws.{legal-bytes, bytes-legal}

-- the same of an accepted sheet, with any list of dead wires
module _ (s d : List ℕ) (a : WellFormed s) (w : ℕ) (b : List ℕ) where
  pub legal_at-bytes : LegalAt s d w b → LegalBytes (board_of s d) w (nets s) b
  legal_at-bytes L = legal-bytes (meet (grid_of s)) (nets s) (well_formed-accepted s a) b (board_of s d) w (well_formed-connects s a w) L

  pub bytes-legal_at : LegalBytes (board_of s d) w (nets s) b → LegalAt s d w b
  bytes-legal_at R = bytes-legal (meet (grid_of s)) (nets s) (well_formed-accepted s a) b (board_of s d) w R
