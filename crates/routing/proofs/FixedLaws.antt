-- "The home track fixes all its tracks": an assignment of an accepted sheet is fixed by its home tracks, so there is one first. Assumes nothing.
-- homes-fix: legal assignments with equal home tracks are equal. first-unique, fewest-unique: two that are first are one.
-- legal-own: a legal assignment is the one with its home tracks.
use mathlib.Core.Path.{◌≡◌, sym, ◌∙◌}
use mathlib.Core.Logic.{◌⊎◌, inl, inr}
use Prim.Native.Nat.{ℕ, ◌-◌, ◌≤◌, ◌<◌}
use native.Mathlib.Omega.{arith}
use mathlib.Core.List.{List, []}
use lib.ListN.{length, length-map}
use Rattle.backtracking.proofs.SearchLaws.{Valid}
use Rattle.grid.specs.Grid.{meet}
use Rattle.switchbox.specs.Facts.{Connects}
use Rattle.net.specs.Facts.{Accepted}
use Rattle.netlist.specs.Netlist.{WellFormed, grid_of, nets, connected_on}
use Rattle.netlist.proofs.SheetLaws.{well_formed-accepted, well_formed-connects}
use Rattle.rank.specs.Rank.{rising}
use Rattle.netsearch.specs.HomeTrack.{byte_of, NotAfter, assignment_from}
use Rattle.netsearch.specs.PlainSearch.{fits}
use Rattle.netsearch.proofs.SoundLaws.{legal-valid, valid-legal, valid-homes}
use Rattle.netsearch.proofs.FixedLaws.{bytes_same, order-fixes, homes-tracks}
use Rattle.routing.specs.Outcomes.{Inputs, nets_in, board_in}
use Rattle.routing.specs.Results.{LegalFor, FirstLegal, homes_in, moved_in, FewestMoved}
use Rattle.routing.proofs.LegalLaws.{legal_at-bytes, bytes-legal_at}

module _ (i : Inputs) (accepted : WellFormed i.sheet) (w : ℕ) (a b : List ℕ) where
  abbrev s : List ℕ
  s = i.sheet

  -- "The home track fixes all its tracks."
  pub homes-fix : LegalFor i w a → LegalFor i w b → homes_in i a ≡ homes_in i b → a ≡ b
  homes-fix L M e =
      let A = well_formed-accepted s accepted in
      bytes_same (meet (grid_of s)) (nets s) A a b L.whole M.whole
      (homes-tracks (meet (grid_of s)) (nets s) A (board_in i) w (byte_of (nets s) a) (byte_of (nets s) b)
      (legal_at-bytes s i.dead accepted w a L).tracks (legal_at-bytes s i.dead accepted w b M).tracks e)

  order-decides : LegalFor i w a → LegalFor i w b → NotAfter (nets_in i) a b → NotAfter (nets_in i) b a → a ≡ b
  order-decides L M =
      order-fixes (meet (grid_of s)) (nets s) (well_formed-accepted s accepted) (board_in i) w a b
      (legal_at-bytes s i.dead accepted w a L) (legal_at-bytes s i.dead accepted w b M)

  -- there is one first
  pub first-unique : FirstLegal i w a → FirstLegal i w b → a ≡ b
  first-unique F G = order-decides F.legal G.legal (F.first b G.legal) (G.first a F.legal)

  pub fewest-unique : FewestMoved i w a → FewestMoved i w b → a ≡ b
  fewest-unique F G = at (F.fewest b G.legal) (G.fewest a F.legal)
    where
      at : (moved_in i a < moved_in i b) ⊎ ((moved_in i a ≤ moved_in i b) × NotAfter (nets_in i) a b)
          → (moved_in i b < moved_in i a) ⊎ ((moved_in i b ≤ moved_in i a) × NotAfter (nets_in i) b a) → a ≡ b
      at (inl p) (inl q) = absurd (omega arith)
      at (inl p) (inr q) = absurd (omega (arith, q.0))
      at (inr p) (inl q) = absurd (omega (arith, p.0))
      at (inr p) (inr q) = order-decides F.legal G.legal p.1 q.1

-- the assignment with the home tracks hs
abbrev pub assignment_of : Inputs → ℕ → List ℕ → List ℕ
assignment_of i w hs = assignment_from (connected_on i.sheet w) (nets_in i) hs

-- a legal assignment is the one with its home tracks, which are valid
pub legal-own : (i : Inputs) → WellFormed i.sheet → (w : ℕ) (a : List ℕ) → LegalFor i w a
    → Valid w (fits (board_in i) w (rising (nets_in i))) (length (nets_in i)) [] (homes_in i a) × (a ≡ assignment_of i w (homes_in i a))
legal-own i accepted w a L = (v, homes-fix i accepted w a (assignment_of i w hs) L M (sym (valid-homes (board_in i) w (meet (grid_of s)) (nets s) A P hs v)))
  where
    s : List ℕ
    s = i.sheet

    hs : List ℕ
    hs = homes_in i a

    A : Accepted (meet (grid_of s)) (nets s)
    A = well_formed-accepted s accepted

    P : Connects w (meet (grid_of s)) (connected_on s w)
    P = well_formed-connects s accepted w

    v : Valid w (fits (board_in i) w (rising (nets s))) (length (nets s)) [] hs
    v = legal-valid (board_in i) w (meet (grid_of s)) (nets s) A (byte_of (nets s) a) (legal_at-bytes s i.dead accepted w a L).tracks

    M : LegalFor i w (assignment_of i w hs)
    M = bytes-legal_at s i.dead accepted w (assignment_of i w hs) (valid-legal (board_in i) w (meet (grid_of s)) (nets s) A P hs v)
