-- The hypotheses of the promises about the rim (02, M-104) can be met, and what they give: on the 3 by 2 chip, which has no inner box, and in
-- the inner box (1, 1) of the 4 by 4 chip, worked out by hand. Assumes nothing.
use mathlib.Core.Path.{◌≡◌, refl}
use mathlib.Core.Logic.{inl, inr}
use Prim.Native.Nat.{ℕ, ◌-◌, ◌<◌}
use native.Mathlib.Omega.{arith}
use mathlib.Core.List.{List, [], ◌∷◌, ◌++◌, map}
use Rattle.bounded.specs.Lists.{memb, place, lowest}
use Rattle.grid.specs.declared.Grid.{Grid}
use Rattle.grid.specs.Facts.{Sized, HasEnd, EndsThere, Outer}
use Rattle.grid.specs.Grid.{left, top, first_end, second_end, meeting, has_channel, channels_at}
use Rattle.switchbox.specs.declared.Fabric.{Fabric}
use Rattle.switchbox.specs.SwitchBox.{rows_allowed, switch_track, connected}
use Rattle.switchbox.specs.Generator.{rows_of_kind}
use Rattle.switchbox.specs.Facts.{Allowed}
use Rattle.switchbox.proofs.ByHand.{mixed}
use Rattle.net.specs.Net.{u16_at, net_of}
use Rattle.netlist.specs.Netlist.{trailer_of, rows_of, record_part, record_bytes, nets}
use Rattle.assignment.specs.Assignment.{tracks_of, track_at}
use Rattle.assignment.specs.Check.{check_of}
use Rattle.routing.specs.Outcomes.{route, least, lent}
use Rattle.routing.specs.MarkedCases.{Case, read, check, call, Result, result_of, nets_t, trailer, sheet_t, sheet_t4, O7}
use Rattle.demands.proofs.Demands.{demands}

abbrev grid : ℕ → ℕ → Grid
grid cols rows = record { cols = cols; rows = rows }

sized32 : Sized (grid 3 2)
sized32 = record { cols_low = omega arith; cols_high = omega arith; rows_low = omega arith; rows_high = omega arith }

sized44 : Sized (grid 4 4)
sized44 = record { cols_low = omega arith; cols_high = omega arith; rows_low = omega arith; rows_high = omega arith }

-- ---- boxes: a corner of the 4 by 4 chip, one beside it, (1, 1), and (1, 0) of the 3 by 2 chip

counted : (channels_at (grid 4 4) 0 ≡ 2) × (channels_at (grid 4 4) 1 ≡ 3) × (channels_at (grid 4 4) 5 ≡ 4) × (channels_at (grid 3 2) 1 ≡ 3)
unfolding channels_at
counted = (refl, refl, refl, refl)

outer : Outer (grid 3 2) 1 0
unfolding channels_at
outer = (demands.rim.exactly (grid 3 2) 1 0 (omega arith) (omega arith)).0 (omega arith)

-- channel 17 ends on the top of (1, 1), and no other one
top-ended : EndsThere (grid 4 4) (record { at = 5; side = top })
unfolding has_channel
top-ended = (demands.rim.side_channel (grid 4 4) 1 1 top (omega arith) (omega arith) (omega arith)).0 refl

only-17 : (n : ℕ) → HasEnd (grid 4 4) n (record { at = 5; side = top }) → n ≡ 17
unfolding first_end
only-17 n h = demands.rim.end_unique (grid 4 4) sized44 n 17 (record { at = 5; side = top }) h (inl refl)

-- ---- partners

abbrev fabric : ℕ → ℕ → ℕ → List ℕ → Fabric
fabric cols rows kind r = record { grid = grid cols rows; kind = kind; rows = r }

-- channels 1 and 5 of the 3 by 2 chip meet on the rim: equal tracks, whatever the kind and the rows
straight : (kind : ℕ) (rows : List ℕ) (w i : ℕ) → connected (fabric 3 2 kind rows) w 1 5 i ≡ i
unfolding first_end second_end channels_at
straight kind rows w i = demands.rim.straight (fabric 3 2 kind rows) sized32 w 1 5 1 (λ e. omega arith) i (inl refl) (inl refl) (omega arith)

-- channels 3 and 17 of the 4 by 4 chip are on the left and the top of an inner box: W−1−i with kind 2
turned : (w i : ℕ) → connected (fabric 4 4 2 []) w 3 17 i ≡ w - 1 - i
unfolding first_end second_end channels_at switch_track
turned w i =
    demands.rim.inner_table (fabric 4 4 2 []) sized44 w 3 17 5 (λ e. omega arith) left top i (inr refl) (inl refl) (omega arith)

allowed44 : Allowed (fabric 4 4 2 [])
unfolding rows_of_kind rows_allowed
allowed44 = record { sized = sized44; rows = (omega arith, refl) }

-- and undone
undone : (w i : ℕ) → i < w → connected (fabric 4 4 2 []) w 17 3 (connected (fabric 4 4 2 []) w 3 17 i) ≡ i
unfolding meeting
undone w i l = (demands.boxes.partners (fabric 4 4 2 []) allowed44 w 3 17 i refl l).1

-- ---- tickets

-- one that passes with kind 2 on the rim has equal tracks at net 2's joint
abbrev level : List ℕ
level = 0 ∷ 0 ∷ 1 ∷ 1 ∷ 2 ∷ 2 ∷ []

passed : check_of (sheet_t 2 3 0) [] level ≡ 0
unfolding check_of trailer_of u16_at net_of record_bytes record_part meeting tracks_of
passed = refl

equal : let ns = nets (sheet_t 2 3 0) in track_at ns level 1 1 ≡ track_at ns level 1 0
unfolding nets trailer_of u16_at net_of record_bytes record_part first_end second_end channels_at
equal =
    let l = demands.demand2.check_legal (sheet_t 2 3 0) [] level passed in
    demands.rim.legal (sheet_t 2 3 0) [] level 3 l.0 l.2 1 1 1 (omega arith) (omega arith) (omega arith) (inl refl) (inl refl) (omega arith)

abbrev result : ℕ → List ℕ → List ℕ → Result
result x ys out = record { number = x; others = ys; output = out }

-- T with kind 3 on the 3 by 2 chip, where no box uses the rows
abbrev rows3 : ℕ → List ℕ → List ℕ
rows3 w rows = nets_t 0 1 5 0 ++ rows ++ trailer 3 w 3 0x24 0x42

-- The sheets of m4 and m5 in the inner box: the tickets by the box table, in 5 trials. On the 3 by 2 chip every kind acts as subset does, kind 3
-- too, and a bad shift is refused with 18 all the same.
abbrev rim_cases : List (Case × Result)
rim_cases =
    (call route (lent (sheet_t4 2 2) [] [] 5 O7), result 0 (2 ∷ 5 ∷ 0 ∷ []) (0 ∷ 0 ∷ 1 ∷ 1 ∷ 1 ∷ 0 ∷ 170 ∷ [])) ∷
    (call route (lent (sheet_t4 1 2) [] [] 5 O7), result 0 (2 ∷ 5 ∷ 0 ∷ []) (0 ∷ 0 ∷ 1 ∷ 0 ∷ 1 ∷ 1 ∷ 170 ∷ [])) ∷
    (call route (lent (sheet_t 2 3 0) [] [] 6 O7), result 0 (3 ∷ 6 ∷ 0 ∷ []) (0 ∷ 0 ∷ 1 ∷ 1 ∷ 2 ∷ 2 ∷ 170 ∷ [])) ∷
    (call least (lent (sheet_t 1 2 0) [] [] 16 O7), result 0 (3 ∷ 16 ∷ 0 ∷ []) (0 ∷ 0 ∷ 1 ∷ 1 ∷ 2 ∷ 2 ∷ 170 ∷ [])) ∷
    (call route (lent (rows3 2 mixed) [] [] 10 O7), result 15 (0 ∷ 10 ∷ 0 ∷ []) O7) ∷
    (check (rows3 3 mixed) [] level, result 0 [] []) ∷
    (check (sheet_t 2 2 0) [] (0 ∷ 0 ∷ 1 ∷ 1 ∷ 1 ∷ 0 ∷ []), result 12 [] []) ∷
    (read (rows3 3 (0 ∷ 32 ∷ 0 ∷ 0 ∷ 0 ∷ 0 ∷ 0 ∷ 0 ∷ 0 ∷ 0 ∷ 0 ∷ 0 ∷ [])), result 18 (0 ∷ 0 ∷ []) []) ∷
    []

rim-cases : map (λ (x : Case × Result). result_of x.0) rim_cases ≡ map (λ (x : Case × Result). x.1) rim_cases
unfolding result_of trailer_of rows_of u16_at net_of record_bytes record_part meeting tracks_of memb place lowest
rim-cases = refl
