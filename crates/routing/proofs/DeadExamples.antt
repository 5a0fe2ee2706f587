-- Sheets with a list of dead wires by hand (02, M-105): what each call gives is what the request says. Assumes nothing.
use mathlib.Core.Path.{◌≡◌, refl}
use Prim.Native.Nat.{ℕ}
use mathlib.Core.List.{List, [], ◌∷◌, ◌++◌, map}
use Rattle.bounded.specs.Lists.{memb, place, lowest}
use Rattle.grid.specs.Grid.{meeting}
use Rattle.net.specs.Net.{u16_at, net_of}
use Rattle.netlist.specs.Netlist.{trailer_of, record_part, record_bytes}
use Rattle.defects.specs.Defects.{item_at}
use Rattle.assignment.specs.Assignment.{tracks_of}
use Rattle.routing.specs.MarkedCases.{Case, check, call, Result, result_of, record1, sheet_t, trailer, O7}
use Rattle.routing.specs.Outcomes.{route, least, refit, lent}

-- net 1 {0}, and nets 1 and 2 {0}, on a 3 by 2 chip, which has the channels 0 to 6
abbrev one : ℕ → List ℕ
one w = record1 1 0 ++ (0 ∷ 0 ∷ []) ++ trailer 0 w 1 8 22

abbrev both : ℕ → List ℕ
both w = record1 1 0 ++ record1 2 0 ++ (0 ∷ 0 ∷ 8 ∷ 0 ∷ []) ++ trailer 0 w 2 16 32

-- T at W 3, kind 0: net 1 {0, 1}, net 2 {1, 5}, net 3 {0, 5}, equal tracks joined; a right ticket for it
abbrev pub T : List ℕ
T = sheet_t 0 3 0

abbrev pub level : List ℕ
level = 0 ∷ 0 ∷ 1 ∷ 1 ∷ 2 ∷ 2 ∷ []

abbrev no : ℕ → Result
no x = record { number = x; others = []; output = [] }

abbrev gives : ℕ → ℕ → ℕ → ℕ → List ℕ → Result
gives x w trials moved out = record { number = x; others = w ∷ trials ∷ moved ∷ []; output = out }

abbrev dead_cases : List (Case × Result)
dead_cases =
    -- the home track 0 is dead: it is tried and counted, and does not fit
    (call route (lent (one 2) (0 ∷ 0 ∷ 0 ∷ []) [] 2 O7), gives 0 2 2 0 (1 ∷ 170 ∷ 170 ∷ 170 ∷ 170 ∷ 170 ∷ 170 ∷ [])) ∷
    (call route (lent (one 2) (0 ∷ 0 ∷ 0 ∷ []) [] 1 O7), gives 16 0 1 0 O7) ∷
    -- two nets and one whole track: overloaded, no trial; an item at W takes no track away
    (call route (lent (both 2) (0 ∷ 0 ∷ 1 ∷ []) [] 0 O7), gives 15 0 0 0 O7) ∷
    (call route (lent (both 2) (0 ∷ 0 ∷ 2 ∷ []) [] 3 O7), gives 0 2 3 0 (0 ∷ 1 ∷ 170 ∷ 170 ∷ 170 ∷ 170 ∷ 170 ∷ [])) ∷
    -- Least counts whole tracks anew at each width: none below 1 and 2, at 3 track 2 after two dead ones
    (call least (lent (one 1) (0 ∷ 0 ∷ 0 ∷ 0 ∷ 0 ∷ 1 ∷ []) [] 3 O7), gives 0 3 3 0 (2 ∷ 170 ∷ 170 ∷ 170 ∷ 170 ∷ 170 ∷ 170 ∷ [])) ∷
    -- an item at the width tried takes nothing away; a dead wire that is not on the net's home
    (call least (lent (one 1) (0 ∷ 0 ∷ 1 ∷ []) [] 1 O7), gives 0 1 1 0 (0 ∷ 170 ∷ 170 ∷ 170 ∷ 170 ∷ 170 ∷ 170 ∷ [])) ∷
    (call route (lent T (1 ∷ 0 ∷ 0 ∷ []) [] 6 O7), gives 0 3 6 0 (1 ∷ 1 ∷ 2 ∷ 2 ∷ 0 ∷ 0 ∷ 170 ∷ [])) ∷
    -- 19: channel 7, channel 256, track 32, one byte, two bytes; (6, 31) is accepted at W 2
    (check (one 2) (7 ∷ 0 ∷ 0 ∷ []) (1 ∷ []), no 19) ∷
    (check (one 2) (0 ∷ 1 ∷ 0 ∷ []) (1 ∷ []), no 19) ∷
    (check (one 2) (6 ∷ 0 ∷ 32 ∷ []) (1 ∷ []), no 19) ∷
    (check (one 2) (6 ∷ []) (1 ∷ []), no 19) ∷
    (check (one 2) (6 ∷ 0 ∷ []) (1 ∷ []), no 19) ∷
    (check (one 2) (6 ∷ 0 ∷ 31 ∷ []) (1 ∷ []), no 0) ∷
    -- 20: also at or above W, and not only for neighbours; 19 stands before it, and both before 10
    (check (one 2) (0 ∷ 0 ∷ 5 ∷ 1 ∷ 0 ∷ 5 ∷ 0 ∷ 0 ∷ 5 ∷ []) (1 ∷ []), no 20) ∷
    (check (one 2) (0 ∷ 0 ∷ 5 ∷ 0 ∷ 0 ∷ 5 ∷ 7 ∷ 0 ∷ 0 ∷ []) (1 ∷ []), no 19) ∷
    (check (one 2) (0 ∷ 0 ∷ 5 ∷ 0 ∷ 0 ∷ 5 ∷ []) [], no 20) ∷
    -- both before 14, and in Refit before 10
    (call route (lent (one 2) (7 ∷ 0 ∷ 0 ∷ []) [] 1 []), gives 19 0 0 0 []) ∷
    (call least (lent (one 2) (0 ∷ 0 ∷ 5 ∷ 0 ∷ 0 ∷ 5 ∷ []) [] 1 []), gives 20 0 0 0 []) ∷
    (call refit (lent (one 2) (0 ∷ 0 ∷ 5 ∷ 0 ∷ 0 ∷ 5 ∷ []) [] 1 O7), gives 20 0 0 0 O7) ∷
    -- 21: after 12, before 13; a byte not below W gets 11
    (check T (1 ∷ 0 ∷ 1 ∷ []) level, no 21) ∷
    (check T (1 ∷ 0 ∷ 1 ∷ []) (0 ∷ 1 ∷ 1 ∷ 1 ∷ 2 ∷ 2 ∷ []), no 12) ∷
    (check T (1 ∷ 0 ∷ 0 ∷ []) (0 ∷ 0 ∷ 0 ∷ 0 ∷ 2 ∷ 2 ∷ []), no 21) ∷
    (check T (1 ∷ 0 ∷ 3 ∷ []) (0 ∷ 0 ∷ 3 ∷ 3 ∷ 2 ∷ 2 ∷ []), no 11) ∷
    -- a placed net on a dead wire gets 21 from Refit, before 14; with the net unplaced the refit moves net 3 from 2 to 1
    (call refit (lent T (1 ∷ 0 ∷ 1 ∷ []) level 0 []), gives 21 0 0 0 []) ∷
    (call refit (lent T (1 ∷ 0 ∷ 1 ∷ []) (0 ∷ 0 ∷ 255 ∷ 255 ∷ 2 ∷ 2 ∷ []) 15 O7), gives 0 3 15 1 (0 ∷ 0 ∷ 2 ∷ 2 ∷ 1 ∷ 1 ∷ 170 ∷ [])) ∷
    []

dead_cases_lem : map (λ (x : Case × Result). result_of x.0) dead_cases ≡ map (λ (x : Case × Result). x.1) dead_cases
unfolding result_of trailer_of u16_at net_of record_bytes record_part meeting tracks_of memb place lowest item_at
dead_cases_lem = refl
