-- The hypotheses of the promises about Remove can be met: on the two sheets of Example, with answers by hand. Assumes nothing.
use mathlib.Core.Path.{◌≡◌, refl, sym, subst}
use mathlib.Core.Logic.{◌≢◌}
use Prim.Native.Nat.{ℕ, zero, suc, ◌<◌}
use native.Mathlib.Omega.{arith}
use mathlib.Core.List.{List, [], ◌∷◌}
use Rattle.bounded.specs.Lists.{memb, place, lowest}
use Rattle.grid.specs.Grid.{meeting}
use Rattle.net.specs.Net.{Net, u16_at, net_of}
use Rattle.net.specs.Nets.{entry_count}
use Rattle.netlist.specs.Netlist.{trailer_of, record_part, record_bytes, nets}
use Rattle.nettracks.specs.NetTracks.{unrouted}
use Rattle.assignment.specs.Assignment.{first_byte, tracks_of, Unrouted, Routed, PartlyLegalAt}
use Rattle.routing.specs.MarkedCases.{O7}
use Rattle.routing.specs.Outcomes.{Inputs, lent, nets_in, overwrite, answer_of, output_of}
use Rattle.routing.specs.Remove.{remove_number, remove_output, RemovesExactly, TakenOut, LeftLegal, OneUnrouted, SameRemoved}
use Rattle.routing.specs.Results.{assignment_in}
use Rattle.demands.proofs.Demands.{demands}
use Rattle.routing.proofs.Example.{sheet_v, nets_v, nets-V, old_v, lent_v, lent_v2, accepted-V, remove-relisting}

-- sheet_v has net 7 with 3 entries, then net 2 with 2; the ticket that Refit writes there
abbrev full : Inputs
full = lent sheet_v [] (1 ∷ 1 ∷ 2 ∷ 2 ∷ 1 ∷ []) 0 O7

-- net 7 is taken out, or net 2, which stands at list place 1; there is no net 1
taken : (remove_number full 7 ≡ 0) × (remove_output full 7 ≡ 255 ∷ 255 ∷ 255 ∷ 2 ∷ 1 ∷ 170 ∷ 170 ∷ [])
unfolding remove_number remove_output trailer_of u16_at net_of record_bytes record_part meeting tracks_of memb
taken = (refl, refl)

second : (remove_number full 2 ≡ 0) × (remove_output full 2 ≡ 1 ∷ 1 ∷ 2 ∷ 255 ∷ 255 ∷ 170 ∷ 170 ∷ [])
unfolding remove_number remove_output trailer_of u16_at net_of record_bytes record_part meeting tracks_of memb
second = (refl, refl)

refused : (remove_number full 1 ≡ 17) × (remove_output full 1 ≡ O7)
unfolding remove_number remove_output trailer_of u16_at net_of record_bytes record_part meeting tracks_of memb
refused = (refl, refl)

-- an output of 4 bytes is too short, and 17 comes before 14
abbrev short : Inputs
short = lent sheet_v [] (1 ∷ 1 ∷ 2 ∷ 2 ∷ 1 ∷ []) 0 (170 ∷ 170 ∷ 170 ∷ 170 ∷ [])

shorter : (remove_number short 7 ≡ 14) × (remove_number short 1 ≡ 17)
unfolding remove_number trailer_of u16_at net_of record_bytes record_part meeting tracks_of memb
shorter = (refl, refl)

-- both nets hold track 1 of channel 4: 13 comes before 17
clash : remove_number (lent sheet_v [] (1 ∷ 1 ∷ 2 ∷ 1 ∷ 0 ∷ []) 0 O7) 1 ≡ 13
unfolding remove_number trailer_of u16_at net_of record_bytes record_part meeting tracks_of memb
clash = refl

-- net 2 is unplaced already: the ticket is copied
unplaced : (remove_number (lent_v 0) 2 ≡ 0) × (remove_output (lent_v 0) 2 ≡ 1 ∷ 1 ∷ 2 ∷ 255 ∷ 255 ∷ 170 ∷ 170 ∷ [])
unfolding remove_number remove_output trailer_of u16_at net_of record_bytes record_part meeting tracks_of memb
unplaced = (refl, refl)

-- ---- the promises

exactly : RemovesExactly full 7 (remove_number full 7)
exactly = demands.remove.exactly full 7

bytes : TakenOut (nets_in full) 7 full.old (assignment_in full (remove_output full 7))
bytes = demands.remove.bytes full 7 taken.0

left : LeftLegal sheet_v 7 full.old (assignment_in full (remove_output full 7))
left = demands.remove.legal full 7 taken.0

-- a partly filled ticket that is legal for its routed net
partly : PartlyLegalAt sheet_v [] 3 old_v
unfolding remove_number trailer_of u16_at net_of record_bytes record_part meeting tracks_of memb
partly = (demands.remove.tests (lent_v 0) accepted-V 2).0 refl

-- on two relistings: it succeeds on both, and the bytes of sheet_v2 stand in sheet_v2's order
both : (remove_number (lent_v 0) 2 ≡ 0) × (remove_output (lent_v2 0) 2 ≡ 255 ∷ 255 ∷ 2 ∷ 1 ∷ 1 ∷ 170 ∷ 170 ∷ 170 ∷ 170 ∷ [])
    × (remove_number (lent_v 0) 7 ≡ 0) × (remove_output (lent_v2 0) 7 ≡ 255 ∷ 255 ∷ 255 ∷ 255 ∷ 255 ∷ 170 ∷ 170 ∷ 170 ∷ 170 ∷ [])
unfolding remove_number remove_output trailer_of u16_at net_of record_bytes record_part meeting tracks_of memb
both = (refl, refl, refl, refl)

alike : SameRemoved (lent_v 0) (lent_v2 9) (remove_number (lent_v 0) 7) (remove_number (lent_v2 9) 7) (remove_output (lent_v 0) 7) (remove_output (lent_v2 9) 7)
alike = demands.remove.relisted (lent_v 0) (lent_v2 9) 7 (remove-relisting 0 9)

-- in old_v net 2 alone is unplaced
one : OneUnrouted (nets_in (lent_v 8)) old_v 2
unfolding tracks_of first_byte entry_count unrouted
one = subst (λ (ns : List Net). OneUnrouted ns old_v 2) (sym nets-V) record {
  index = 1;
  below = omega arith;
  number = refl;
  own = own;
  others = others;
}
  where
    own : Unrouted nets_v old_v 1
    own = refl

    others : (k : ℕ) → k < 2 → k ≢ 1 → Routed nets_v old_v k
    others zero h n = refl
    others (suc zero) h n = absurd (n refl)
    others (suc (suc k)) h n = absurd (omega arith)

-- Refit places it and moves none; taking it out again gives old_v
back : let j = lent sheet_v [] (1 ∷ 1 ∷ 2 ∷ 2 ∷ 1 ∷ []) 0 O7 in (remove_number j 2 ≡ 0) × (remove_output j 2 ≡ overwrite old_v O7)
unfolding answer_of output_of nets entry_count trailer_of u16_at net_of record_bytes record_part meeting tracks_of memb place lowest
back = demands.remove.way_back (lent_v 8) 2 refl refl one O7 (omega arith)
