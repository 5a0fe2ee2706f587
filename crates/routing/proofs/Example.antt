-- The hypotheses of the promises about relistings can be met: two sheets of one set of nets, with other orders of records and entries, other
-- roots, other parents and other offsets. Assumes nothing.
use mathlib.Core.Path.{◌≡◌, refl, sym, subst, subst₂, ap, ap₂, ◌∙◌}
use mathlib.Core.Logic.{inl, inr}
use Prim.Native.Nat.{ℕ, ◌+◌}
use native.Mathlib.Omega.{arith}
use mathlib.Core.List.{List, [], ◌∷◌, ◌++◌}
use mathlib.Core.Bool.{Bool, true, false, ◌&&◌, ◌||◌, or_comm, and_comm}
use lib.Dec.{eqb}
use borrow.Author.Tests.{eqb-true}
use Rattle.bounded.specs.Bounded.{any_below, count_below}
use Rattle.bounded.specs.Lists.{memb, place, every_in, lowest}
use Rattle.bounded.proofs.ListsLaws.{every_in-true}
use Rattle.grid.specs.Grid.{same_wire, wire, meeting}
use Rattle.net.specs.Net.{Net, u16_at, net_of, channels, has, edge_at, edge}
use Rattle.net.specs.Nets.{entry_count, In}
use Rattle.net.specs.Facts.{SameNet}
use Rattle.netlist.specs.Netlist.{trailer_of, rows_of, record_part, record_bytes, nets, refusal, WellFormed}
use Rattle.assignment.specs.Assignment.{tracks_of}
use Rattle.defects.specs.Defects.{item_at, namings, SameItems}
use Rattle.routing.specs.Equivalent.{SameNets, Equivalent, SameOldTracks, OldTracksFor, EnoughSpace, Relisting, SameOutcome}
use Rattle.netsearch.specs.HomeTrack.{SameTracks, byte_of}
use Rattle.routing.specs.MarkedCases.{record2, trailer4, O7}
use Rattle.routing.specs.Outcomes.{route, Inputs, lent, answer_of, output_of}
use Rattle.netsearch.specs.declared.Search.TheVariants.{Plain}
use Rattle.routing.specs.declared.Call.{Call}
use Rattle.routing.specs.declared.Call.TheVariants.{Route, Least, Refit}
use Rattle.routing.specs.Remove.{RemoveRelisting}
use Rattle.routing.specs.Results.{LegalFor}
use Rattle.routing.proofs.FirstTheorems.{route-first}
use Rattle.routing.proofs.RelistTheorems.{call-resp}

-- a record of three entries, the second joined to the entry p and the third to q
abbrev record3 : ℕ → ℕ → ℕ → ℕ → ℕ → ℕ → List ℕ
record3 x a b p c q = x ∷ 0 ∷ 3 ∷ 0 ∷ a ∷ 0 ∷ 0xFF ∷ 0xFF ∷ b ∷ 0 ∷ p ∷ 0 ∷ c ∷ 0 ∷ q ∷ 0 ∷ []

-- 4 by 4, kind 1, W 3: net 7 {3, 4, 17} with the joints 3–4 and 3–17, net 2 {4, 17} with the joint 4–17, all in the inner box (1, 1)
abbrev pub sheet_v : List ℕ
sheet_v = record3 7 3 4 0 17 0 ++ record2 2 4 17 0 ++ (0 ∷ 0 ∷ 16 ∷ 0 ∷ []) ++ trailer4 1 3 2 28 44

-- the same: net 2 first, both nets from channel 17 on
abbrev pub sheet_v2 : List ℕ
sheet_v2 = record2 2 17 4 0 ++ record3 7 17 3 0 4 1 ++ (0 ∷ 0 ∷ 12 ∷ 0 ∷ []) ++ trailer4 1 3 2 28 44

abbrev pub two : ℕ → ℕ → ℕ → Net
two x c d = record { number = x; entries = record { channel = c; parent = 65535 } ∷ record { channel = d; parent = 0 } ∷ [] }

abbrev pub three : ℕ → ℕ → ℕ → ℕ → ℕ → ℕ → Net
three x a b p c q = record {
  number = x;
  entries =
      record { channel = a; parent = 65535 } ∷ record { channel = b; parent = p } ∷ record { channel = c; parent = q } ∷ [];
}

abbrev pub nets_v : List Net
nets_v = three 7 3 4 0 17 0 ∷ two 2 4 17 ∷ []

abbrev nets_v2 : List Net
nets_v2 = two 2 17 4 ∷ three 7 17 3 0 4 1 ∷ []

pub nets-V : nets sheet_v ≡ nets_v
unfolding nets trailer_of u16_at net_of record_bytes record_part
nets-V = refl

nets-V2 : nets sheet_v2 ≡ nets_v2
unfolding nets trailer_of u16_at net_of record_bytes record_part
nets-V2 = refl

pub accepted-V : WellFormed sheet_v
unfolding refusal trailer_of u16_at net_of record_bytes record_part meeting
accepted-V = refl

accepted-V2 : WellFormed sheet_v2
unfolding refusal trailer_of u16_at net_of record_bytes record_part meeting
accepted-V2 = refl

-- ---- they are equivalent

-- a pair of channels in either order
cross : (p q r s : Bool) → (p && q || r && s) ≡ (s && r || q && p)
cross p q r s = ap₂ ◌||◌ (and_comm p q) (and_comm r s) ∙ or_comm (q && p) (s && r)

-- the second entry first
two-swapped : (x c d : ℕ) → SameNet (two x c d) (two x d c)
unfolding memb edge any_below edge_at
two-swapped x c d = record {
  number = refl;
  channels = λ a. swap (eqb a c) (eqb a d);
  edges = λ a b. cross (eqb c a) (eqb d b) (eqb c b) (eqb d a);
}
  where
    swap : (p q : Bool) → (p || (q || false)) ≡ (q || (p || false))
    swap true true = refl
    swap true false = refl
    swap false true = refl
    swap false false = refl

-- b and c joined to a: from a on, and from c on over a to b
three-turned : (x a b c : ℕ) → SameNet (three x a b 0 c 0) (three x c a 0 b 1)
unfolding memb edge any_below edge_at
three-turned x a b c = record {
  number = refl;
  channels = λ d. rotate (eqb d a) (eqb d b) (eqb d c);
  edges = λ d e.
      or_comm (eqb a d && eqb b e || eqb a e && eqb b d) (eqb a d && eqb c e || eqb a e && eqb c d)
      ∙ ap (λ (p : Bool). p || (eqb a d && eqb b e || eqb a e && eqb b d)) (cross (eqb a d) (eqb c e) (eqb a e) (eqb c d));
}
  where
    rotate : (p q r : Bool) → (p || (q || (r || false))) ≡ (r || (p || (q || false)))
    rotate true q true = refl
    rotate true q false = refl
    rotate false true true = refl
    rotate false true false = refl
    rotate false false true = refl
    rotate false false false = refl

-- nets with one number are the same net
same : (n m : Net) → In n nets_v → In m nets_v2 → n.number ≡ m.number → SameNet n m
same n m i j = at i j
  where
    by : (p q : Net) → (p.number ≡ q.number → SameNet p q) → n ≡ p → m ≡ q → n.number ≡ m.number → SameNet n m
    by p q f e g = subst₂ (λ (x y : Net). x.number ≡ y.number → SameNet x y) (sym e) (sym g) f

    at : In n nets_v → In m nets_v2 → n.number ≡ m.number → SameNet n m
    at (inl e) (inl g) = by (three 7 3 4 0 17 0) (two 2 17 4) (λ z. absurd (omega arith)) e g
    at (inl e) (inr (inl g)) = by (three 7 3 4 0 17 0) (three 7 17 3 0 4 1) (λ z. three-turned 7 3 4 17) e g
    at (inl e) (inr (inr k)) = absurd k
    at (inr (inl e)) (inl g) = by (two 2 4 17) (two 2 17 4) (λ z. two-swapped 2 4 17) e g
    at (inr (inl e)) (inr (inl g)) = by (two 2 4 17) (three 7 17 3 0 4 1) (λ z. absurd (omega arith)) e g
    at (inr (inl e)) (inr (inr k)) = absurd k
    at (inr (inr k)) j = absurd k

same_nets : SameNets nets_v nets_v2
same_nets = record {
  there = there;
  back = back;
  channels = λ n m i j e. (same n m i j e).channels;
  edges = λ n m i j e. (same n m i j e).edges;
}
  where
    there : (n : Net) → In n nets_v → (m : Net) × In m nets_v2 × (n.number ≡ m.number)
    there n (inl e) = (three 7 17 3 0 4 1, inr (inl refl), ap (λ (x : Net). x.number) e)
    there n (inr (inl e)) = (two 2 17 4, inl refl, ap (λ (x : Net). x.number) e)
    there n (inr (inr k)) = absurd k

    back : (m : Net) → In m nets_v2 → (n : Net) × In n nets_v × (n.number ≡ m.number)
    back m (inl e) = (two 2 4 17, inr (inl refl), ap (λ (x : Net). x.number) (sym e))
    back m (inr (inl e)) = (three 7 3 4 0 17 0, inl refl, ap (λ (x : Net). x.number) (sym e))
    back m (inr (inr k)) = absurd k

equivalent : Equivalent sheet_v sheet_v2
unfolding trailer_of rows_of
equivalent = record {
  accepted = accepted-V;
  accepted2 = accepted-V2;
  grid = refl;
  kind = record { kind = refl; rows = refl };
  width = refl;
  same_nets = subst₂ SameNets (sym nets-V) (sym nets-V2) same_nets;
}

-- ---- equal old tracks: net 7 has the tracks 1, 1 and 2 on channels 3, 4 and 17, net 2 is unrouted

abbrev pub old_v : List ℕ
old_v = 1 ∷ 1 ∷ 2 ∷ 255 ∷ 255 ∷ []

abbrev old_v2 : List ℕ
old_v2 = 255 ∷ 255 ∷ 2 ∷ 1 ∷ 1 ∷ []

-- equal on every channel of a net
pub equal : (τ σ : ℕ → ℕ → ℕ) (m : Net) → every_in (λ c. eqb (τ m.number c) (σ m.number c)) (channels m) ≡ true → (n : Net) → n ≡ m → (c : ℕ)
    → has n c ≡ true → τ n.number c ≡ σ n.number c
equal τ σ m h n e c =
    subst (λ (x : Net). has x c ≡ true → τ x.number c ≡ σ x.number c) (sym e)
    (λ k. eqb-true _ _ (every_in-true (λ d. eqb (τ m.number d) (σ m.number d)) (channels m) c h k))

tracks : SameTracks nets_v (byte_of nets_v old_v) (byte_of nets_v2 old_v2)
unfolding byte_of every_in
tracks n (inl e) = equal (byte_of nets_v old_v) (byte_of nets_v2 old_v2) (three 7 3 4 0 17 0) refl n e
tracks n (inr (inl e)) = equal (byte_of nets_v old_v) (byte_of nets_v2 old_v2) (two 2 4 17) refl n e
tracks n (inr (inr k)) = absurd k

-- ---- the list of dead wires, in two orders: track 0 of channel 4, and track 31 of channel 17

abbrev pub dead_v : List ℕ
dead_v = 4 ∷ 0 ∷ 0 ∷ 17 ∷ 0 ∷ 31 ∷ []

abbrev pub dead_v2 : List ℕ
dead_v2 = 17 ∷ 0 ∷ 31 ∷ 4 ∷ 0 ∷ 0 ∷ []

pub same_dead : SameItems dead_v dead_v2
unfolding namings count_below item_at u16_at
same_dead = record { sized = refl; items = λ v. at (same_wire v (wire 4 0)) (same_wire v (wire 17 31)) }
  where
    at : (a b : Bool)
        → 0 + elim a as (λ _. ℕ) [ true ↦ 1 | false ↦ 0 ] + elim b as (λ _. ℕ) [ true ↦ 1 | false ↦ 0 ]
        ≡ 0 + elim b as (λ _. ℕ) [ true ↦ 1 | false ↦ 0 ] + elim a as (λ _. ℕ) [ true ↦ 1 | false ↦ 0 ]
    at true true = refl
    at true false = refl
    at false true = refl
    at false false = refl

-- ---- what is lent, with more space for sheet_v2

abbrev pub lent_v : ℕ → Inputs
lent_v budget = lent sheet_v dead_v old_v budget O7

abbrev pub lent_v2 : ℕ → Inputs
lent_v2 budget = lent sheet_v2 dead_v2 old_v2 budget (170 ∷ 170 ∷ O7)

same_old : (budget : ℕ) → SameOldTracks (lent_v budget) (lent_v2 budget)
unfolding nets trailer_of u16_at net_of record_bytes record_part entry_count
same_old budget = record {
  whole = refl;
  whole2 = refl;
  same = subst₂ (λ (ns ms : List Net). SameTracks ns (byte_of ns old_v) (byte_of ms old_v2)) (sym nets-V) (sym nets-V2) tracks;
}

space-V : (budget : ℕ) → EnoughSpace (lent_v budget)
unfolding nets trailer_of u16_at net_of record_bytes record_part entry_count
space-V budget = omega arith

space-V2 : (budget : ℕ) → EnoughSpace (lent_v2 budget)
unfolding nets trailer_of u16_at net_of record_bytes record_part entry_count
space-V2 budget = omega arith

-- ---- the promises, of every call at every budget

pub relisting : (c : Call) (budget : ℕ) → Relisting c (lent_v budget) (lent_v2 budget)
relisting c budget =
    record { sheets = equivalent; dead = same_dead; budget = refl; space = space-V budget; space2 = space-V2 budget; old = at c }
  where
    at : (c : Call) → OldTracksFor c (lent_v budget) (lent_v2 budget)
    at (Route h) = tt
    at (Least h) = tt
    at Refit = same_old budget

-- and of Remove at any two budgets
pub remove-relisting : (budget budget2 : ℕ) → RemoveRelisting (lent_v budget) (lent_v2 budget2)
remove-relisting budget budget2 =
    let O = same_old budget in
    record {
      sheets = equivalent;
      space = space-V budget;
      space2 = space-V2 budget2;
      tracks = record { whole = O.whole; whole2 = O.whole2; same = O.same };
    }

alike : (c : Call) (budget : ℕ)
    → SameOutcome (lent_v budget) (lent_v2 budget) (answer_of c (lent_v budget)) (answer_of c (lent_v2 budget))
    (output_of c (lent_v budget)) (output_of c (lent_v2 budget))
alike c budget = call-resp c (lent_v budget) (lent_v2 budget) (relisting c budget)

-- Route finds a ticket on both, net 2 off the dead wire; the bytes of sheet_v2 stand in sheet_v2's order
routed : (answer_of route (lent_v 5) ≡ record { number = 0; width = 3; trials = 5; moved = 0 })
    × (output_of route (lent_v 5) ≡ 2 ∷ 2 ∷ 1 ∷ 1 ∷ 0 ∷ 170 ∷ 170 ∷ [])
    × (output_of route (lent_v2 5) ≡ 0 ∷ 1 ∷ 1 ∷ 2 ∷ 2 ∷ 170 ∷ 170 ∷ 170 ∷ 170 ∷ [])
unfolding answer_of output_of trailer_of u16_at net_of record_bytes record_part meeting tracks_of memb place lowest
routed = (refl, refl, refl)

-- Refit keeps net 7's tracks, so its tickets are not Route's
refitted : (answer_of Refit (lent_v 8) ≡ record { number = 0; width = 3; trials = 8; moved = 0 })
    × (output_of Refit (lent_v 8) ≡ 1 ∷ 1 ∷ 2 ∷ 2 ∷ 1 ∷ 170 ∷ 170 ∷ [])
    × (output_of Refit (lent_v2 8) ≡ 1 ∷ 2 ∷ 2 ∷ 1 ∷ 1 ∷ 170 ∷ 170 ∷ 170 ∷ 170 ∷ [])
unfolding answer_of output_of trailer_of u16_at net_of record_bytes record_part meeting tracks_of memb place lowest
refitted = (refl, refl, refl)

-- a legal assignment of sheet_v
pub legal-V : LegalFor (lent_v 0) 3 (2 ∷ 2 ∷ 1 ∷ 1 ∷ 0 ∷ [])
unfolding answer_of output_of trailer_of u16_at net_of record_bytes record_part meeting tracks_of memb place lowest
legal-V = (route-first (lent_v 5) Plain refl).1.legal
