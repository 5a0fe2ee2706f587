-- The hypotheses of the promises about Standard can be met: on the sheets of Example and of ByHand. Assumes nothing.
use mathlib.Core.Path.{◌≡◌, refl, sym, subst, subst₂, ap, ◌∙◌}
use mathlib.Core.Logic.{inl, inr}
use Prim.Native.Nat.{ℕ, zero, suc}
use native.Mathlib.Omega.{arith}
use mathlib.Core.List.{List, [], ◌∷◌, ◌++◌}
use mathlib.Core.Bool.{true}
use lib.Dec.{ltb, eqb}
use lib.ListN.{get_or, take}
use borrow.Author.Tests.{ltb-true}
use Rattle.bounded.specs.Lists.{every_in}
use Rattle.bounded.proofs.BoundedLaws.{both_true}
use Rattle.grid.specs.Grid.{meeting}
use Rattle.net.specs.Net.{Net, short, u16_at, net_of}
use Rattle.net.specs.Nets.{entry_count}
use Rattle.netlist.specs.Netlist.{WellFormed, mark_of, trailer_of, rows_of, fabric_of, SameKind, record_part, record_bytes, nets, refusal}
use Rattle.netlist.proofs.NetlistLaws.{well_formed-readable}
use Rattle.assignment.specs.Assignment.{tracks_of}
use Rattle.assignment.specs.Check.{check_of}
use Rattle.encoding.specs.Encoding.{encode}
use Rattle.encoding.proofs.SheetLaws.{fabric-rowed}
use Rattle.routing.specs.MarkedCases.{record1, record2, O7}
use Rattle.defects.proofs.DefectsLaws.{same_items-self}
use Rattle.netsearch.specs.HomeTrack.{byte_of, SameTracks}
use Rattle.routing.specs.Equivalent.{SameNets, Equivalent, SameBytes, Relisting}
use Rattle.routing.specs.declared.Call.TheVariants.{Refit}
use Rattle.routing.specs.Outcomes.{Inputs, lent, answer_of}
use Rattle.routing.proofs.Example.{sheet_v, sheet_v2, nets_v, nets-V, two, three, equal, old_v, dead_v, lent_v, accepted-V, relisting}
use Rattle.canonical.specs.Canonical.{canonical_form}
use Rattle.canonical.specs.Standard.{standard_number, standard_output, InCanonicalOrder, Bytes, SameFrame}
use Rattle.canonical.proofs.ByHand.{chain, form_v, form-V, form-V2, sheet_a, sheet_b, form-A, form-B}
use Rattle.demands.proofs.Demands.{demands}

-- ---- two relistings, of the same chip, kind and W

frame-V : SameFrame sheet_v sheet_v2
unfolding mark_of
frame-V =
    let E = (relisting Refit 0).sheets in
    record { accepted = E.accepted; accepted2 = E.accepted2; grid = E.grid; kind = E.kind; width = E.width; mark = refl }

-- from the nets to the bytes, and back
equal-V : canonical_form sheet_v ≡ canonical_form sheet_v2
equal-V = (demands.standard.same sheet_v sheet_v2 frame-V).0 (relisting Refit 0).sheets.same_nets

same-V : SameNets (nets sheet_v) (nets sheet_v2)
same-V = (demands.standard.same sheet_v sheet_v2 frame-V).1 (form-V ∙ sym form-V2)

-- the form is accepted, and its own
form-accepted-V : WellFormed form_v
unfolding refusal meeting u16_at trailer_of net_of record_bytes
form-accepted-V = refl

again-V : canonical_form form_v ≡ form_v
again-V = sym (ap canonical_form form-V) ∙ demands.standard.again sheet_v accepted-V ∙ form-V

-- ---- one joint differs

frame-AB : SameFrame sheet_a sheet_b
unfolding refusal meeting trailer_of rows_of u16_at net_of record_bytes
frame-AB = record { accepted = refl; accepted2 = refl; grid = refl; kind = record { kind = refl; rows = refl }; width = refl; mark = refl }

different-AB : SameNets (nets sheet_a) (nets sheet_b) → ⊥
different-AB S =
    let e = sym form-A ∙ (demands.standard.same sheet_a sheet_b frame-AB).0 S ∙ form-B in
    omega (arith, ap (λ (b : List ℕ). get_or b 8 0) e)

-- sheet_b stands in the order already, so it is the form of all its relistings, its own too
pub bytes : (b : List ℕ) → every_in (λ x. ltb x 256) b ≡ true → Bytes b
unfolding every_in
bytes [] h k = omega arith
bytes (x ∷ xs) h zero = ltb-true x 256 (both_true (ltb x 256) (every_in (λ y. ltb y 256) xs) h).0
bytes (x ∷ xs) h (suc k) = bytes xs (both_true (ltb x 256) (every_in (λ y. ltb y 256) xs) h).1 k

relisted-B : Equivalent sheet_b sheet_b
relisted-B =
    let a = frame-AB.accepted2 in
    let K : SameKind sheet_b sheet_b = record { kind = refl; rows = refl } in
    let F : SameFrame sheet_b sheet_b = record { accepted = a; accepted2 = a; grid = refl; kind = K; width = refl; mark = refl } in
    record { accepted = a; accepted2 = a; grid = refl; kind = K; width = refl; same_nets = (demands.standard.same sheet_b sheet_b F).1 refl }

only-B : sheet_b ≡ canonical_form sheet_b
unfolding every_in canonical_form
only-B =
    demands.standard.only sheet_b sheet_b relisted-B (bytes sheet_b refl)
    (subst (λ (b : List ℕ). InCanonicalOrder (nets b)) form-B (demands.standard.order sheet_b frame-AB.accepted2))

-- ---- where breadth first and depth first differ

accepted-chain : WellFormed chain
unfolding refusal meeting u16_at trailer_of net_of record_bytes
accepted-chain = refl

order-chain : InCanonicalOrder (nets (canonical_form chain))
order-chain = demands.standard.order chain accepted-chain

-- the bytes of these nets are read as these nets
read-chain : nets (encode short (fabric_of chain) 2 (nets chain)) ≡ nets chain
read-chain = (demands.standard.read_back short (fabric_of chain) 2 (nets chain) (fabric-rowed (well_formed-readable chain accepted-chain))).listed

-- ---- numbers and outputs

-- an output as long as the sheet, one byte less, and one byte more
bytes44 : List ℕ
bytes44 = record2 9 9 9 9 ++ record2 9 9 9 9 ++ record2 9 9 9 9 ++ record1 9 9

number-44 : standard_number sheet_v bytes44 ≡ 0
unfolding bytes44
number-44 = (demands.standard.exactly sheet_v bytes44).zero.1 (accepted-V, omega arith)

number-43 : standard_number sheet_v (take 43 bytes44) ≡ 14
unfolding bytes44
number-43 = (demands.standard.exactly sheet_v (take 43 bytes44)).short.1 (accepted-V, omega arith)

-- room for the entries is not enough
number-5 : standard_number sheet_v (take 5 bytes44) ≡ 14
unfolding bytes44
number-5 = (demands.standard.exactly sheet_v (take 5 bytes44)).short.1 (accepted-V, omega arith)

output-45 : take 44 (standard_output sheet_v (bytes44 ++ (9 ∷ []))) ≡ form_v
unfolding bytes44
output-45 =
    let out = bytes44 ++ (9 ∷ []) in
    (demands.standard.writes sheet_v out).form ((demands.standard.exactly sheet_v out).zero.1 (accepted-V, omega arith)) ∙ form-V

-- ---- other calls on a sheet and on its form: tickets with the same byte for each net number and channel

-- sheet_v lists net 7 with 3 entries, then net 2 with 2; its form net 2, then net 7
abbrev nets_f : List Net
nets_f = two 2 4 17 ∷ three 7 3 4 0 17 0 ∷ []

nets-F : nets form_v ≡ nets_f
unfolding nets trailer_of u16_at net_of record_bytes record_part
nets-F = refl

equivalent-F : Equivalent sheet_v form_v
equivalent-F = subst (Equivalent sheet_v) form-V (demands.standard.relisting sheet_v accepted-V).0

carried : (a b : List ℕ) → every_in (λ c. eqb (byte_of nets_v a 7 c) (byte_of nets_f b 7 c)) (3 ∷ 4 ∷ 17 ∷ []) ≡ true
    → every_in (λ c. eqb (byte_of nets_v a 2 c) (byte_of nets_f b 2 c)) (4 ∷ 17 ∷ []) ≡ true → SameBytes sheet_v form_v a b
carried a b h k = subst₂ (λ (ns ms : List Net). SameTracks ns (byte_of ns a) (byte_of ms b)) (sym nets-V) (sym nets-F) tracks
  where
    tracks : SameTracks nets_v (byte_of nets_v a) (byte_of nets_f b)
    tracks n (inl e) = equal (byte_of nets_v a) (byte_of nets_f b) (three 7 3 4 0 17 0) h n e
    tracks n (inr (inl e)) = equal (byte_of nets_v a) (byte_of nets_f b) (two 2 4 17) k n e
    tracks n (inr (inr x)) = absurd x

-- a right ticket passes on both
abbrev right_v : List ℕ
right_v = 2 ∷ 2 ∷ 1 ∷ 1 ∷ 0 ∷ []

abbrev right_f : List ℕ
right_f = 1 ∷ 0 ∷ 2 ∷ 2 ∷ 1 ∷ []

passes-V : check_of sheet_v dead_v right_v ≡ 0
unfolding check_of trailer_of u16_at net_of record_bytes record_part meeting tracks_of
passes-V = refl

passes-F : check_of form_v dead_v right_f ≡ 0
unfolding byte_of every_in nets trailer_of u16_at net_of record_bytes record_part entry_count
passes-F = sym (demands.demand3.check_relisted sheet_v form_v equivalent-F dead_v dead_v (same_items-self dead_v) right_v right_f (carried right_v right_f refl refl) refl refl) ∙ passes-V

-- both nets hold track 1 of channel 4: 13 on both
abbrev clash_v : List ℕ
clash_v = 1 ∷ 1 ∷ 2 ∷ 1 ∷ 0 ∷ []

abbrev clash_f : List ℕ
clash_f = 1 ∷ 0 ∷ 1 ∷ 1 ∷ 2 ∷ []

clash-V : check_of sheet_v dead_v clash_v ≡ 13
unfolding check_of trailer_of u16_at net_of record_bytes record_part meeting tracks_of
clash-V = refl

clash-F : check_of form_v dead_v clash_f ≡ 13
unfolding byte_of every_in nets trailer_of u16_at net_of record_bytes record_part entry_count
clash-F = sym (demands.demand3.check_relisted sheet_v form_v equivalent-F dead_v dead_v (same_items-self dead_v) clash_v clash_f (carried clash_v clash_f refl refl) refl refl) ∙ clash-V

-- Refit with net 2 unplaced, on both
abbrev old_f : List ℕ
old_f = 255 ∷ 255 ∷ 1 ∷ 1 ∷ 2 ∷ []

abbrev lent_f : ℕ → Inputs
lent_f budget = lent form_v dead_v old_f budget O7

relisting-F : (budget : ℕ) → Relisting Refit (lent_v budget) (lent_f budget)
unfolding byte_of every_in nets trailer_of u16_at net_of record_bytes record_part entry_count
relisting-F budget = record {
  sheets = equivalent-F;
  dead = same_items-self dead_v;
  budget = refl;
  space = omega arith;
  space2 = omega arith;
  old = record { whole = refl; whole2 = refl; same = carried old_v old_f refl refl };
}

refit-F : (budget : ℕ) → answer_of Refit (lent_v budget) ≡ answer_of Refit (lent_f budget)
refit-F budget = (demands.demand3.relisted Refit (lent_v budget) (lent_f budget) (relisting-F budget)).answers
