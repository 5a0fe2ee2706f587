-- What calls give on two sheets that list the same (specs/Equivalent.antt; 02, M-106: whatever the marks). Assumes nothing.
-- output-same: what is written, by the fabric and the nets. least-by-listing: Least, which reads no W. listing-equivalent: they are relistings.
-- read_same, check-same, call_same, remove-same: all that each call gives and writes.
use mathlib.Core.Path.{◌≡◌, refl, sym, subst, ap, ap₂, ◌∙◌}
use Prim.Native.Nat.{ℕ, zero, suc, ◌<◌}
use native.Mathlib.Omega.{arith}
use mathlib.Core.List.{List, [], ◌∷◌, ◌++◌}
use mathlib.Core.Bool.{Bool, true, false}
use lib.ListN.{length}
use Rattle.numbers.specs.Numbers.{first_number, space_conditions, stranger_no}
use Rattle.numbers.proofs.NumbersLaws.{first_number-rest}
use Rattle.backtracking.specs.Search.{Outcome, found, not_found}
use Rattle.grid.specs.Grid.{Wire, channel_count}
use Rattle.switchbox.specs.declared.Fabric.{Fabric}
use Rattle.switchbox.specs.SwitchBox.{connected}
use Rattle.net.specs.Net.{Net, has, edge}
use Rattle.net.specs.Nets.{entry_count, In}
use Rattle.net.proofs.NetsLaws.{in_place}
use Rattle.netlist.specs.Netlist.{sheet_conditions, WellFormed, fabric_of, width_of, net_count, net_at, connected_on, nets, refusal, channels_of}
use Rattle.netlist.proofs.NetlistLaws.{fabric-grid, fabric-kind, nets-length, well_formed-names, net_in-nets}
use Rattle.reader.specs.Read.{read_of}
use Rattle.reader.proofs.ReadLaws.{read_of-accepted}
use Rattle.rank.specs.Rank.{rising}
use Rattle.defects.specs.Defects.{is_dead, list_conditions}
use Rattle.assignment.specs.Assignment.{ticket_conditions, track_conditions, clash_conditions}
use Rattle.assignment.specs.Check.{number_on, check_of}
use Rattle.assignment.specs.Board.{Board, board_of}
use Rattle.netsearch.specs.HomeTrack.{byte_of, assignment_from}
use Rattle.netsearch.specs.declared.Search.{Search}
use Rattle.netsearch.specs.PlainSearch.{plain_search, at_width, least_search}
use Rattle.netsearch.specs.Refit.{refit_search, moves_in}
use Rattle.routing.specs.Equivalent.{SameNets, Equivalent, SameListing}
use Rattle.routing.specs.Outcomes.{Inputs, with_sheet, needs_more, overwrite, run, moved_by, number_before, answer, output, written_by, answer_of, output_of, out_conditions, unknown_net}
use Rattle.routing.specs.Remove.{without, remove_number, remove_output}
use Rattle.routing.proofs.RefusalLaws.{number_before-accepted, dead_conditions, later_conditions}
use Rattle.routing.proofs.RemoveLaws.{stranger_conditions, own_conditions}
use Rattle.routing.specs.declared.Call.{Call}
use Rattle.routing.specs.declared.Call.TheVariants.{Route, Least, Refit}

-- ---- by the fabric and the nets

-- the board of a fabric
abbrev pub fabric_board : Fabric → (Wire → Bool) → Board
fabric_board f broken = record { partner = connected f; broken = broken; channels = channel_count f.grid }

module _ (s t : List ℕ) (F : fabric_of s ≡ fabric_of t) (N : nets s ≡ nets t) where
  partner-same : connected_on s ≡ connected_on t
  partner-same = ap connected F

  written_same : (o : Outcome (ℕ × List ℕ)) (out : List ℕ) → written_by s o out ≡ written_by t o out
  unfolding written_by
  written_same (not_found c) out = refl
  written_same (found x c) out =
      ap (λ (f : ℕ → ℕ → ℕ → ℕ → ℕ). overwrite (assignment_from (f x.0) (nets s) x.1) out) partner-same
      ∙ ap (λ (ns : List Net). overwrite (assignment_from (connected_on t x.0) ns x.1) out) N

  output-same : (x budget : ℕ) (o : Outcome (ℕ × List ℕ)) (out : List ℕ) → output x budget s o out ≡ output x budget t o out
  unfolding output
  output-same (suc x) budget o out = refl
  output-same zero budget o out =
      ap (λ (b : List ℕ). elim (needs_more budget o) as (λ _. List ℕ) [ true ↦ out | false ↦ b ]) (written_same o out)

-- ---- a call whose number, run and moves are the same

module _ (c : Call) (i : Inputs) (t : List ℕ) (F : fabric_of i.sheet ≡ fabric_of t) (N : nets i.sheet ≡ nets t) where
  abbrev j : Inputs
  j = with_sheet i t

  outcome-same : number_before c i ≡ number_before c j → moved_by c i ≡ moved_by c j → run c i ≡ run c j
      → (answer_of c i ≡ answer_of c j) × (output_of c i ≡ output_of c j)
  unfolding answer_of output_of
  outcome-same x m r = (
    ap (λ (f : List ℕ → ℕ). answer (number_before c i) i.budget f (run c i)) m
        ∙ ap₂ (λ (y : ℕ) (o : Outcome (ℕ × List ℕ)). answer y i.budget (moved_by c j) o) x r,
    ap₂ (λ (y : ℕ) (o : Outcome (ℕ × List ℕ)). output y i.budget i.sheet o i.out) x r
        ∙ output-same i.sheet t F N (number_before c j) i.budget (run c j) i.out,
  )

-- ---- Least: "It reads no W but the check on it."

module _ (i : Inputs) (t : List ℕ) (a : WellFormed i.sheet) (b : WellFormed t) (F : fabric_of i.sheet ≡ fabric_of t) (N : nets i.sheet ≡ nets t)
    (h : Search) where
  least-number : number_before (Least h) i ≡ number_before (Least h) (with_sheet i t)
  least-number =
      number_before-accepted (Least h) i a
      ∙ ap₂ (λ (f : Fabric) (ns : List Net).
      first_number (list_conditions (channel_count f.grid) i.dead ++ space_conditions (entry_count ns) (length i.out))) F N
      ∙ sym (number_before-accepted (Least h) (with_sheet i t) b)

  least-run : run (Least h) i ≡ run (Least h) (with_sheet i t)
  unfolding run
  least-run = ap₂ (λ (f : Fabric) (ns : List Net). least_search h (fabric_board f (is_dead i.dead)) ns) F N

  pub least-by-listing : (answer_of (Least h) i ≡ answer_of (Least h) (with_sheet i t)) × (output_of (Least h) i ≡ output_of (Least h) (with_sheet i t))
  unfolding moved_by
  least-by-listing = outcome-same (Least h) i t F N least-number refl least-run

-- ---- sheets that list the same

module _ (s t : List ℕ) (S : SameListing s t) where
  -- what is made of the fabric, the width and the nets is the same
  listing : {X : Type 0} (K : Fabric → ℕ → List Net → X) → K (fabric_of s) (width_of s) (nets s) ≡ K (fabric_of t) (width_of t) (nets t)
  listing K = ap (λ (f : Fabric). K f (width_of s) (nets s)) S.fabric ∙ ap₂ (K (fabric_of t)) S.width S.listed

  -- they are relistings: no two nets of a sheet have one number
  pub listing-equivalent : Equivalent s t
  listing-equivalent = record {
    accepted = S.accepted;
    accepted2 = S.accepted2;
    grid = fabric-grid s t S.fabric;
    kind = fabric-kind s t S.fabric;
    width = S.width;
    same_nets = subst (SameNets (nets s)) S.listed (record {
      there = λ n i. (n, i, refl);
      back = λ n i. (n, i, refl);
      channels = λ n m i j e c. ap (λ (x : Net). has x c) (one n m i j e);
      edges = λ n m i j e c d. ap (λ (x : Net). edge x c d) (one n m i j e);
    });
  }
    where
      one : (n m : Net) → In n (nets s) → In m (nets s) → n.number ≡ m.number → n ≡ m
      one n m i j e =
          let p = in_place (nets s) n i in
          let q = in_place (nets s) m j in
          let k : p.0 < net_count s = omega (arith, nets-length s) in
          let l : q.0 < net_count s = omega (arith, nets-length s) in
          let f = sym (net_in-nets s p.0 k) ∙ p.2 in
          let g = sym (net_in-nets s q.0 l) ∙ q.2 in
          let x = ap (λ (y : Net). y.number) f ∙ e ∙ sym (ap (λ (y : Net). y.number) g) in
          sym f ∙ ap (net_at s) (well_formed-names s S.accepted p.0 q.0 k l x) ∙ g

  pub read_same : read_of s ≡ read_of t
  read_same =
      read_of-accepted s S.accepted
      ∙ ap₂ (λ (n e : ℕ). record { number = 0; nets = n; entries = e })
      (sym (nets-length s) ∙ ap length S.listed ∙ nets-length t) (ap entry_count S.listed)
      ∙ sym (read_of-accepted t S.accepted2)

  pub check-same : (d b : List ℕ) → check_of s d b ≡ check_of t d b
  unfolding check_of number_on refusal
  check-same d b =
      first_number-rest (sheet_conditions s) (list_conditions (channels_of s) d ++ ticket_conditions false (board_of s d) (width_of s) (nets s) b) refl S.accepted
      ∙ listing (λ f w ns. first_number (list_conditions (channel_count f.grid) d ++ ticket_conditions false (fabric_board f (is_dead d)) w ns b))
      ∙ sym (first_number-rest (sheet_conditions t) (list_conditions (channels_of t) d ++ ticket_conditions false (board_of t d) (width_of t) (nets t) b) refl S.accepted2)

module _ (i : Inputs) (t : List ℕ) (S : SameListing i.sheet t) where
  -- the numbers before any trial, the runs and the moves of Route and Refit
  number_same : (c : Call) → number_before c i ≡ number_before c (with_sheet i t)
  number_same c = number_before-accepted c i S.accepted ∙ at c ∙ sym (number_before-accepted c (with_sheet i t) S.accepted2)
    where
      fresh : first_number (dead_conditions i ++ out_conditions i) ≡ first_number (dead_conditions (with_sheet i t) ++ out_conditions (with_sheet i t))
      fresh = listing i.sheet t S (λ f w ns. first_number (list_conditions (channel_count f.grid) i.dead ++ space_conditions (entry_count ns) (length i.out)))

      at : (c : Call) → first_number (dead_conditions i ++ later_conditions c i) ≡ first_number (dead_conditions (with_sheet i t) ++ later_conditions c (with_sheet i t))
      at (Route h) = fresh
      at (Least h) = fresh
      at Refit =
          listing i.sheet t S
          (λ f w ns. first_number (list_conditions (channel_count f.grid) i.dead ++ ticket_conditions true (fabric_board f (is_dead i.dead)) w ns i.old ++ space_conditions (entry_count ns) (length i.out)))

  run-same : (c : Call) → run c i ≡ run c (with_sheet i t)
  unfolding run
  run-same (Route h) = listing i.sheet t S (λ f w ns. at_width w (plain_search h (fabric_board f (is_dead i.dead)) w ns))
  run-same (Least h) = listing i.sheet t S (λ f w ns. least_search h (fabric_board f (is_dead i.dead)) ns)
  run-same Refit = listing i.sheet t S (λ f w ns. at_width w (refit_search (byte_of ns i.old) (fabric_board f (is_dead i.dead)) w ns))

  moved_same : (c : Call) → moved_by c i ≡ moved_by c (with_sheet i t)
  unfolding moved_by
  moved_same (Route h) = refl
  moved_same (Least h) = refl
  moved_same Refit = ap (λ (ns : List Net). moves_in (byte_of ns i.old) (rising ns)) S.listed

  pub call_same : (c : Call) → (answer_of c i ≡ answer_of c (with_sheet i t)) × (output_of c i ≡ output_of c (with_sheet i t))
  call_same c = outcome-same c i t S.fabric S.listed (number_same c) (moved_same c) (run-same c)

  remove-number : (x : ℕ) → remove_number i x ≡ remove_number (with_sheet i t) x
  unfolding remove_number refusal
  remove-number x =
      first_number-rest (sheet_conditions i.sheet) (own_conditions i ++ stranger_conditions i x) refl S.accepted
      ∙ listing i.sheet t S
      (λ f w ns. first_number ((track_conditions true (fabric_board f (is_dead i.dead)) w ns i.old ++ clash_conditions true ns i.old) ++ ((stranger_no, unknown_net ns x) ∷ space_conditions (entry_count ns) (length i.out))))
      ∙ sym (first_number-rest (sheet_conditions t) (own_conditions (with_sheet i t) ++ stranger_conditions (with_sheet i t) x) refl S.accepted2)

  pub remove-same : (x : ℕ) → (remove_number i x ≡ remove_number (with_sheet i t) x) × (remove_output i x ≡ remove_output (with_sheet i t) x)
  unfolding remove_output
  remove-same x = (
    remove-number x,
    ap₂ (λ (n : ℕ) (ns : List Net). elim n as (λ _. List ℕ) [ zero ↦ overwrite (without ns x i.old) i.out | suc m ↦ i.out ]) (remove-number x) S.listed,
  )
