-- Equivalent netlists, 01: relistings (00, demand 3; 01 "What demand 3 compares"): the calls answer alike. Assumes nothing.
-- call-resp: equal answers, and on success the same byte for each net number and channel, at every budget. legal-resp: legal assignments
-- with the same bytes correspond, where the same wires are broken below the width.
-- A search and Refit's rounds: search-resp, rounds-resp in EquivalentLaws.
use mathlib.Core.Path.{◌≡◌, refl, sym, subst, ap, ◌∙◌, fun_ext}
use Prim.Native.Nat.{ℕ, ◌≤◌}
use native.Mathlib.Omega.{arith}
use mathlib.Core.List.{List, []}
use lib.ListN.{length}
use Rattle.backtracking.specs.Search.{Outcome}
use Rattle.backtracking.proofs.AgreeLaws.{Below}
use Rattle.backtracking.proofs.SearchLaws.{Valid, Finds}
use Rattle.grid.specs.Grid.{meet}
use Rattle.net.specs.Nets.{entry_count}
use Rattle.netlist.specs.Netlist.{grid_of, nets, WellFormed, connected_on}
use Rattle.netlist.proofs.SheetLaws.{well_formed-accepted, well_formed-connects, well_formed-width}
use Rattle.defects.specs.Defects.{SameBelow, is_dead}
use Rattle.assignment.specs.Board.{Board, board_of}
use Rattle.netsearch.specs.HomeTrack.{byte_of, assignment_from}
use Rattle.netsearch.specs.declared.Search.{Search}
use Rattle.netsearch.specs.PlainSearch.{plain_search, at_width}
use Rattle.netsearch.specs.Facts.{LegalTracks}
use Rattle.netsearch.specs.Refit.{refit_search}
use Rattle.netsearch.proofs.ByteLaws.{assignment_from-length, valid-below}
use Rattle.netsearch.proofs.CarryLaws.{legal_tracks-carry}
use Rattle.netsearch.proofs.DeadLaws.{legal-agree}
use Rattle.netsearch.proofs.MeaningLaws.{plain-valid, refit-least}
use Rattle.netsearch.proofs.RelistLaws.{assignment_from-resp}
use Rattle.netsearch.proofs.SearchByLaws.{at_width-finds, least_first}
use Rattle.routing.specs.declared.Answer.{Answer}
use Rattle.routing.specs.Equivalent.{Equivalent, SameBytes, SameLegal, Relisting, SameOutcome}
use Rattle.routing.specs.Outcomes.{Inputs, width_in, nets_in, old_byte, run, answer, answer_of, output_of, board_in}
use Rattle.routing.specs.declared.Call.{Call}
use Rattle.routing.specs.declared.Call.TheVariants.{Route, Least, Refit}
use Rattle.routing.specs.Results.{LegalFor, homes_in}
use Rattle.routing.proofs.CallLaws.{call-found}
use Rattle.routing.proofs.EquivalentLaws.{equivalent-sym, same_bytes-sym, equivalent-relisted, accepted_left, accepted_right, partner-same, board-same, run_resp, moved_by-resp, number_before-resp}
use Rattle.routing.proofs.FoundLaws.{fits_at}
use Rattle.routing.proofs.FixedLaws.{assignment_of, legal-own}
use Rattle.routing.proofs.LegalLaws.{legal_at-bytes, bytes-legal_at}

-- what a run finds has a width of 1 or more, and home tracks below it
abbrev TracksBelow : Outcome (ℕ × List ℕ) → Type 0
TracksBelow o = (a : ℕ × List ℕ) → Finds o a → (1 ≤ a.0) × Below a.0 a.1

module _ (i : Inputs) (a : WellFormed i.sheet) where
  abbrev ValidAt : ℕ → List ℕ → Type 0
  ValidAt w hs = Valid w (fits_at i w) (length (nets_in i)) [] hs

  -- valid lists have tracks below the width
  at_width-below : (w : ℕ) → 1 ≤ w → (o : Outcome (List ℕ)) → ((hs : List ℕ) → Finds o hs → ValidAt w hs) → TracksBelow (at_width w o)
  at_width-below w l o v x f =
      let g = at_width-finds w o x f in (
        omega (arith, g.0),
        subst (λ (k : ℕ). Below k x.1) (sym g.0) (valid-below w _ (length (nets_in i)) [] x.1 (v x.1 g.1)),
      )

  search-valid : (h : Search) (w : ℕ) (hs : List ℕ) → Finds (plain_search h (board_in i) w (nets_in i)) hs → ValidAt w hs
  search-valid h w = plain-valid (meet (grid_of i.sheet)) (board_in i) w (nets_in i) (well_formed-accepted i.sheet a) h

  rounds-valid : (w : ℕ) (hs : List ℕ) → Finds (refit_search (old_byte i) (board_in i) w (nets_in i)) hs → ValidAt w hs
  rounds-valid w hs f =
      (refit-least (meet (grid_of i.sheet)) (board_in i) w (nets_in i) (well_formed-accepted i.sheet a)
      (old_byte i) hs f).0

run-below : (c : Call) (i : Inputs) → WellFormed i.sheet → TracksBelow (run c i)
unfolding run
run-below (Route h) i a = at_width-below i a (width_in i) (well_formed-width i.sheet a).0 (plain_search h (board_in i) (width_in i) (nets_in i)) (search-valid i a h (width_in i))
run-below (Least h) i a = λ x f.
    let g = least_first h (board_in i) (nets_in i) x.0 x.1 f in
    (g.low, valid-below x.0 _ (length (nets_in i)) [] x.1 (search-valid i a h x.0 x.1 g.here))
run-below Refit i a = at_width-below i a (width_in i) (well_formed-width i.sheet a).0 (refit_search (old_byte i) (board_in i) (width_in i) (nets_in i)) (rounds-valid i a (width_in i))

finds-unique : {A : Type 0} (o : Outcome A) (a b : A) → Finds o a → Finds o b → a ≡ b
finds-unique o a b f g = cc (f.1, g.1)

module _ (i j : Inputs) (E : Equivalent i.sheet j.sheet) where
  abbrev s : List ℕ
  s = i.sheet

  abbrev t : List ℕ
  t = j.sheet

  -- the assignments with the same home tracks have the same bytes
  written_same : (w : ℕ) → 1 ≤ w → (hs : List ℕ) → Below w hs → SameBytes s t (assignment_of i w hs) (assignment_of j w hs)
  written_same w l hs b n k c h =
      assignment_from-resp (meet (grid_of s)) (nets s) (nets t) (accepted_left s t E) (accepted_right s t E) (equivalent-relisted s t E)
      (connected_on s w) w (well_formed-connects s E.accepted w) l hs b n c k h
      ∙ ap (λ (f : ℕ → ℕ → ℕ → ℕ → ℕ). byte_of (nets t) (assignment_from (f w) (nets t) hs) n.number c) (partner-same s t E)

  module _ (w : ℕ) (D : SameBelow w i.dead j.dead) where
    -- a legal assignment of s, with its bytes carried over, is legal for t
    legal-carries : (a b : List ℕ) → SameBytes s t a b → length b ≡ entry_count (nets t) → LegalFor i w a → LegalFor j w b
    legal-carries a b S whole L =
        legal-agree (board_of t i.dead) (is_dead j.dead) w D _ (nets t) b
        (bytes-legal_at t i.dead E.accepted2 w b (record {
          whole = whole;
          tracks = subst (λ (board : Board). LegalTracks board w (nets t) (byte_of (nets t) b)) (board-same s t E (is_dead i.dead))
              (legal_tracks-carry (board_in i) w (nets s) (nets t) (byte_of (nets s) a) (byte_of (nets t) b) (equivalent-relisted s t E) S
              (meet (grid_of s)) (accepted_right s t E)
              (legal_at-bytes s i.dead E.accepted w a L).tracks);
        }))

    -- a legal assignment of s has one of t with the same bytes: the one with the same home tracks
    legal-there : (a : List ℕ) → LegalFor i w a → (b : List ℕ) × LegalFor j w b × SameBytes s t a b
    legal-there a L = (b, legal-carries a b same (assignment_from-length (connected_on t w) (nets t) hs) L, same)
      where
        hs : List ℕ
        hs = homes_in i a

        b : List ℕ
        b = assignment_of j w hs

        own : Valid w (fits_at i w) (length (nets s)) [] hs × (a ≡ assignment_of i w hs)
        own = legal-own i E.accepted w a L

        same : SameBytes s t a b
        same n k c h =
            let l = (legal_at-bytes s i.dead E.accepted w a L).tracks.below n c k h in
            ap (λ (x : List ℕ). byte_of (nets s) x n.number c) own.1
            ∙ written_same w (omega arith) hs (valid-below w _ (length (nets s)) [] hs own.0) n k c h

pub legal-resp : (i j : Inputs) → Equivalent i.sheet j.sheet → (w : ℕ) → SameBelow w i.dead j.dead → SameLegal i j w
legal-resp i j E w D = record {
  alike = λ a b S whole whole2. (
    legal-carries i j E w D a b S whole2,
    legal-carries j i F w back b a (same_bytes-sym i.sheet j.sheet E a b S) whole,
  );
  there = legal-there i j E w D;
  back = λ b M. let r = legal-there j i F w back b M in (r.0, r.1, same_bytes-sym j.sheet i.sheet F b r.0 r.2);
}
  where
    F : Equivalent j.sheet i.sheet
    F = equivalent-sym i.sheet j.sheet E

    back : SameBelow w j.dead i.dead
    back v l = sym (D v l)

-- "the number, width, trials and moved are equal, whatever the number is; on success the two tickets also have the same byte for each net
-- number and channel"
module _ (c : Call) (i j : Inputs) (R : Relisting c i j) where
  answer-same : answer_of c i ≡ answer_of c j
  unfolding answer_of
  answer-same =
      let x = number_before-resp c i j R in
      let b = R.budget in
      let m = fun_ext (moved_by-resp c i j R) in
      let o = run_resp c i j R in
      λ k. answer (x k) (b k) (m k) (o k)

  pub call-resp : SameOutcome i j (answer_of c i) (answer_of c j) (output_of c i) (output_of c j)
  call-resp = record {
    answers = answer-same;
    bytes = λ z.
        let F = call-found c i z in
        let G = call-found c j (ap (λ (a : Answer). a.number) (sym answer-same) ∙ z) in
        let u = finds-unique (run c j) (F.width, F.tracks) (G.width, G.tracks) (subst (λ (o : Outcome (ℕ × List ℕ)). Finds o (F.width, F.tracks)) (run_resp c i j R) F.finds) G.finds in
        let l = run-below c i F.accepted (F.width, F.tracks) F.finds in
        let e = G.writes ∙ ap (λ (x : ℕ × List ℕ). assignment_of j x.0 x.1) (sym u) in
        λ n k d h.
        ap (λ (a : List ℕ). byte_of (nets_in i) a n.number d) F.writes
        ∙ written_same i j R.sheets F.width l.0 F.tracks l.1 n k d h
        ∙ ap (λ (a : List ℕ). byte_of (nets_in j) a n.number d) (sym e);
  }
