-- Equivalent sheets: from the bytes to what the laws of nets ask for, and what the runs of both are. Assumes nothing.
-- equivalent-sym, same_bytes-sym: from the other sheet. equivalent-relisted: their nets are relisted. search-resp, rounds-resp: the plain
-- search and Refit's rounds find the same in as many trials. run_resp, moved_by-resp, number_before-resp: the runs of a call, its count of
-- moves and its number before any trial; old-resp, check-resp: the number of Refit's old assignment, and of Check's.
use mathlib.Core.Path.{◌≡◌, refl, sym, subst, ap, ap₂, ◌∙◌}
use Prim.Native.Nat.{ℕ}
use native.Mathlib.Omega.{arith}
use mathlib.Core.List.{List}
use mathlib.Core.Bool.{Bool, true, false}
use lib.ListN.{length}
use Rattle.grid.specs.declared.Grid.{Grid}
use Rattle.grid.specs.Grid.{channel_count, meet, Wire}
use Rattle.switchbox.specs.SwitchBox.{connected}
use Rattle.net.specs.Net.{Net}
use Rattle.numbers.specs.Numbers.{first_number}
use Rattle.netlist.specs.Netlist.{grid_of, fabric_of, width_of, nets, connected_on, channels_of}
use Rattle.netlist.proofs.NetlistLaws.{same-fabric}
use Rattle.defects.specs.Defects.{is_dead, SameItems, SameBelow}
use Rattle.defects.specs.Facts.{list_number}
use Rattle.defects.proofs.DefectsLaws.{same_items-dead}
use Rattle.defects.proofs.ListLaws.{same_items-number, same_items-below}
use Rattle.assignment.specs.Check.{check_of}
use Rattle.assignment.proofs.CheckLaws.{number_on-or, check_of-number_on}
use Rattle.netsearch.proofs.SearchByLaws.{least_search-same}
use Rattle.routing.specs.Equivalent.{SameNets, Equivalent, SameBytes, SameOldTracks, Relisting}
use Rattle.routing.specs.Outcomes.{Inputs, width_in, old_byte, run, moved_by, out_conditions, number_before, board_in, nets_in}
use Rattle.routing.specs.declared.Call.{Call}
use Rattle.routing.specs.declared.Call.TheVariants.{Route, Least, Refit}
use Rattle.numbers.proofs.NumbersLaws.{or_number, first_number-first}
use Rattle.net.specs.Nets.{entry_count}
use Rattle.net.specs.Facts.{Accepted, Relisted}
use Rattle.netlist.proofs.SheetLaws.{well_formed-accepted, well_formed-connects}
use Rattle.rank.specs.Rank.{rising}
use Rattle.assignment.specs.Facts.{assignment_number}
use Rattle.assignment.specs.Board.{Board, board_with, board_of}
use Rattle.netsearch.specs.HomeTrack.{byte_of}
use Rattle.netsearch.specs.declared.Search.{Search}
use Rattle.netsearch.specs.PlainSearch.{plain_search, at_width, least_search}
use Rattle.netsearch.specs.Refit.{moves_in, refit_search}
use Rattle.netsearch.proofs.DeadLaws.{plain-agree, rounds-agree}
use Rattle.netsearch.proofs.OldTestLaws.{assignment_number-resp}
use Rattle.netsearch.proofs.RefitLaws.{refit-same, moved-resp}
use Rattle.netsearch.proofs.RelistLaws.{plain-same}
use Rattle.routing.proofs.RefusalLaws.{later_conditions, zero-space, number_before-or, old_conditions}

same_nets-relisted : (ns ms : List Net) → SameNets ns ms → Relisted ns ms
same_nets-relisted ns ms a = record {
  there = λ n i.
      let f = a.there n i in
      (f.0, f.1, record { number = f.2; channels = a.channels n f.0 i f.1 f.2; edges = a.edges n f.0 i f.1 f.2 });
  back = λ m i.
      let f = a.back m i in
      (f.0, f.1, record { number = f.2; channels = a.channels f.0 m f.1 i f.2; edges = a.edges f.0 m f.1 i f.2 });
}

module _ (s t : List ℕ) (E : Equivalent s t) where
  pub equivalent-relisted : Relisted (nets s) (nets t)
  equivalent-relisted = same_nets-relisted (nets s) (nets t) E.same_nets

  -- from the other sheet
  pub equivalent-sym : Equivalent t s
  equivalent-sym =
      let a = E.same_nets in
      record {
        accepted = E.accepted2;
        accepted2 = E.accepted;
        grid = sym E.grid;
        kind = record { kind = sym E.kind.kind; rows = sym E.kind.rows };
        width = sym E.width;
        same_nets = record {
          there = λ m i. let f = a.back m i in (f.0, f.1, sym f.2);
          back = λ n i. let f = a.there n i in (f.0, f.1, sym f.2);
          channels = λ m n i j e c. sym (a.channels n m j i (sym e) c);
          edges = λ m n i j e c d. sym (a.edges n m j i (sym e) c d);
        };
      }

  pub same_bytes-sym : (a b : List ℕ) → SameBytes s t a b → SameBytes t s b a
  same_bytes-sym a b S m i c h =
      let f = E.same_nets.back m i in
      let same = S f.0 f.1 c (E.same_nets.channels f.0 m f.1 i f.2 c ∙ h) in
      sym (subst (λ (x : ℕ). byte_of (nets s) a x c ≡ byte_of (nets t) b x c) f.2 same)

  pub equivalent-fabric : fabric_of s ≡ fabric_of t
  equivalent-fabric = same-fabric s t E.grid E.kind

  -- both sheets' nets are accepted on the one grid, and tracks are connected alike
  pub accepted_left : Accepted (meet (grid_of s)) (nets s)
  accepted_left = well_formed-accepted s E.accepted

  pub accepted_right : Accepted (meet (grid_of s)) (nets t)
  accepted_right = subst (λ (g : Grid). Accepted (meet g) (nets t)) (sym E.grid) (well_formed-accepted t E.accepted2)

  pub partner-same : connected_on s ≡ connected_on t
  partner-same = ap connected equivalent-fabric

  channels-same : channels_of s ≡ channels_of t
  channels-same = ap channel_count E.grid

  pub board-same : (broken : Wire → Bool) → board_with s broken ≡ board_with t broken
  board-same broken =
      ap₂ (λ (f : ℕ → ℕ → ℕ → ℕ → ℕ) (k : ℕ). record { partner = f; broken = broken; channels = k }) partner-same channels-same

-- ---- the searches

-- with the same wires broken below the width
module _ (i j : Inputs) (E : Equivalent i.sheet j.sheet) where
  abbrev s : List ℕ
  s = i.sheet

  abbrev t : List ℕ
  t = j.sheet

  accepted : Accepted (meet (grid_of t)) (nets t)
  accepted = well_formed-accepted t E.accepted2

  -- a search: the same home tracks in as many trials, or nothing in as many
  pub search-resp : (h : Search) (w : ℕ) → SameBelow w i.dead j.dead → plain_search h (board_in i) w (nets_in i) ≡ plain_search h (board_in j) w (nets_in j)
  search-resp h w D =
      plain-same (meet (grid_of s)) (nets s) (nets t) (accepted_left s t E) (accepted_right s t E) (equivalent-relisted s t E)
      h (board_in i) w (well_formed-connects s E.accepted w)
      ∙ ap (λ (board : Board). plain_search h board w (nets t)) (board-same s t E (is_dead i.dead))
      ∙ plain-agree (board_of t i.dead) (is_dead j.dead) w D (meet (grid_of t)) (well_formed-connects t E.accepted2 w) (nets t) accepted h

  widths-resp : (h : Search) → SameBelow 32 i.dead j.dead → least_search h (board_in i) (nets_in i) ≡ least_search h (board_in j) (nets_in j)
  widths-resp h D = least_search-same h (board_in i) (board_in j) (nets_in i) (nets_in j) (λ w l. search-resp h w (λ v m. D v (omega arith)))

  module _ (S : SameBytes s t i.old j.old) where
    -- Refit's rounds
    pub rounds-resp : (w : ℕ) → SameBelow w i.dead j.dead
        → refit_search (old_byte i) (board_in i) w (nets_in i) ≡ refit_search (old_byte j) (board_in j) w (nets_in j)
    rounds-resp w D =
        refit-same (meet (grid_of s)) (old_byte i) (old_byte j) (nets s) (nets t)
        (accepted_left s t E) (accepted_right s t E) (equivalent-relisted s t E) S
        (board_in i) w (well_formed-connects s E.accepted w)
        ∙ ap (λ (board : Board). refit_search (old_byte j) board w (nets t)) (board-same s t E (is_dead i.dead))
        ∙ rounds-agree (board_of t i.dead) (is_dead j.dead) w D (meet (grid_of t)) (well_formed-connects t E.accepted2 w) (nets t) accepted
        (old_byte j)

    moves-resp : (hs : List ℕ) → moves_in (old_byte i) (rising (nets s)) hs ≡ moves_in (old_byte j) (rising (nets t)) hs
    moves-resp =
        moved-resp (meet (grid_of s)) (old_byte i) (old_byte j) (nets s) (nets t)
        (accepted_left s t E) (accepted_right s t E) (equivalent-relisted s t E) S

-- ---- the numbers 10 to 13 and 21, and those of Check

module _ (s t : List ℕ) (E : Equivalent s t) (d e : List ℕ) (I : SameItems d e) (a b : List ℕ) (S : SameBytes s t a b)
    (p : length a ≡ entry_count (nets s)) (q : length b ≡ entry_count (nets t)) where
  -- where `partial` is true, as Refit reads its old assignment
  ticket-resp : (partial : Bool) → assignment_number partial (board_of s d) (width_of s) (nets s) a
      ≡ assignment_number partial (board_of t e) (width_of t) (nets t) b
  ticket-resp partial =
      assignment_number-resp partial (meet (grid_of s)) (board_of s d) (width_of s) (well_formed-connects s E.accepted (width_of s))
      (nets s) (nets t) (accepted_left s t E) (accepted_right s t E) (equivalent-relisted s t E) a b S p q
      ∙ ap₂ (λ (board : Board) (w : ℕ). assignment_number partial board w (nets t) b) (board-same s t E (is_dead d)) E.width
      ∙ ap (λ (f : Wire → Bool). assignment_number partial (board_with t f) (width_of t) (nets t) b) (same_items-dead I)

  -- Check answers alike
  pub check-resp : check_of s d a ≡ check_of t e b
  check-resp =
      check_of-number_on s d a
      ∙ number_on-or false s d a E.accepted
      ∙ ap₂ or_number (same_items-number (channels_of s) I ∙ ap (λ (k : ℕ). list_number k e) (channels-same s t E)) (ticket-resp false)
      ∙ sym (check_of-number_on t e b ∙ number_on-or false t e b E.accepted2)

-- ---- the calls

-- the whole runs
pub run_resp : (c : Call) (i j : Inputs) → Relisting c i j → run c i ≡ run c j
unfolding run
run_resp (Route h) i j R =
    ap (at_width (width_in i)) (search-resp i j R.sheets h (width_in i) (same_items-below R.dead (width_in i))) ∙ ap (λ (w : ℕ). at_width w (plain_search h (board_in j) w (nets_in j))) R.sheets.width
run_resp (Least h) i j R = widths-resp i j R.sheets h (same_items-below R.dead 32)
run_resp Refit i j R =
    ap (at_width (width_in i)) (rounds-resp i j R.sheets R.old.same (width_in i) (same_items-below R.dead (width_in i)))
    ∙ ap (λ (w : ℕ). at_width w (refit_search (old_byte j) (board_in j) w (nets_in j))) R.sheets.width

-- the moves
pub moved_by-resp : (c : Call) (i j : Inputs) → Relisting c i j → (hs : List ℕ) → moved_by c i hs ≡ moved_by c j hs
unfolding moved_by
moved_by-resp (Route h) i j R hs = refl
moved_by-resp (Least h) i j R hs = refl
moved_by-resp Refit i j R hs = moves-resp i j R.sheets R.old.same hs

-- the conditions behind those of the list
pub old-resp : (i j : Inputs) → Equivalent i.sheet j.sheet → SameItems i.dead j.dead → SameOldTracks i j
    → first_number (old_conditions i) ≡ first_number (old_conditions j)
unfolding assignment_number
old-resp i j E I O = ticket-resp i.sheet j.sheet E i.dead j.dead I i.old j.old O.same O.whole O.whole2 true

later-resp : (c : Call) (i j : Inputs) → Relisting c i j → first_number (later_conditions c i) ≡ first_number (later_conditions c j)
later-resp (Route h) i j R = zero-space i R.space ∙ sym (zero-space j R.space2)
later-resp (Least h) i j R = zero-space i R.space ∙ sym (zero-space j R.space2)
later-resp Refit i j R =
    first_number-first (old_conditions i) (out_conditions i) (zero-space i R.space)
    ∙ old-resp i j R.sheets R.dead R.old
    ∙ sym (first_number-first (old_conditions j) (out_conditions j) (zero-space j R.space2))

-- the numbers before any trial
pub number_before-resp : (c : Call) (i j : Inputs) → Relisting c i j → number_before c i ≡ number_before c j
number_before-resp c i j R =
    number_before-or c i R.sheets.accepted
    ∙ ap₂ or_number
    (same_items-number (channels_of i.sheet) R.dead ∙ ap (λ (k : ℕ). list_number k j.dead) (channels-same i.sheet j.sheet R.sheets))
    (later-resp c i j R)
    ∙ sym (number_before-or c j R.sheets.accepted2)
