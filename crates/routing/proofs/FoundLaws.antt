-- What the searches of an accepted sheet find, in terms of legal assignments. Assumes nothing.
-- search-first, search-none: a search at a width. rounds-moved, rounds-fewest, rounds-none: Refit's rounds.
-- widths-first, widths-none: the widths of Least. success-writes: what is in the output.
use mathlib.Core.Path.{◌≡◌, sym, subst, ap, ◌∙◌}
use mathlib.Core.Logic.{◌⊎◌}
use Prim.Native.Nat.{ℕ, ◌≤◌, ◌<◌}
use mathlib.Core.List.{List}
use mathlib.Core.Bool.{Bool}
use lib.ListN.{length}
use Rattle.backtracking.specs.Search.{Outcome, AtOrBefore}
use Rattle.backtracking.proofs.SearchLaws.{Finds, Fails}
use Rattle.grid.specs.Grid.{meet}
use Rattle.net.specs.Nets.{entry_count}
use Rattle.net.specs.Facts.{Accepted}
use Rattle.netlist.specs.Netlist.{WellFormed, grid_of, nets, connected_on}
use Rattle.netlist.proofs.SheetLaws.{well_formed-accepted, well_formed-connects}
use Rattle.rank.specs.Rank.{rising}
use Rattle.netsearch.specs.HomeTrack.{byte_of, homes}
use Rattle.netsearch.specs.PlainSearch.{fits, plain_search, least_search}
use Rattle.netsearch.specs.Refit.{moves_in, refit_search}
use Rattle.netsearch.specs.declared.Search.{Search}
use Rattle.netsearch.proofs.ByteLaws.{assignment_from-length}
use Rattle.netsearch.proofs.MeaningLaws.{plain-legal, plain-not_after, plain-none, refit-least, refit-legal, refit-first, refit-none}
use Rattle.netsearch.proofs.SoundLaws.{valid-homes}
use Rattle.netsearch.proofs.SearchByLaws.{least_first, least-none}
use Rattle.routing.specs.Outcomes.{Inputs, nets_in, old_byte, output, moved_by, board_in}
use Rattle.routing.specs.declared.Call.TheVariants.{Refit}
use Rattle.routing.specs.Results.{Unroutable, FirstLegal, LeastWidth, moved_in, FewestMoved, assignment_in}
use Rattle.routing.proofs.FixedLaws.{assignment_of}
use Rattle.routing.proofs.LegalLaws.{legal_at-bytes, bytes-legal_at}
use Rattle.routing.proofs.OutcomeLaws.{Success}
use Rattle.routing.proofs.OverwriteLaws.{overwrite-first}

module _ (i : Inputs) (a : WellFormed i.sheet) (w : ℕ) where
  abbrev s : List ℕ
  s = i.sheet

  abbrev meets : ℕ → ℕ → Bool
  meets = meet (grid_of s)

  accepted : Accepted meets (nets s)
  accepted = well_formed-accepted s a

  pub search-first : (h : Search) (hs : List ℕ) → Finds (plain_search h (board_in i) w (nets_in i)) hs → FirstLegal i w (assignment_of i w hs)
  search-first h hs f = record {
    legal =
        bytes-legal_at s i.dead a w (assignment_of i w hs)
        (plain-legal meets (board_in i) w (nets s) accepted h (well_formed-connects s a w) hs f);
    first = λ b L.
        plain-not_after meets (board_in i) w (nets s) accepted h (well_formed-connects s a w) hs f b (legal_at-bytes s i.dead a w b L);
  }

  pub search-none : (h : Search) → Fails (plain_search h (board_in i) w (nets_in i)) → Unroutable i w
  search-none h f b L =
      plain-none meets (board_in i) w (nets s) accepted h f (byte_of (nets s) b) (legal_at-bytes s i.dead a w b L).tracks

  rounds-homes : (hs : List ℕ) → Finds (refit_search (old_byte i) (board_in i) w (nets_in i)) hs → homes (byte_of (nets s) (assignment_of i w hs)) (rising (nets s)) ≡ hs
  rounds-homes hs f =
      valid-homes (board_in i) w meets (nets s) accepted (well_formed-connects s a w) hs
      (refit-least meets (board_in i) w (nets s) accepted (old_byte i) hs f).0

  pub rounds-moved : (hs : List ℕ) → Finds (refit_search (old_byte i) (board_in i) w (nets_in i)) hs → moved_by Refit i hs ≡ moved_in i (assignment_of i w hs)
  rounds-moved hs f = ap (moved_by Refit i) (sym (rounds-homes hs f))

  pub rounds-fewest : (hs : List ℕ) → Finds (refit_search (old_byte i) (board_in i) w (nets_in i)) hs → FewestMoved i w (assignment_of i w hs)
  unfolding moved_by
  rounds-fewest hs f = record {
    legal =
        bytes-legal_at s i.dead a w (assignment_of i w hs)
        (refit-legal meets (board_in i) w (nets s) accepted (old_byte i) (well_formed-connects s a w) hs f);
    fewest = λ b L.
        subst (λ (l : List ℕ). (cost l < cost (of b)) ⊎ ((cost l ≤ cost (of b)) × AtOrBefore l (of b))) (sym (rounds-homes hs f))
        (refit-first meets (board_in i) w (nets s) accepted (old_byte i) hs f (byte_of (nets s) b)
        (legal_at-bytes s i.dead a w b L).tracks);
  }
    where
      cost : List ℕ → ℕ
      cost = moves_in (old_byte i) (rising (nets s))

      of : List ℕ → List ℕ
      of b = homes (byte_of (nets s) b) (rising (nets s))

  pub rounds-none : Fails (refit_search (old_byte i) (board_in i) w (nets_in i)) → Unroutable i w
  rounds-none f b L =
      refit-none meets (board_in i) w (nets s) accepted (old_byte i) f (byte_of (nets s) b)
      (legal_at-bytes s i.dead a w b L).tracks

-- the test of a track at each width
abbrev pub fits_at : Inputs → ℕ → List ℕ → ℕ → Bool
fits_at i w = fits (board_in i) w (rising (nets_in i))

-- the widths of Least: where they find, no smaller width has a legal assignment
module _ (i : Inputs) (a : WellFormed i.sheet) where
  pub widths-first : (h : Search) (w : ℕ) (hs : List ℕ) → Finds (least_search h (board_in i) (nets_in i)) (w, hs) → LeastWidth i w × FirstLegal i w (assignment_of i w hs)
  widths-first h w hs f =
      let g = least_first h (board_in i) (nets_in i) w hs f in
      let first = search-first i a w h hs g.here in (
        record {
          low = g.low;
          high = g.high;
          legal = (assignment_of i w hs, first.legal);
          smaller = λ v l m. search-none i a v h (g.before v l m);
        },
        first,
      )

  pub widths-none : (h : Search) → Fails (least_search h (board_in i) (nets_in i)) → (w : ℕ) → 1 ≤ w → w ≤ 32 → Unroutable i w
  widths-none h f w l m = search-none i a w h (least-none h (board_in i) (nets_in i) f w l m)

-- a success has its assignment in the output
pub success-writes : (x : ℕ) (moved : List ℕ → ℕ) (o : Outcome (ℕ × List ℕ)) (i : Inputs) (S : Success x i.budget moved o)
    → assignment_in i (output x i.budget i.sheet o i.out) ≡ assignment_of i S.width S.tracks
success-writes x moved o i S =
    ap (assignment_in i) (S.writes i.sheet i.out)
    ∙ overwrite-first (assignment_of i S.width S.tracks) i.out (entry_count (nets_in i))
    (assignment_from-length (connected_on i.sheet S.width) (nets_in i) S.tracks)
