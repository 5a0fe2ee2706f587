-- The prepared tables make 01's test of a track (01 "Trials"). Assumes nothing.
-- move_from, moves_from: where no net had a home track, and in a round of Refit. plan_fits: likewise.
use mathlib.Core.Path.{◌≡◌, refl, sym, ap, ap₂, ◌∙◌}
use mathlib.Core.Logic.{◌≢◌}
use mathlib.Core.Bool.{Bool, true, false, not, ◌&&◌, and-true}
use mathlib.Core.List.{List, [], ◌∷◌}
use Prim.Native.Nat.{ℕ, zero, suc, ◌+◌, ◌≤◌, ◌<◌}
use native.Mathlib.Omega.{arith}
use borrow.Author.Tests.{ne_eqb, le-leb}
use lib.Dec.{eqb, leb}
use lib.ListN.{length, get_or, take}
use lib.Seq.{take-length, take-suc, length-take-le}
use Rattle.backtracking.proofs.AgreeLaws.{Below}
use Rattle.marks.specs.Marks.{marked_in}
use Rattle.net.specs.Net.{Net}
use Rattle.net.specs.Nets.{net_in}
use Rattle.rank.specs.Rank.{one_if}
use Rattle.assignment.specs.Board.{Board, with_broken}
use Rattle.netsearch.specs.HomeTrack.{home}
use Rattle.netsearch.specs.PlainSearch.{fits}
use Rattle.netsearch.specs.Refit.{is_routed, moves, moves_in, fits_in}
use Rattle.netsearch.proofs.StepLaws.{moves_in-more}
use Rattle.tracksearch.specs.Plan.{SearchTables, move_from, moves_from, held_by, free, plan_fits}
use Rattle.tracksearch.proofs.PlanLaws.{move_from-new}
use Rattle.planner.specs.Planned.{OldHomes}
use Rattle.planner.proofs.PlannedLaws.{old_home-routed, old_home-unrouted, Prepares, free-fits}

-- no routed net has the home track 255, where `old x c` is the old byte of the net number x on the channel c: number 11 refuses such bytes
abbrev pub HomesReal : (ℕ → ℕ → ℕ) → List Net → Type 0
HomesReal old ns = (k : ℕ) → k < length ns → is_routed old (net_in ns k) ≡ true → old (net_in ns k).number (home (net_in ns k)) ≢ 255

-- none of the n nets had a home track
abbrev pub AllNew : ℕ → List ℕ → Type 0
AllNew n hs = (k : ℕ) → k < n → get_or hs k 0 ≡ 255

-- ---- moves

module _ (ns : List Net) (homes : List ℕ) where
  -- where no net had a home track
  module _ (new : AllNew (length ns) homes) where
    move_from-none : (k t : ℕ) → k < length ns → move_from homes k t ≡ 0
    move_from-none k t h = move_from-new homes k t (new k h)

    pub moves_from-none : (hs : List ℕ) (k : ℕ) → k ≤ length ns → moves_from homes hs k ≡ 0
    unfolding moves_from
    moves_from-none hs zero h = refl
    moves_from-none hs (suc k) h = ap₂ ◌+◌ (moves_from-none hs k (omega arith)) (move_from-none k (get_or hs k 0) (omega arith))

  -- in a round of Refit
  module _ (old : ℕ → ℕ → ℕ) (had : OldHomes old ns homes) (real : HomesReal old ns) where
    move_from-net : (k t : ℕ) → k < length ns → move_from homes k t ≡ one_if (moves old (net_in ns k) t)
    unfolding move_from moves
    move_from-net k t h = at (is_routed old n) refl
      where
        n : Net
        n = net_in ns k

        o : ℕ
        o = old n.number (home n)

        code : Bool → ℕ
        code b = elim b as (λ _. ℕ) [ true ↦ 1 | false ↦ 0 ]

        code_one : (b : Bool) → code b ≡ one_if b
        code_one true = refl
        code_one false = refl

        at : (b : Bool) → is_routed old n ≡ b → move_from homes k t ≡ one_if (b && not (eqb o t))
        at true e =
            ap (λ (x : ℕ). code (not (eqb x 255) && not (eqb x t))) (had k h ∙ old_home-routed old n e)
            ∙ ap (λ (b : Bool). code (not b && not (eqb o t))) (ne_eqb o 255 (real k h e))
            ∙ code_one (not (eqb o t))
        at false e = ap (λ (x : ℕ). code (not (eqb x 255) && not (eqb x t))) (had k h ∙ old_home-unrouted old n e)

    moves_from-nets : (hs : List ℕ) (k : ℕ) → k ≤ length hs → k ≤ length ns → moves_from homes hs k ≡ moves_in old ns (take k hs)
    unfolding moves_from moves_in
    moves_from-nets hs zero l h = none ns
      where
        none : (ms : List Net) → 0 ≡ moves_in old ms []
        none [] = refl
        none (m ∷ ms) = refl
    moves_from-nets hs (suc k) l h =
        let q = length-take-le k hs (omega arith) in
        ap₂ ◌+◌ (moves_from-nets hs k (omega arith) (omega arith))
        (move_from-net k (get_or hs k 0) h ∙ ap (λ (j : ℕ). one_if (moves old (net_in ns j) (get_or hs k 0))) (sym q))
        ∙ sym (moves_in-more old ns (take k hs) (get_or hs k 0) (omega arith))
        ∙ ap (moves_in old ns) (sym (take-suc hs k 0 l))

    pub moves_from-moves : (hs : List ℕ) → length hs ≤ length ns → moves_from homes hs (length hs) ≡ moves_in old ns hs
    moves_from-moves hs h = moves_from-nets hs (length hs) (omega arith) h ∙ ap (moves_in old ns) (take-length hs)

-- ---- plan_fits: of a search whose marks have the broken wires

module _ (board : Board) {ns : List Net} (p : SearchTables) (R : Prepares (board.partner p.nets.width) ns p.nets) where
  -- where no net had a home track
  module _ (new : AllNew (length ns) p.old) where
    -- the tables make 01's test
    pub plan_fits-plain : (hs : List ℕ) (t : ℕ) → Below p.nets.width hs → length hs < length ns → t < p.nets.width
        → plan_fits p hs t ≡ fits (with_broken board (marked_in p.marks)) p.nets.width ns hs t
    unfolding plan_fits free held_by
    plan_fits-plain hs t b h m =
        let z = moves_from-none ns p.old new hs (length hs) (omega arith) in
        ap₂ ◌&&◌ (free-fits board R p.marks hs t b h m) (le-leb _ p.limit (omega (arith, move_from-none ns p.old new (length hs) t h)))
        ∙ and-true (fits (with_broken board (marked_in p.marks)) p.nets.width ns hs t)

  -- in a round of Refit
  module _ (old : ℕ → ℕ → ℕ) (had : OldHomes old ns p.old) (real : HomesReal old ns) where
    -- the tables make the test of the round
    pub plan_fits-round : (hs : List ℕ) (t : ℕ) → Below p.nets.width hs → length hs < length ns → t < p.nets.width
        → plan_fits p hs t ≡ fits_in old (with_broken board (marked_in p.marks)) p.nets.width ns p.limit hs t
    unfolding plan_fits free held_by fits_in
    plan_fits-round hs t b h m =
        ap₂ ◌&&◌ (free-fits board R p.marks hs t b h m)
        (ap (λ (c : ℕ). leb c p.limit)
        (ap₂ ◌+◌
        (moves_from-moves ns p.old old had real hs (omega arith))
        (move_from-net ns p.old old had real (length hs) t h)
        ∙ sym (moves_in-more old ns hs t h)))
