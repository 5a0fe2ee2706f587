-- What the runs find, in terms of legal tracks. Assumes nothing.
-- plain: of a search of Route and Least, what it finds is valid, legal and the first (plain-not_after: in the order of assignments), and where it finds
-- nothing, nothing is legal. refit: of Refit's rounds, and that what they find moves the fewest.
use mathlib.Core.Path.{◌≡◌, refl, sym, subst}
use mathlib.Core.Logic.{◌⊎◌, inl, inr}
use Prim.Native.Nat.{ℕ, ◌+◌, ◌≤◌, ◌<◌}
use native.Mathlib.Omega.{arith}
use mathlib.Core.List.{List, [], ◌∷◌, ◌++◌}
use mathlib.Core.Bool.{Bool, true, false, ◌&&◌}
use lib.ListN.{length}
use Rattle.backtracking.specs.Search.{AtOrBefore}
use Rattle.backtracking.proofs.SearchLaws.{Valid, Finds, Fails, valid-weaker}
use Rattle.net.specs.Net.{Net}
use Rattle.switchbox.specs.Facts.{Connects}
use Rattle.net.specs.Facts.{Accepted}
use Rattle.rank.specs.Rank.{rising, one_if, tally}
use Rattle.rank.proofs.OrderLaws.{rising-tally}
use Rattle.assignment.specs.Board.{Board}
use Rattle.netsearch.specs.HomeTrack.{assignment_from, homes, byte_of, NotAfter}
use Rattle.netsearch.specs.PlainSearch.{over_capacity, fits, fits_by, plain_search}
use Rattle.netsearch.specs.declared.Search.{Search}
use Rattle.netsearch.specs.declared.Search.TheVariants.{Plain}
use Rattle.netsearch.specs.Refit.{is_routed, moves, moves_in, routed_count, round_count, fits_in, refit_search}
use Rattle.netsearch.specs.Facts.{LegalTracks, LegalBytes}
use Rattle.netsearch.proofs.CapacityLaws.{legal-over_capacity}
use Rattle.netsearch.proofs.SearchByLaws.{search_by-valid, search_by-first, search_by-none, rounds_by-least, rounds_by-none}
use Rattle.netsearch.proofs.SoundLaws.{legal-valid, valid-legal, valid-homes}

module _ (meet : ℕ → ℕ → Bool) (board : Board) (w : ℕ) (ns : List Net) (A : Accepted meet ns) where
  -- of each search: a home track that it takes fits, and the home tracks of legal tracks are valid by its test
  fits_by-fits : (h : Search) (p : List ℕ) (t : ℕ) → fits_by h board w (rising ns) p t ≡ true → fits board w (rising ns) p t ≡ true
  fits_by-fits Plain p t e = e

  legal-valid_by : (h : Search) (τ : ℕ → ℕ → ℕ) → LegalTracks board w ns τ
      → Valid w (fits_by h board w (rising ns)) (length ns) [] (homes τ (rising ns))
  legal-valid_by Plain τ R = legal-valid board w meet ns A τ R

  -- where nothing is valid, or a channel is over capacity, no tracks are legal
  none-legal : (h : Search) → (over_capacity board w ns ≡ true) ⊎ ((m : List ℕ) → Valid w (fits_by h board w (rising ns)) (length ns) [] m → ⊥) → (τ : ℕ → ℕ → ℕ)
      → LegalTracks board w ns τ → ⊥
  none-legal h (inl e) τ R = legal-over_capacity board w ns A.apart τ R e
  none-legal h (inr g) τ R = g _ (legal-valid_by h τ R)

  module _ (h : Search) where
    pub plain-valid : (hs : List ℕ) → Finds (plain_search h board w ns) hs → Valid w (fits board w (rising ns)) (length ns) [] hs
    unfolding plain_search
    plain-valid hs f = valid-weaker w _ _ (fits_by-fits h) (length ns) [] hs (search_by-valid (over_capacity board w ns) w _ (length ns) hs f)

    -- the assignment of what the search finds is legal
    pub plain-legal : Connects w meet (board.partner w) → (hs : List ℕ) → Finds (plain_search h board w ns) hs → LegalBytes board w ns (assignment_from (board.partner w) ns hs)
    plain-legal P hs f = valid-legal board w meet ns A P hs (plain-valid hs f)

    -- it is the first
    pub plain-first : (hs : List ℕ) → Finds (plain_search h board w ns) hs → (τ : ℕ → ℕ → ℕ) → LegalTracks board w ns τ → AtOrBefore hs (homes τ (rising ns))
    unfolding plain_search
    plain-first hs f τ R = search_by-first (over_capacity board w ns) w _ (length ns) hs f _ (legal-valid_by h τ R)

    -- no legal assignment comes before the one that it gives
    pub plain-not_after : Connects w meet (board.partner w) → (hs : List ℕ) → Finds (plain_search h board w ns) hs → (b : List ℕ)
        → LegalBytes board w ns b → NotAfter ns (assignment_from (board.partner w) ns hs) b
    plain-not_after P hs f b L =
        subst (λ (l : List ℕ). AtOrBefore l (homes (byte_of ns b) (rising ns))) (sym (valid-homes board w meet ns A P hs (plain-valid hs f)))
        (plain-first hs f (byte_of ns b) L.tracks)

    -- where the search finds nothing, no tracks are legal
    pub plain-none : Fails (plain_search h board w ns) → (τ : ℕ → ℕ → ℕ) → LegalTracks board w ns τ → ⊥
    unfolding plain_search
    plain-none f = none-legal h (search_by-none (over_capacity board w ns) w _ (length ns) f)

  module _ (old : ℕ → ℕ → ℕ) where
    abbrev cost : List ℕ → ℕ
    cost = moves_in old (rising ns)

    moves_in-grow : (ms : List Net) (p : List ℕ) (t : ℕ) → moves_in old ms p ≤ moves_in old ms (p ++ (t ∷ []))
    unfolding moves_in
    moves_in-grow [] p t = omega arith
    moves_in-grow (m ∷ ms) [] t = omega arith
    moves_in-grow (m ∷ ms) (s ∷ p) t = omega (arith, moves_in-grow ms p t)

    moves_in-le : (ms : List Net) (p : List ℕ) → moves_in old ms p ≤ routed_count old ms
    unfolding moves_in routed_count tally moves
    moves_in-le [] p = omega arith
    moves_in-le (m ∷ ms) [] = omega arith
    moves_in-le (m ∷ ms) (s ∷ p) = at (is_routed old m) _ (moves_in-le ms p)
      where
        at : (a b : Bool) → moves_in old ms p ≤ routed_count old ms → one_if (a && b) + moves_in old ms p ≤ one_if a + routed_count old ms
        at true true h = omega arith
        at true false h = omega arith
        at false b h = omega arith

    no-cost : (ms : List Net) → moves_in old ms [] ≡ 0
    unfolding moves_in
    no-cost [] = refl
    no-cost (m ∷ ms) = refl

    pub refit-least : (hs : List ℕ) → Finds (refit_search old board w ns) hs
        → Valid w (fits board w (rising ns)) (length ns) [] hs × ((m : List ℕ) → Valid w (fits board w (rising ns)) (length ns) [] m → (cost hs < cost m) ⊎ ((cost hs ≤ cost m) × AtOrBefore hs m))
    unfolding refit_search fits_in
    refit-least hs f =
        rounds_by-least (over_capacity board w ns) w (fits board w (rising ns)) cost (moves_in-grow (rising ns)) (length ns) (round_count old ns)
        (no-cost (rising ns)) hs f

    -- the assignment of what a refit finds is legal
    pub refit-legal : Connects w meet (board.partner w) → (hs : List ℕ) → Finds (refit_search old board w ns) hs → LegalBytes board w ns (assignment_from (board.partner w) ns hs)
    refit-legal P hs f = valid-legal board w meet ns A P hs (refit-least hs f).0

    -- no legal tracks move fewer nets, and of those that move as many it is the first
    pub refit-first : (hs : List ℕ) → Finds (refit_search old board w ns) hs → (τ : ℕ → ℕ → ℕ) → LegalTracks board w ns τ
        → (cost hs < cost (homes τ (rising ns))) ⊎ ((cost hs ≤ cost (homes τ (rising ns))) × AtOrBefore hs (homes τ (rising ns)))
    refit-first hs f τ R = (refit-least hs f).1 _ (legal-valid board w meet ns A τ R)

    -- where a refit finds nothing, no tracks are legal: none move more nets than are routed
    pub refit-none : Fails (refit_search old board w ns) → (τ : ℕ → ℕ → ℕ) → LegalTracks board w ns τ → ⊥
    unfolding refit_search fits_in routed_count
    refit-none f =
        none-legal Plain (at
        (rounds_by-none (over_capacity board w ns) w (fits board w (rising ns)) cost (moves_in-grow (rising ns)) (length ns) (round_count old ns) f))
      where
        at : (over_capacity board w ns ≡ true) ⊎ ((m : List ℕ) → Valid w (fits board w (rising ns)) (length ns) [] m → cost m < round_count old ns → ⊥)
            → (over_capacity board w ns ≡ true) ⊎ ((m : List ℕ) → Valid w (fits board w (rising ns)) (length ns) [] m → ⊥)
        at (inl e) = inl e
        at (inr g) = inr (λ m v. g m v (omega (arith, moves_in-le (rising ns) m, rising-tally (is_routed old) ns)))
