-- Laws of the runs (specs/PlainSearch.antt, specs/Refit.antt), with any test of a track. Assumes nothing.
-- search_by: what it finds is valid and the first, nothing is found only where there is none, equal tests find alike. at_width, least_search: the
-- width found is the first at which the search finds. rounds_by: what is found has the least cost, and is the first of those.
use mathlib.Core.Path.{◌≡◌, refl, sym, subst, ap, ap₂, ◌∙◌, fun_ext}
use mathlib.Core.Logic.{◌⊎◌, inl, inr}
use Prim.Native.Nat.{ℕ, ◌≤◌, ◌<◌}
use native.Mathlib.Omega.{arith}
use mathlib.Core.List.{List, [], ◌∷◌, ◌++◌}
use mathlib.Core.Bool.{Bool, true, false}
use Rattle.backtracking.specs.Search.{Outcome, found, not_found, first_of, backtrack, AtOrBefore}
use Rattle.backtracking.proofs.AgreeLaws.{Agrees, first-agree, backtrack-below}
use Rattle.backtracking.proofs.RoundLaws.{limited, rounds, rounds-least, rounds-none}
use Rattle.backtracking.proofs.SearchLaws.{Valid, Finds, Fails, never, first_finds, first-fails, backtrack-valid, backtrack-none, backtrack-first}
use Rattle.net.specs.Net.{Net}
use Rattle.assignment.specs.Board.{Board}
use Rattle.netsearch.specs.PlainSearch.{unless_over, plain_search, at_width, narrowest, widths_tried, least_search}
use Rattle.netsearch.specs.declared.Search.{Search}

-- ---- unless_over

unless_over-finds : (b : Bool) (o : Unit {0} → Outcome (List ℕ)) (hs : List ℕ) → Finds (unless_over b o) hs → Finds (o tt) hs
unfolding unless_over
unless_over-finds true o hs f = absurd (never (not_found 0) hs f (0, refl))
unless_over-finds false o hs f = f

unless_over-fails : (b : Bool) (o : Unit {0} → Outcome (List ℕ)) → Fails (unless_over b o) → (b ≡ true) ⊎ Fails (o tt)
unfolding unless_over
unless_over-fails true o f = inl refl
unless_over-fails false o f = inr f

-- ---- search_by

-- the plain search of n nets at the width w, where `test p t` says that the home track t fits after the home tracks p
abbrev pub search_by : Bool → ℕ → (List ℕ → ℕ → Bool) → ℕ → Outcome (List ℕ)
search_by over w test n = unless_over over (λ _. backtrack w test n [])

module _ (over : Bool) (w : ℕ) (test : List ℕ → ℕ → Bool) (n : ℕ) where
  search_by-of : (hs : List ℕ) → Finds (search_by over w test n) hs → Finds (backtrack w test n []) hs
  search_by-of hs f = unless_over-finds over _ hs f

  pub search_by-valid : (hs : List ℕ) → Finds (search_by over w test n) hs → Valid w test n [] hs
  search_by-valid hs f = backtrack-valid w test n [] hs (search_by-of hs f)

  pub search_by-first : (hs : List ℕ) → Finds (search_by over w test n) hs → (m : List ℕ) → Valid w test n [] m → AtOrBefore hs m
  search_by-first hs f = backtrack-first w test n [] hs (search_by-of hs f)

  pub search_by-none : Fails (search_by over w test n) → (over ≡ true) ⊎ ((m : List ℕ) → Valid w test n [] m → ⊥)
  search_by-none f = at (unless_over-fails over _ f)
    where
      at : (over ≡ true) ⊎ Fails (backtrack w test n []) → (over ≡ true) ⊎ ((m : List ℕ) → Valid w test n [] m → ⊥)
      at (inl e) = inl e
      at (inr g) = inr (backtrack-none w test n [] g)

-- tests that agree wherever the search asks
pub search_by-same : (over over2 : Bool) (w : ℕ) (test test2 : List ℕ → ℕ → Bool) (n n2 : ℕ) → over ≡ over2 → Agrees w n test test2 → n ≡ n2
    → search_by over w test n ≡ search_by over2 w test2 n2
search_by-same over over2 w test test2 n n2 e a l =
    ap₂ unless_over e (fun_ext (λ _. backtrack-below w n test test2 a ∙ ap (λ (k : ℕ). backtrack w test2 k []) l))

-- ---- at_width

pub at_width-finds : (w : ℕ) (o : Outcome (List ℕ)) (a : ℕ × List ℕ) → Finds (at_width w o) a → (a.0 ≡ w) × Finds o a.1
unfolding at_width
at_width-finds w (found hs c) a f =
    let e : (w, hs) ≡ a = cc f.1 in
    (sym (ap (λ (x : ℕ × List ℕ). x.0) e), subst (λ (x : ℕ × List ℕ). Finds (found hs c) x.1) e (c, refl))
at_width-finds w (not_found c) a f = absurd (never (not_found c) a f (c, refl))

pub at_width-fails : (w : ℕ) (o : Outcome (List ℕ)) → Fails (at_width w o) → Fails o
unfolding at_width
at_width-fails w (found hs c) f = absurd (never (found (w, hs) c) (w, hs) (c, refl) f)
at_width-fails w (not_found c) f = (c, refl)

-- ---- least_search

module _ (h : Search) (board : Board) (ns : List Net) where
  -- the run at the width w is the first of the widths' runs to find
  pub record FirstWidth (w : ℕ) (hs : List ℕ) : Type 0 where
    pub low : 1 ≤ w
    pub high : w ≤ 32
    pub here : Finds (plain_search h board w ns) hs
    pub before : (v : ℕ) → 1 ≤ v → v < w → Fails (plain_search h board v ns)

  pub least_first : (w : ℕ) (hs : List ℕ) → Finds (least_search h board ns) (w, hs) → FirstWidth w hs
  unfolding least_search
  least_first w hs f =
      let a = first_finds (λ v. at_width v (plain_search h board v ns)) widths_tried narrowest (w, hs) f in
      let b = at_width-finds a.0 (plain_search h board a.0 ns) (w, hs) a.3 in
      let e : w ≡ a.0 = b.0 in
      record {
        low = omega arith;
        high = omega arith;
        here = subst (λ (v : ℕ). Finds (plain_search h board v ns) hs) (sym e) b.1;
        before = λ v l m. at_width-fails v _ (a.4 v l (omega arith));
      }

  pub least-none : Fails (least_search h board ns) → (w : ℕ) → 1 ≤ w → w ≤ 32 → Fails (plain_search h board w ns)
  unfolding least_search
  least-none f w l m = at_width-fails w _ (first-fails (λ v. at_width v (plain_search h board v ns)) widths_tried narrowest f w l (omega arith))

-- searches that are the same at each width, and at the widths up to the one found
module _ (h : Search) (board board2 : Board) (ns ms : List Net) where
  pub least_search-same : ((w : ℕ) → w ≤ 32 → plain_search h board w ns ≡ plain_search h board2 w ms) → least_search h board ns ≡ least_search h board2 ms
  unfolding least_search
  least_search-same e = first-agree _ _ widths_tried narrowest (λ w p q. ap (at_width w) (e w (omega arith)))

-- ---- rounds_by

-- the rounds, as many as `count`, with `test d` in round d
abbrev pub rounds_by : Bool → ℕ → (ℕ → List ℕ → ℕ → Bool) → ℕ → ℕ → Outcome (List ℕ)
rounds_by over w test n count = unless_over over (λ _. first_of (λ d. backtrack w (test d) n []) count 0)

-- in round d a choice may not bring the cost above d
module _ (over : Bool) (w : ℕ) (test : List ℕ → ℕ → Bool) (cost : List ℕ → ℕ)
    (grows : (p : List ℕ) (t : ℕ) → cost p ≤ cost (p ++ (t ∷ []))) (n k : ℕ) where
  pub rounds_by-least : cost [] ≡ 0 → (hs : List ℕ) → Finds (rounds_by over w (limited w test cost grows) n k) hs
      → Valid w test n [] hs × ((m : List ℕ) → Valid w test n [] m → (cost hs < cost m) ⊎ ((cost hs ≤ cost m) × AtOrBefore hs m))
  unfolding rounds
  rounds_by-least z hs f = rounds-least w test cost grows n k hs z (unless_over-finds over _ hs f)

  pub rounds_by-none : Fails (rounds_by over w (limited w test cost grows) n k)
      → (over ≡ true) ⊎ ((m : List ℕ) → Valid w test n [] m → cost m < k → ⊥)
  unfolding rounds
  rounds_by-none f = at (unless_over-fails over _ f)
    where
      at : (over ≡ true) ⊎ Fails (rounds w test cost grows n k) → (over ≡ true) ⊎ ((m : List ℕ) → Valid w test n [] m → cost m < k → ⊥)
      at (inl e) = inl e
      at (inr g) = inr (rounds-none w test cost grows n k g)

pub rounds_by-same : (over over2 : Bool) (w : ℕ) (test test2 : ℕ → List ℕ → ℕ → Bool) (n n2 k k2 : ℕ) → over ≡ over2
    → ((d : ℕ) → Agrees w n (test d) (test2 d)) → n ≡ n2 → k ≡ k2 → rounds_by over w test n k ≡ rounds_by over2 w test2 n2 k2
rounds_by-same over over2 w test test2 n n2 k k2 e a l r =
    ap₂ unless_over e (fun_ext (λ _.
    first-agree _ _ k 0 (λ d p q. backtrack-below w n (test d) (test2 d) (a d) ∙ ap (λ (m : ℕ). backtrack w (test2 d) m []) l)
    ∙ ap (λ (m : ℕ). first_of (λ d. backtrack w (test2 d) n2 []) m 0) r))
