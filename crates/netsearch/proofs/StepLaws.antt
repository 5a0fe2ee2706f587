-- Laws in the shape of code: the moves after one more net, and none; one step of the climb from the home, the byte at an entry. Assumes
-- nothing.
use mathlib.Core.Path.{◌≡◌, refl, sym, subst, ap, ◌∙◌}
use Prim.Native.Nat.{ℕ, zero, suc, ◌+◌, ◌≤◌, ◌<◌}
use native.Mathlib.Omega.{arith}
use mathlib.Core.Logic.{inl, inr}
use lib.Seq.{get_or-drop}
use borrow.Author.Tests.{eqb-true, eq-eqb, ne_eqb}
use mathlib.Core.List.{List, [], ◌∷◌, ◌++◌}
use mathlib.Core.Bool.{Bool, true, false, not, ◌&&◌, true≢false}
use lib.ListN.{length, get_or, take, drop}
use Rattle.net.specs.Net.{Net, size, channel, parent, entry_of}
use Rattle.net.specs.Nets.{entry_count, net_in, In}
use Rattle.net.specs.Facts.{AcceptedNet, Accepted}
use Rattle.net.proofs.NetsLaws.{place_in}
use Rattle.rank.specs.Rank.{one_if}
use Rattle.netsearch.specs.HomeTrack.{byte_of, home, homes, track_up, track_down, track}
use Rattle.netsearch.specs.Refit.{is_routed, moves, moves_in}
use Rattle.netsearch.proofs.TrackLaws.{entry_of-at}

-- the moves after one more net is laid
pub moves_in-more : (old : ℕ → ℕ → ℕ) (ns : List Net) (p : List ℕ) (t : ℕ) → length p < length ns
    → moves_in old ns (p ++ (t ∷ [])) ≡ moves_in old ns p + one_if (moves old (net_in ns (length p)) t)
unfolding moves_in
moves_in-more old [] p t h = absurd (omega arith)
moves_in-more old (n ∷ ns) [] t h = at ns
  where
    at : (ms : List Net) → one_if (moves old n t) + moves_in old ms [] ≡ 0 + one_if (moves old n t)
    at [] = omega arith
    at (m ∷ ms) = omega arith
moves_in-more old (n ∷ ns) (s ∷ p) t h = omega (arith, moves_in-more old ns p t (omega arith))

-- where nothing is moved, each routed net keeps its home track
pub unmoved-home : (old τ : ℕ → ℕ → ℕ) (ns : List Net) → moves_in old ns (homes τ ns) ≡ 0 → (n : Net) → In n ns → is_routed old n ≡ true
    → old n.number (home n) ≡ τ n.number (home n)
unfolding moves_in moves
unmoved-home old τ [] z n i r = absurd i
unmoved-home old τ (m ∷ ms) z n (inl e) r =
    subst (λ (k : Net). old k.number (home k) ≡ τ k.number (home k)) (sym e)
    (eqb-true _ _ (stays (is_routed old m) _ (omega arith) (ap (is_routed old) (sym e) ∙ r)))
  where
    stays : (p q : Bool) → one_if (p && not q) ≡ 0 → p ≡ true → q ≡ true
    stays true true z e = refl
    stays true false z e = absurd (omega arith)
    stays false q z e = absurd (true≢false (sym e))
unmoved-home old τ (m ∷ ms) z n (inr i) r = unmoved-home old τ ms (omega arith) n i r

module _ (meet : ℕ → ℕ → Bool) (n : Net) (G : AcceptedNet meet n) (partner : ℕ → ℕ → ℕ → ℕ) where
  -- one step of the climb from the home
  track_up-any : (k l i t : ℕ) → i ≤ k → i ≤ l → i < size n → track_up partner n k i t ≡ track_up partner n l i t
  unfolding track_up
  track_up-any zero zero i t a b h = refl
  track_up-any zero (suc l) zero t a b h = refl
  track_up-any zero (suc l) (suc i) t a b h = absurd (omega arith)
  track_up-any (suc k) zero zero t a b h = refl
  track_up-any (suc k) zero (suc i) t a b h = absurd (omega arith)
  track_up-any (suc k) (suc l) zero t a b h = refl
  track_up-any (suc k) (suc l) (suc i) t a b h =
      let p = G.earlier (suc i) (omega arith) h in
      track_up-any k l (parent n (suc i)) _ (omega arith) (omega arith) (omega arith)

  pub track_up-step : (k i t : ℕ) → i ≤ k → 0 < i → i < size n → track_up partner n k i t ≡ track_up partner n k (parent n i) (partner (channel n i) (channel n (parent n i)) t)
  unfolding track_up
  track_up-step k zero t a z h = absurd (omega arith)
  track_up-step zero (suc i) t a z h = absurd (omega arith)
  track_up-step (suc k) (suc i) t a z h = let p = G.earlier (suc i) z h in track_up-any k (suc k) (parent n (suc i)) _ (omega arith) (omega arith) (omega arith)

  pub track_up-root : (k t : ℕ) → track_up partner n k 0 t ≡ t
  unfolding track_up
  track_up-root zero t = refl
  track_up-root (suc k) t = refl

  -- the root's track is where the climb ends; `track-down` goes on from there
  pub track-root : (t : ℕ) → track partner n t (channel n 0) ≡ track_up partner n (size n) (entry_of n (home n)) t
  unfolding track track_down
  track-root t = ap (λ (i : ℕ). track_down partner n (size n) i (track_up partner n (size n) (entry_of n (home n)) t)) (entry_of-at meet n G 0 G.filled) ∙ at (size n)
    where
      at : (k : ℕ) → track_down partner n k 0 (track_up partner n (size n) (entry_of n (home n)) t) ≡ track_up partner n (size n) (entry_of n (home n)) t
      at zero = refl
      at (suc k) = refl

-- a net's bytes stand together, net after net: the byte at a net's entry
pub byte_of-entry : (meet : ℕ → ℕ → Bool) (ns : List Net) → Accepted meet ns → (b : List ℕ) (i j : ℕ) → i < length ns → j < size (net_in ns i)
    → byte_of ns b (net_in ns i).number (channel (net_in ns i) j) ≡ get_or b (entry_count (take i ns) + j) 0
unfolding byte_of entry_count
byte_of-entry meet [] A b i j h l = absurd (omega arith)
byte_of-entry meet (n ∷ ns) A b zero j h l =
    rw (eq-eqb n.number n.number refl, byte_of)
    (ap (λ (x : ℕ). get_or b x 0) (entry_of-at meet n (A.each n (inl refl)) j l ∙ omega arith))
byte_of-entry meet (n ∷ ns) A b (suc i) j h l =
    rw (ne_eqb n.number (net_in ns i).number (A.apart.0 (net_in ns i) (place_in ns i (omega arith))), byte_of)
    (byte_of-entry meet ns (record { each = λ m k. A.each m (inr k); apart = A.apart.1 }) (drop (size n) b) i j (omega arith) l
    ∙ get_or-drop (size n) b (entry_count (take i ns) + j) 0
    ∙ ap (λ (x : ℕ). get_or b x 0) (omega arith))
