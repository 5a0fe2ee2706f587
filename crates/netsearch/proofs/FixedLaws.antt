-- "The home track fixes all its tracks": an assignment is fixed by its home tracks, so there is one first. Assumes nothing.
-- bytes_same: one byte for each net number and channel, one assignment. homes-tracks: legal tracks with equal home tracks are equal.
-- before-both, order-fixes: two legal assignments that are each not after the other are one.
use mathlib.Core.Path.{◌≡◌, refl, sym, ap, ap₂, ◌∙◌}
use mathlib.Core.Logic.{inl, inr}
use Prim.Native.Nat.{ℕ, suc, ◌+◌, ◌-◌, ◌<◌}
use native.Mathlib.Omega.{arith}
use native.Mathlib.Decide.{dec_lt}
use mathlib.Core.List.{List, [], ◌∷◌}
use mathlib.Core.Bool.{Bool}
use lib.ListN.{length, get_or, take, length-map}
use lib.Seq.{ext_get_or}
use Rattle.backtracking.specs.Search.{AtOrBefore}
use Rattle.net.specs.Net.{Net, size, channel}
use Rattle.net.specs.Nets.{entry_count, net_in, In}
use Rattle.net.specs.Facts.{Accepted}
use Rattle.net.proofs.NetsLaws.{place_in}
use Rattle.net.proofs.NetLaws.{has-at}
use Rattle.rank.specs.Rank.{rising}
use Rattle.rank.proofs.OrderLaws.{in-rising}
use Rattle.assignment.specs.Board.{Board}
use Rattle.netsearch.specs.HomeTrack.{SameTracks, home, byte_of, homes, NotAfter, track}
use Rattle.netsearch.specs.Facts.{LegalTracks, LegalBytes}
use Rattle.netsearch.proofs.StepLaws.{byte_of-entry}
use Rattle.netsearch.proofs.TrackLaws.{connected-track}

homes_at : (τ σ : ℕ → ℕ → ℕ) (ns : List Net) → homes τ ns ≡ homes σ ns → (n : Net) → In n ns
    → τ n.number (home n) ≡ σ n.number (home n)
homes_at τ σ [] e n i = absurd i
homes_at τ σ (m ∷ ms) e n (inl q) =
    ap (λ (x : Net). τ x.number (home x)) q ∙ cc e ∙ ap (λ (x : Net). σ x.number (home x)) (sym q)
homes_at τ σ (m ∷ ms) e n (inr i) = homes_at τ σ ms (cc e) n i

-- byte i is that of entry j of the net at index k
abbrev Byte : List Net → ℕ → Type 0
Byte ns i = (k : ℕ) × (j : ℕ) × (k < length ns) × (j < size (net_in ns k)) × (entry_count (take k ns) + j ≡ i)

-- each byte is one of an entry
byte-place : (ns : List Net) (i : ℕ) → i < entry_count ns → Byte ns i
unfolding entry_count
byte-place [] i h = absurd (omega arith)
byte-place (n ∷ ns) i h = at (dec_lt i (size n)) (byte-place ns (i - size n))
  where
    at : Dec (i < size n)
        → (i - size n < entry_count ns → Byte ns (i - size n)) → Byte (n ∷ ns) i
    at (yes l) rec = (0, i, omega arith, l, omega arith)
    at (no l) rec = let r = rec (omega arith) in (suc r.0, r.1, omega arith, r.3, omega arith)

module _ (meet : ℕ → ℕ → Bool) (ns : List Net) (A : Accepted meet ns) where
  -- one byte for each net number and channel, one assignment
  pub bytes_same : (a b : List ℕ) → length a ≡ entry_count ns → length b ≡ entry_count ns → SameTracks ns (byte_of ns a) (byte_of ns b) → a ≡ b
  bytes_same a b p q S = ext_get_or 0 a b (p ∙ sym q) (λ i l.
      let r = byte-place ns i (omega arith) in
      let n = net_in ns r.0 in
      ap (λ (x : ℕ). get_or a x 0) (sym r.4)
      ∙ sym (byte_of-entry meet ns A a r.0 r.1 r.2 r.3)
      ∙ S n (place_in ns r.0 r.2) (channel n r.1) (has-at n r.1 r.3)
      ∙ byte_of-entry meet ns A b r.0 r.1 r.2 r.3
      ∙ ap (λ (x : ℕ). get_or b x 0) r.4)

  -- the home tracks fix all tracks
  pub homes-tracks : (board : Board) (w : ℕ) (τ σ : ℕ → ℕ → ℕ) → LegalTracks board w ns τ → LegalTracks board w ns σ
      → homes τ (rising ns) ≡ homes σ (rising ns) → SameTracks ns τ σ
  homes-tracks board w τ σ R S e n i c h =
      connected-track meet n (A.each n i) (board.partner w) (τ n.number) (R.connected n i) c h
      ∙ ap (λ (t : ℕ). track (board.partner w) n t c) (homes_at τ σ (rising ns) e n (in-rising n ns i))
      ∙ sym (connected-track meet n (A.each n i) (board.partner w) (σ n.number) (S.connected n i) c h)

-- of two lists of one length, each at or before the other, the first difference would decide
pub before-both : (l m : List ℕ) → length l ≡ length m → AtOrBefore l m → AtOrBefore m l → l ≡ m
before-both [] [] e p q = refl
before-both [] (x ∷ m) e p q = absurd (omega arith)
before-both (x ∷ l) [] e p q = absurd (omega arith)
before-both (x ∷ l) (y ∷ m) e (inl p) (inl q) = absurd (omega arith)
before-both (x ∷ l) (y ∷ m) e (inl p) (inr q) = absurd (omega (arith, q.0))
before-both (x ∷ l) (y ∷ m) e (inr p) (inl q) = absurd (omega (arith, p.0))
before-both (x ∷ l) (y ∷ m) e (inr p) (inr q) = ap₂ ◌∷◌ p.0 (before-both l m (omega arith) p.1 q.1)

-- there is one first: of two legal assignments that are each not after the other, each is the other
pub order-fixes : (meet : ℕ → ℕ → Bool) (ns : List Net) → Accepted meet ns → (board : Board) (w : ℕ) (a b : List ℕ)
    → LegalBytes board w ns a → LegalBytes board w ns b → NotAfter ns a b → NotAfter ns b a → a ≡ b
order-fixes meet ns A board w a b L M p q =
    bytes_same meet ns A a b L.whole M.whole
    (homes-tracks meet ns A board w (byte_of ns a) (byte_of ns b) L.tracks M.tracks
    (before-both _ _ (length-map (rising ns) _ ∙ sym (length-map (rising ns) _)) p q))
