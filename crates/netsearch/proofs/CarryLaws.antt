-- Relisted nets with the same tracks are legal together: in range, connected at every edge, on whole wires, no wire held twice. Assumes nothing.
use mathlib.Core.Path.{◌≡◌, sym, subst, ap, ◌∙◌}
use Prim.Native.Nat.{ℕ, ◌<◌}
use mathlib.Core.List.{List}
use mathlib.Core.Bool.{Bool, true}
use Rattle.grid.specs.Grid.{wire}
use Rattle.net.specs.Net.{Net, has}
use Rattle.net.specs.Nets.{In}
use Rattle.net.specs.Facts.{SameNet, Accepted, Relisted}
use Rattle.assignment.specs.Board.{Board}
use Rattle.netsearch.specs.HomeTrack.{SameTracks}
use Rattle.netsearch.specs.Facts.{InRange, AllConnected, WiresWhole, WiresExclusive, LegalTracks}
use Rattle.netsearch.proofs.TrackLaws.{edge-has}

same-sym : (n m : Net) → SameNet n m → SameNet m n
same-sym n m s = record { number = sym s.number; channels = λ c. sym (s.channels c); edges = λ c d. sym (s.edges c d) }

pub relisted-sym : (ns ms : List Net) → Relisted ns ms → Relisted ms ns
relisted-sym ns ms r = record {
  there = λ m i. let a = r.back m i in (a.0, a.1, same-sym a.0 m a.2);
  back = λ n i. let a = r.there n i in (a.0, a.1, same-sym n a.0 a.2);
}

pub tracks-sym : (ns ms : List Net) (τ σ : ℕ → ℕ → ℕ) → Relisted ns ms → SameTracks ns τ σ → SameTracks ms σ τ
tracks-sym ns ms τ σ r e m i c h =
    let a = r.back m i in
    let q = a.2.number in
    ap (λ (x : ℕ). σ x c) (sym q) ∙ sym (e a.0 a.1 c (a.2.channels c ∙ h)) ∙ ap (λ (x : ℕ). τ x c) q

module _ (board : Board) (w : ℕ) (ns ms : List Net) (τ σ : ℕ → ℕ → ℕ) (r : Relisted ns ms) (e : SameTracks ns τ σ) where
  -- the track of m is that of its like
  carry : (m : Net) (i : In m ms) (c : ℕ) → has m c ≡ true → σ m.number c ≡ τ (r.back m i).0.number c
  carry m i c h =
      let a = r.back m i in
      ap (λ (x : ℕ). σ x c) (sym a.2.number) ∙ sym (e a.0 a.1 c (a.2.channels c ∙ h))

  pub range-carries : InRange board w ns τ → InRange board w ms σ
  range-carries R m c i h = let a = r.back m i in subst (λ (x : ℕ). x < w) (sym (carry m i c h)) (R a.0 c a.1 (a.2.channels c ∙ h))

  pub connected-carries : (meet : ℕ → ℕ → Bool) → Accepted meet ms → AllConnected board w ns τ → AllConnected board w ms σ
  connected-carries meet B R m i c d j =
      let a = r.back m i in
      let h = edge-has meet m (B.each m i) c d j in
      carry m i d h.1 ∙ R a.0 a.1 c d (a.2.edges c d ∙ j) ∙ ap (board.partner w c d) (sym (carry m i c h.0))

  pub whole_carries : WiresWhole board w ns τ → WiresWhole board w ms σ
  whole_carries R m c i h =
      let a = r.back m i in ap (λ (x : ℕ). board.broken (wire c x)) (carry m i c h) ∙ R a.0 c a.1 (a.2.channels c ∙ h)

  pub exclusive-carries : WiresExclusive board w ns τ → WiresExclusive board w ms σ
  exclusive-carries R m o c i k h l q =
      let a = r.back m i in
      let b = r.back o k in
      sym a.2.number
      ∙ R a.0 b.0 c a.1 b.1 (a.2.channels c ∙ h) (b.2.channels c ∙ l) (sym (carry m i c h) ∙ q ∙ carry o k c l)
      ∙ b.2.number

  pub legal_tracks-carry : (meet : ℕ → ℕ → Bool) → Accepted meet ms → LegalTracks board w ns τ → LegalTracks board w ms σ
  legal_tracks-carry meet B R = record { below = range-carries R.below; connected = connected-carries meet B R.connected; whole = whole_carries R.whole; alone = exclusive-carries R.alone }
