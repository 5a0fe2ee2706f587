-- The tables of where each net's entries start and of their channels, net by net (specs/Filled.antt, Planned of specs/Planned.antt).
-- Assumes nothing. FilledTo: a table filled place by place. Listed: no net, one net more, all nets.
use mathlib.Core.Path.{◌≡◌, sym, ap, ◌∙◌}
use Prim.Native.Nat.{ℕ, ◌+◌, ◌≤◌, ◌<◌}
use native.Mathlib.Omega.{arith}
use native.Mathlib.Decide.{dec_lt}
use mathlib.Core.List.{List}
use lib.ListN.{length, get_or, take, set, length-take}
use lib.Seq.{get_or-set_same, get_or-set_other, take-take, get_or-take}
use Rattle.net.specs.Net.{Net, size, channel}
use Rattle.net.specs.Nets.{entry_count, no_net, net_in}
use Rattle.assignment.specs.Assignment.{first_byte}
use Rattle.assignment.proofs.AssignmentLaws.{first_byte-none, first_byte-more, first_byte-le}
use Rattle.planner.specs.Planned.{Planned}
use Rattle.planner.specs.Filled.{ChannelsFrom}

-- ---- FilledTo

-- the table has f i at each place i before k
pub record FilledTo (f : ℕ → ℕ) (table : List ℕ) (k : ℕ) : Type 0 where
  pub at : (i : ℕ) → i < k → get_or table i 0 ≡ f i

module _ {f : ℕ → ℕ} {table : List ℕ} where
  pub filled_none : FilledTo f table 0
  filled_none = record { at = λ i h. absurd (omega arith) }

  pub filled_more : {k x : ℕ} → k < length table → x ≡ f k → FilledTo f table k → FilledTo f (set table k x) (k + 1)
  filled_more {k} {x} l q r = record { at = λ i h. at i h (dec_lt i k) }
    where
      at : (i : ℕ) → i < k + 1 → Dec (i < k) → get_or (set table k x) i 0 ≡ f i
      at i h (yes m) = get_or-set_other table k i x 0 (λ e. omega arith) ∙ r.at i m
      at i h (no m) =
          let e : i ≡ k = omega arith in
          ap (λ (y : ℕ). get_or (set table k x) y 0) e ∙ get_or-set_same table k x 0 l ∙ q ∙ ap f (sym e)

-- ---- Listed

-- the entries of the first k nets of ns are listed: they start where those before them end, and their channels stand from there on
pub record Listed (ns : List Net) (k : ℕ) (start chan : List ℕ) : Type 0 where
  pub starts : (j : ℕ) → j ≤ k → get_or start j 0 ≡ first_byte ns j
  pub chans : (j i : ℕ) → j < k → i < size (net_in ns j) → get_or chan (first_byte ns j + i) 0 ≡ channel (net_in ns j) i

module _ (ns : List Net) where
  -- a net's entries end before those of a later one start
  pub first_byte-before : (j k : ℕ) → j < k → k ≤ length ns → first_byte ns j + size (net_in ns j) ≤ first_byte ns k
  unfolding first_byte
  first_byte-before j k l h =
      let m : j < length (take k ns) = omega (arith, length-take k ns) in
      omega (
        arith,
        first_byte-le (take k ns) j m,
        ap entry_count (take-take j k ns (omega arith)),
        ap size (get_or-take k ns j no_net l),
      )

  pub listed-none : (start chan : List ℕ) → get_or start 0 0 ≡ 0 → Listed ns 0 start chan
  listed-none start chan e = record {
    starts = λ j h. let q : j ≡ 0 = omega arith in ap (λ (x : ℕ). get_or start x 0) q ∙ e ∙ sym (first_byte-none ns) ∙ ap (first_byte ns) (sym q);
    chans = λ j i h l. absurd (omega arith);
  }

  module _ (k : ℕ) (h : k < length ns) where
    pub listed_more : (start before after : List ℕ) (e : ℕ) → k + 1 < length start → e ≡ first_byte ns (k + 1) → Listed ns k start before
        → ChannelsFrom (net_in ns k) (size (net_in ns k)) (first_byte ns k) before after → Listed ns (k + 1) (set start (k + 1) e) after
    listed_more start before after e l q f g = record {
      starts = λ j m. start_at j m (dec_lt k j);
      chans = λ j i m o. chan_at j i m o (dec_lt j k);
    }
      where
        start_at : (j : ℕ) → j ≤ k + 1 → Dec (k < j) → get_or (set start (k + 1) e) j 0 ≡ first_byte ns j
        start_at j m (yes o) =
            let z : j ≡ k + 1 = omega arith in
            ap (λ (x : ℕ). get_or (set start (k + 1) e) x 0) z ∙ get_or-set_same start (k + 1) e 0 l ∙ q ∙ ap (first_byte ns) (sym z)
        start_at j m (no o) = get_or-set_other start (k + 1) j e 0 (λ z. omega arith) ∙ f.starts j (omega arith)

        chan_at : (j i : ℕ) → j < k + 1 → i < size (net_in ns j) → Dec (j < k) → get_or after (first_byte ns j + i) 0 ≡ channel (net_in ns j) i
        chan_at j i m o (yes b) = g.kept (first_byte ns j + i) (omega (arith, first_byte-before j k b (omega arith))) ∙ f.chans j i b o
        chan_at j i m o (no b) =
            let z : j ≡ k = omega arith in
            let s = ap (λ (x : ℕ). size (net_in ns x)) z in
            ap (λ (x : ℕ). get_or after (first_byte ns x + i) 0) z ∙ g.chans i (omega arith) ∙ ap (λ (x : ℕ). channel (net_in ns x) i) (sym z)

  pub listed-all : (start chan : List ℕ) → Listed ns (length ns) start chan → Planned ns start chan
  listed-all start chan f = record {
    started = record {
      first = f.starts 0 (omega arith) ∙ first_byte-none ns;
      sizes = λ k h. omega (arith, f.starts (k + 1) (omega arith), f.starts k (omega arith), first_byte-more ns k h);
    };
    chans = λ k i h l. ap (λ (x : ℕ). get_or chan (x + i) 0) (f.starts k (omega arith)) ∙ f.chans k i h l;
  }
