-- What the laws say of nets beside the paper's definitions: a net whose tests pass, accepted and relisted lists of nets, and legal tracks by
-- net number and channel. Definitions only. Assumes nothing.
use Rattle.std.specs.Prelude.{◌≡◌, ℕ, ◌<◌, List, true, false, length}
use Rattle.grid.specs.Grid.{wire}
use Rattle.net.specs.Net.{Net, has, edge}
use Rattle.net.specs.Nets.{entry_count, In}
use Rattle.assignment.specs.Board.{Board}
use Rattle.netsearch.specs.HomeTrack.{byte_of}

-- tracks of a net, by channel, that are connected at every edge
abbrev pub EdgesConnected : (ℕ → ℕ → ℕ → ℕ) → Net → (ℕ → ℕ) → Type 0
EdgesConnected partner n τ = (c d : ℕ) → edge n c d ≡ true → τ d ≡ partner c d (τ c)

-- `τ x c` is the track of the net number x on the channel c: below w, connected at every edge, on no broken wire, no wire held by two nets
module _ (board : Board) (w : ℕ) (ns : List Net) where
  abbrev pub InRange : (ℕ → ℕ → ℕ) → Type 0
  InRange τ = (n : Net) (c : ℕ) → In n ns → has n c ≡ true → τ n.number c < w

  abbrev pub AllConnected : (ℕ → ℕ → ℕ) → Type 0
  AllConnected τ = (n : Net) → In n ns → EdgesConnected (board.partner w) n (τ n.number)

  abbrev pub WiresWhole : (ℕ → ℕ → ℕ) → Type 0
  WiresWhole τ = (n : Net) (c : ℕ) → In n ns → has n c ≡ true → board.broken (wire c (τ n.number c)) ≡ false

  abbrev pub WiresExclusive : (ℕ → ℕ → ℕ) → Type 0
  WiresExclusive τ =
      (n m : Net) (c : ℕ) → In n ns → In m ns → has n c ≡ true → has m c ≡ true → τ n.number c ≡ τ m.number c → n.number ≡ m.number

  pub record LegalTracks (τ : ℕ → ℕ → ℕ) : Type 0 where
    pub below : InRange τ
    pub connected : AllConnected τ
    pub whole : WiresWhole τ
    pub alone : WiresExclusive τ

  -- one byte per entry, and legal
  pub record LegalBytes (b : List ℕ) : Type 0 where
    pub whole : length b ≡ entry_count ns
    pub tracks : LegalTracks (byte_of ns b)
