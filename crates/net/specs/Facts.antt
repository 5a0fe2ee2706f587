-- What the code's contracts and the laws say of one net beside the paper's definitions. Definitions only; laws: proofs/NetLaws.antt.
-- Assumes nothing.
use Rattle.std.specs.Prelude.{◌≡◌, ◌⊎◌, ℕ, ◌≤◌, ◌<◌, List, [], ◌∷◌, Bool, true, not, ltb, eqb, length, ◌≢◌}
use Rattle.bounded.specs.Bounded.{every}
use Rattle.grid.specs.declared.Grid.{Grid}
use Rattle.grid.specs.Grid.{channel_count}
use Rattle.net.specs.declared.Test.{Test}
use Rattle.net.specs.declared.Test.TheVariants.{Channels, Repeats, Edges}
use Rattle.net.specs.Net.{Net, max_entries, count_at, record_length, channels_known, channels_differ, parents_right, size, channel, parent, has, edge, parent_right}
use Rattle.net.specs.Nets.{In}

-- a list of bytes as long as its entry count says, with a net number of z bytes, 2 or 4
pub record WholeRecord (z : ℕ) (r : List ℕ) : Type 0 where
  pub marked : (z ≡ 2) ⊎ (z ≡ 4)
  pub sized : z ≤ 4
  pub whole : length r ≡ record_length z (count_at z r 0)
  pub filled : 1 ≤ count_at z r 0
  pub short : count_at z r 0 ≤ max_entries

-- the test of entry i of one net that a `Test` names
unfoldable pub passes_at : Grid → Test → Net → ℕ → Bool
unfolding every parent_right
passes_at g Channels n i = ltb (channel n i) (channel_count g)
passes_at g Repeats n i = every i (λ j. not (eqb (channel n i) (channel n j)))
passes_at g Edges n i = parent_right g n i

-- and the test of all entries
unfoldable pub passes : Grid → Test → Net → Bool
unfolding channels_known channels_differ parents_right
passes g Channels n = channels_known g n
passes g Repeats n = channels_differ n
passes g Edges n = parents_right g n

-- two nets with the same number, channels and edges
pub record SameNet (n m : Net) : Type 0 where
  pub number : n.number ≡ m.number
  pub channels : (c : ℕ) → has n c ≡ has m c
  pub edges : (c d : ℕ) → edge n c d ≡ edge m c d

-- what the tests of a net say of it, where `meet c d` says that two channels meet
pub record AcceptedNet (meet : ℕ → ℕ → Bool) (n : Net) : Type 0 where
  pub filled : 0 < size n
  pub earlier : (i : ℕ) → 0 < i → i < size n → parent n i < i
  pub meets : (i : ℕ) → 0 < i → i < size n → meet (channel n (parent n i)) (channel n i) ≡ true
  pub once : (i j : ℕ) → i < size n → j < size n → channel n i ≡ channel n j → i ≡ j

-- no two nets have one number
abbrev pub Apart : List Net → Type 0
Apart [] = Unit {0}
Apart (n ∷ ns) = ((m : Net) → In m ns → n.number ≢ m.number) × Apart ns

-- what an accepted sheet says of its nets
pub record Accepted (meet : ℕ → ℕ → Bool) (ns : List Net) : Type 0 where
  pub each : (n : Net) → In n ns → AcceptedNet meet n
  pub apart : Apart ns

-- each net of either list has the same net in the other
pub record Relisted (ns ms : List Net) : Type 0 where
  pub there : (n : Net) → In n ns → (m : Net) × In m ms × SameNet n m
  pub back : (m : Net) → In m ms → (n : Net) × In n ns × SameNet n m
