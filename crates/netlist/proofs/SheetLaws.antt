-- What an accepted sheet says of its nets and its grid: from the bytes to what the laws of nets ask for. Assumes nothing.
-- well_formed-accepted: its nets are accepted. well_formed-connects: its boxes connect tracks both ways, at every width.
-- well_formed-width: W is 1 to 32. well_formed-channel: every channel is one of the grid's.
use mathlib.Core.Path.{◌≡◌, sym, subst, ap, ◌∙◌}
use Prim.Native.Nat.{ℕ, suc, ◌≤◌, ◌<◌}
use native.Mathlib.Omega.{arith}
use mathlib.Core.List.{List, [], ◌∷◌}
use mathlib.Core.Bool.{true}
use lib.ListN.{length}
use borrow.Author.Tests.{ltb-true}
use Rattle.bounded.proofs.BoundedLaws.{every-at}
use Rattle.grid.specs.Grid.{meet}
use Rattle.switchbox.proofs.SwitchBoxLaws.{fabric-connects}
use Rattle.switchbox.specs.Facts.{Connects}
use Rattle.net.specs.declared.Test.TheVariants.{Channels, Repeats, Edges}
use Rattle.net.specs.Net.{Net, size, channel, has, channels_known, entry_of}
use Rattle.net.specs.Facts.{passes, AcceptedNet, Apart, Accepted}
use Rattle.net.specs.Nets.{no_net, net_in, In}
use Rattle.net.proofs.NetLaws.{net_of-size, has-entry, net-accepted}
use Rattle.net.proofs.NetsLaws.{in_place}
use Rattle.netlist.specs.Netlist.{WellFormed, grid_of, width_of, number_size_of, net_count, net_at, nets, record_bytes, duplicate_net, connected_on, channels_of}
use Rattle.netlist.proofs.NetlistLaws.{nets-length, nets-at, record-whole, readable-allowed, readable-width, well_formed-readable, well_formed-passes, well_formed-names}

-- numbers that differ at every two indices
places-apart : (ns : List Net) → ((i j : ℕ) → i < length ns → j < length ns → (net_in ns i).number ≡ (net_in ns j).number → i ≡ j) → Apart ns
places-apart [] h = tt
places-apart (n ∷ ns) h = (
  (λ m i e.
      let a = in_place ns m i in
      let z = h 0 (suc a.0) (omega arith) (omega arith) (e ∙ ap (λ (x : Net). x.number) (sym a.2)) in
      omega arith),
  places-apart ns (λ i j a b e. let q = h (suc i) (suc j) (omega arith) (omega arith) e in omega arith),
)

module _ (s : List ℕ) (a : WellFormed s) where
  -- what holds of the net of each record holds of each net
  each-net : (Q : Net → Type 0) → ((k : ℕ) → k < net_count s → Q (net_at s k)) → (n : Net) → In n (nets s) → Q n
  each-net Q f n i =
      let p = in_place (nets s) n i in
      let l : p.0 < net_count s = omega (arith, nets-length s) in
      subst Q (sym (nets-at s p.0 no_net l) ∙ p.2) (f p.0 l)

  net-filled : (k : ℕ) → k < net_count s → 0 < size (net_at s k)
  net-filled k l = let w = record-whole (well_formed-readable s a) k l in omega (arith, net_of-size (number_size_of s) (record_bytes s k), w.filled)

  good-at : (k : ℕ) → k < net_count s → AcceptedNet (meet (grid_of s)) (net_at s k)
  unfolding passes
  good-at k l = net-accepted (grid_of s) (net_at s k) (net-filled k l) (well_formed-passes s a Repeats k l) (well_formed-passes s a Edges k l)

  numbers_apart : Apart (nets s)
  unfolding duplicate_net
  numbers_apart = places-apart (nets s) (λ i j l m e.
      let k : i < net_count s = omega (arith, nets-length s) in
      let o : j < net_count s = omega (arith, nets-length s) in
      well_formed-names s a i j k o
      (ap (λ (x : Net). x.number) (sym (nets-at s i no_net k)) ∙ e ∙ ap (λ (x : Net). x.number) (nets-at s j no_net o)))

  pub well_formed-accepted : Accepted (meet (grid_of s)) (nets s)
  well_formed-accepted = record { each = each-net (AcceptedNet (meet (grid_of s))) good-at; apart = numbers_apart }

  pub well_formed-connects : (w : ℕ) → Connects w (meet (grid_of s)) (connected_on s w)
  well_formed-connects = fabric-connects (readable-allowed (well_formed-readable s a))

  pub well_formed-width : (1 ≤ width_of s) × (width_of s ≤ 32)
  well_formed-width = readable-width (well_formed-readable s a)

  known : (k : ℕ) → k < net_count s → (i : ℕ) → i < size (net_at s k) → channel (net_at s k) i < channels_of s
  unfolding passes channels_known
  known k l i h = ltb-true _ _ (every-at (size (net_at s k)) _ (well_formed-passes s a Channels k l) i h)

  -- number 6 leaves no other channel
  pub well_formed-channel : (n : Net) → In n (nets s) → (c : ℕ) → has n c ≡ true → c < channels_of s
  well_formed-channel = each-net (λ n. (c : ℕ) → has n c ≡ true → c < channels_of s) (λ k l c h.
      let e = has-entry (net_at s k) c h in
      subst (λ (x : ℕ). x < channels_of s) e.1 (known k l (entry_of (net_at s k) c) e.0))
