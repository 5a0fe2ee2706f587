-- `netlist::Netlist::record_part` meets its contract: the directory's entry k and the record that it points to lie within a readable sheet. Assumes nothing.
use mathlib.Core.Path.{◌≡◌, ap, ◌∙◌}
use Prim.Native.Nat.{ℕ, ◌+◌, ◌*◌, ◌≤◌, ◌<◌}
use mathlib.Core.List.{List}
use native.Mathlib.Omega.{arith}
use Rattle.net.specs.Net.{u16_at, count_at, record_length}
use Rattle.netlist.specs.declared.Trailer.{Trailer}
use Rattle.netlist.specs.Facts.{Readable}
use Rattle.netlist.specs.Netlist.{trailer_of, directory_of, number_size_of, offset_of, record_part}
use Rattle.netlist.proofs.NetlistLaws.{readable-fits, readable-trailer, trailer-size}
use Rattle.netlist.proofs.Netlist.record_part.Goals as goal

-- the offset that was read is record k's, and the record ends at the directory at the latest
read : {s : List ℕ} → Readable s → (trailer : Trailer) → trailer ≡ trailer_of s → (k : ℕ) → k < trailer.nets
    → (offset : ℕ) → offset ≡ u16_at s (trailer.directory + 2 * k)
    → (offset ≡ offset_of s k) × (offset + record_length trailer.numbersize 1 ≤ directory_of s)
read {s} r trailer own k low offset is =
    let w = readable-trailer r trailer own in
    let f = readable-fits r k (omega arith) in
    let z = trailer-size s trailer own in
    let o : offset ≡ offset_of s k = is ∙ ap (λ (d : ℕ). u16_at s (d + 2 * k)) w.1 in
    (o, omega arith)

pub count_at-n-requires : goal.count_at-n-requires
count_at-n-requires c =
    let f = read c.args.self.readable _ c.args.self.own c.args.k c.requires _ c.u16_at-offset.ensures.0 in
    let w = readable-trailer c.args.self.readable _ c.args.self.own in
    omega arith

pub returns : goal.returns
unfolding record_part
returns c =
    let s = c.args.self.bytes.now in
    let w = readable-trailer c.args.self.readable _ c.args.self.own in
    let f = readable-fits c.args.self.readable c.args.k (omega arith) in
    let o = (read c.args.self.readable _ c.args.self.own c.args.k c.requires _ c.u16_at-offset.ensures.0).0 in
    let z = trailer-size s _ c.args.self.own in
    let n : c.count_at-n.result ≡ count_at (number_size_of s) s (offset_of s c.args.k) = cc in
    (cc, omega arith)
