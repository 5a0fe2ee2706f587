-- `net::Record::number` meets its contract: the net number stands first in the record, by `net_of-number`, with 4 bytes or with 2. Assumes nothing.
use mathlib.Core.Path.{◌≡◌}
use mathlib.Core.Logic.{◌⊎◌, inl, inr}
use Prim.Native.Nat.{ℕ}
use native.Mathlib.Omega.{arith}
use Rattle.net.proofs.NetLaws.{net_of-number, number_in-long, number_in-short}
use Rattle.net.proofs.Record.number.Goals as goal

pub returns-then-self-eq-LONG_NUMBER : goal.returns-then-self-eq-LONG_NUMBER
returns-then-self-eq-LONG_NUMBER c =
    let z = c.args.self.z in
    let r = c.args.self.bytes.now in
    let e = number_in-long z r c.if-self-eq-LONG_NUMBER.true in
    (omega (arith, net_of-number z r), omega arith)

-- a net number that does not have 4 bytes has 2
two : {z : ℕ} → (z ≡ 2) ⊎ (z ≡ 4) → (z ≡ 4 → ⊥) → z ≡ 2
two (inl e) n = e
two (inr e) n = absurd (n e)

pub returns : goal.returns
returns c =
    let z = c.args.self.z in
    let r = c.args.self.bytes.now in
    let e = number_in-short z r (two c.args.self.whole.marked c.if-self-eq-LONG_NUMBER.false) in
    (omega (arith, net_of-number z r), omega arith)
