-- `net::Record::parent_right` meets its contract: each return is one case of `parent_right`. Assumes nothing.
use mathlib.Core.Path.{sym, ap, ap₂, ◌∙◌}
use Prim.Native.Nat.{ℕ, ◌<◌}
use native.Mathlib.Omega.{arith}
use lib.Dec.{eqb}
use borrow.Author.Tests.{le-ltb}
use Rattle.grid.specs.Grid.{meet}
use Rattle.net.specs.Net.{net_of, channel, no_parent}
use Rattle.net.proofs.NetLaws.{parent_right-first, parent_right-late, parent_right-earlier}
use Rattle.net.proofs.Record.parent_right.Goals as goal

pub returns-then-i-eq0 : goal.returns-then-i-eq0
returns-then-i-eq0 c =
    ap (λ (p : ℕ). eqb p no_parent) c.parent-p.ensures.0
    ∙ sym (parent_right-first c.args.chip.grid (net_of c.args.self.z c.args.self.bytes.now) c.args.i c.if-i-eq0.true)

pub returns-then-p-i : goal.returns-then-p-i
returns-then-p-i c =
    let n = net_of c.args.self.z c.args.self.bytes.now in
    let later : 0 < c.args.i = omega (arith, c.if-i-eq0.false) in
    c.meets.ensures
    ∙ ap₂
    (meet c.args.chip.grid)
    (c.channel.ensures.0 ∙ ap (λ (p : ℕ). channel n p) c.parent-p.ensures.0)
    c.channel-then-p-i.ensures.0
    ∙ sym (parent_right-earlier c.args.chip.grid n c.args.i later (omega arith))

pub returns-else-p-i : goal.returns-else-p-i
returns-else-p-i c =
    let later : 0 < c.args.i = omega (arith, c.if-i-eq0.false) in
    le-ltb c.parent-p.result c.args.i (omega (arith, c.if-p-i.false)) ∙ sym (parent_right-late c.args.chip.grid (net_of c.args.self.z c.args.self.bytes.now) c.args.i later (omega (arith, c.if-p-i.false)))
