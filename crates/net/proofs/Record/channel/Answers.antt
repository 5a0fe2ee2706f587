-- `net::Record::channel` meets its contract: the channel of entry i stands at its place, by `net_of-channel`. Assumes nothing.
use native.Mathlib.Omega.{arith}
use mathlib.Core.Path.{sym, ap, ◌∙◌}
use Rattle.net.specs.Net.{u16_at}
use Rattle.net.proofs.NetLaws.{net_of-channel, net_of-size}
use Rattle.net.proofs.Record.channel.Goals as goal

pub returns : goal.returns
returns c =
    let z = c.args.self.z in let r = c.args.self.bytes.now in let e = net_of-size z r in
    (c.entry_u16.ensures.0 ∙ ap (u16_at r) (omega arith) ∙ sym (net_of-channel z r c.args.i (omega arith)), c.entry_u16.ensures.1)
