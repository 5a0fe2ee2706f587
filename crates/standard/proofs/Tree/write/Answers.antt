-- `standard::Tree::write` meets its contract: the entries fill what stands behind the head. Assumes nothing.
use native.Mathlib.Omega.{arith}
use Rattle.net.proofs.NetLaws.{net_of-size}
use Rattle.standard.proofs.Tree.write.Goals as goal

pub write_entries-requires : goal.write_entries-requires
write_entries-requires c =
    let r = c.args.self.record in
    omega (arith, c.split_at_mut-front.ensures.back_len, r.whole.whole, net_of-size r.z r.bytes.now)
