-- `standard::Tree::next_entry` meets its contract: the chain gives the entry with the lowest channel of those that may follow. Assumes nothing.
use Rattle.std.proofs.Common.{◌≡◌, refl, arith, rules, tests}
use Rattle.std.proofs.lemmas.Iterator.{YieldsList-from_range}
use Rattle.std.proofs.lemmas.Iterator.Consumers.{YieldsList-at, YieldsList-from_filter}
use Rattle.net.specs.Net.{channel}
use Rattle.net.specs.Read.{net_read}
use Rattle.standard.proofs.LeastLaws.{least-passing}
use Rattle.standard.proofs.GrowthLaws.{may, chain-next}
use Rattle.standard.proofs.Tree.next_entry.Goals as goal

pub unwrap-requires : goal.unwrap-requires
unwrap-requires c =
    let a = c.args in
    let n = c.entry_count.result in
    let r =
    least-passing c.min_by_key.result c.min_by_key.ensures.runs (may a.k a.marks.now) n
    (YieldsList-from_filter _ _ (YieldsList-at c.filter.ensures.source (YieldsList-from_range 0 n n refl (search rules))) c.filter.ensures.closure
    (λ x b q k. search (rules, tests)))
    (channel (net_read a.self.record)) (λ x y z k. search (rules, tests)) (λ x j h k. search (rules, tests)) in
    let m = chain-next (net_read a.self.record) a.self.tree (omega arith) a.k c.requires.0 a.marks.now c.requires.1 n c.entry_count.ensures.0 c.min_by_key.result r in
    rw m.1

pub returns : goal.returns
returns c =
    let a = c.args in
    let n = c.entry_count.result in
    let r =
    least-passing c.min_by_key.result c.min_by_key.ensures.runs (may a.k a.marks.now) n
    (YieldsList-from_filter _ _ (YieldsList-at c.filter.ensures.source (YieldsList-from_range 0 n n refl (search rules))) c.filter.ensures.closure
    (λ x b q k. search (rules, tests)))
    (channel (net_read a.self.record)) (λ x y z k. search (rules, tests)) (λ x j h k. search (rules, tests)) in
    let m = chain-next (net_read a.self.record) a.self.tree (omega arith) a.k c.requires.0 a.marks.now c.requires.1 n c.entry_count.ensures.0 c.min_by_key.result r in
    let q : m.0 ≡ c.unwrap.result = cc (m.1, c.unwrap.ensures) in
    rw q at m.2
