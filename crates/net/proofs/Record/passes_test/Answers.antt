-- `net::Record::passes_test` meets its contract: `every_from_all`. Assumes nothing.
use Rattle.std.proofs.Common.{rules, tests, sym, ap, ◌∙◌}
use Rattle.bounded.proofs.Listed.{every_from_all}
use Rattle.net.specs.Net.{net_of, size}
use Rattle.net.specs.Facts.{passes_at}
use Rattle.net.proofs.NetLaws.{passes-every}
use Rattle.net.proofs.Record.passes_test.Goals as goal

pub returns : goal.returns
returns c =
    let n = net_of c.args.self.z c.args.self.bytes.now in
    every_from_all (size n) (passes_at c.args.chip.grid c.args.test n) c.all.ensures.ran (ap (λ e. record { start = 0; end = e }) c.entry_count.ensures.0) (λ x b q k. search (rules, tests)) ∙ sym (passes-every _ _ _)
