-- `removal::is_unknown` meets its contract: every net has another number. Assumes nothing.
use Rattle.std.proofs.Common.{rules, tests, sym, ap, ◌∙◌, ℕ, not, refl}
use lib.Dec.{eqb}
use Rattle.bounded.specs.Bounded.{every}
use Rattle.bounded.proofs.Listed.{every_from_all}
use Rattle.netlist.specs.Netlist.{net_at}
use Rattle.netlist.proofs.NetlistLaws.{readable-trailer}
use Rattle.routing.proofs.RemoveLaws.{unknown_net-sheet}
use Rattle.removal.proofs.is_unknown.Goals as goal

pub returns : goal.returns
returns c =
    let x = c.args.x in
    let s = c.args.sheet.netlist in
    let differs = λ (k : ℕ). not (eqb (net_at s.bytes.now k).number x) in
    every_from_all s.trailer.nets differs c.all.ensures.ran refl (λ k b q h. search (rules, tests))
    ∙ ap (λ (n : ℕ). every n differs) (readable-trailer s.readable s.trailer s.own).0
    ∙ sym (unknown_net-sheet s.bytes.now x)
