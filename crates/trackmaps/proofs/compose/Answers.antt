-- `trackmaps::compose` meets its contract: the track map after the track map b is one track map, by `mapped-after-plus` and `mapped-after-minus`.
-- Assumes nothing.
use native.Mathlib.Omega.{arith}
use native.Mathlib.Nat.{mod-lt}
use Rattle.trackmaps.proofs.MappedLaws.{mapped-after-plus, mapped-after-minus}
use Rattle.std.proofs.Common.{rules}
use Rattle.trackmaps.proofs.compose.Goals as goal

pub returns-then-a-eq0 : goal.returns-then-a-eq0
returns-then-a-eq0 c =
    let a = c.args in
    record {
      sign = search rules;
      low = mod-lt _ (omega arith);
      same = λ t h. mapped-after-plus a.w a.a.minus a.a.shift a.b.minus a.b.shift t c.if-a-eq0.true;
    }

pub returns-else-a-eq0 : goal.returns-else-a-eq0
returns-else-a-eq0 c =
    let a = c.args in
    let p = c.requires in
    record {
      sign = search rules;
      low = mod-lt _ (omega arith);
      same = λ t h. mapped-after-minus a.w a.a.minus a.a.shift a.b.minus a.b.shift t c.if-a-eq0.false p.1.sign p.1.low h;
    }
