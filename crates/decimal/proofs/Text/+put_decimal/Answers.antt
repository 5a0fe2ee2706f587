-- `decimal::Text::put_decimal` meets its contract: a number of one digit is that digit, and any other is its tenth's digits and one behind them.
-- Assumes nothing.
use Rattle.std.proofs.Common.{arith}
use Rattle.decimal.proofs.DecimalLaws.{digits-small, digits-large, digits-tenth}
use Rattle.decimal.proofs.PutLaws.{room_after, appended_then}
use Rattle.decimal.proofs.Text.+put_decimal.Goals as goal

pub put_byte-requires : goal.put_byte-requires
put_byte-requires t c = rw (digits-small _ c.if-x-lt10.true) at c.requires

pub returns-then-x-lt10 : goal.returns-then-x-lt10
returns-then-x-lt10 t c = rw (digits-small _ c.if-x-lt10.true) c.put_byte.ensures

pub put_decimal-requires : goal.put_decimal-requires
put_decimal-requires t c = let z = digits-tenth c.args.x c.if-x-lt10.false in (omega arith, record { fits = omega arith })

pub put_byte-requires-else-x-lt10 : goal.put_byte-requires-else-x-lt10
put_byte-requires-else-x-lt10 t c = room_after _ c.put_decimal.ensures (rw (digits-large _ c.if-x-lt10.false) at c.requires)

pub returns-else-x-lt10 : goal.returns-else-x-lt10
returns-else-x-lt10 t c =
    rw (digits-large _ c.if-x-lt10.false)
    (appended_then (rw (digits-large _ c.if-x-lt10.false) at c.requires) c.put_decimal.ensures c.put_byte-else-x-lt10.ensures)
