-- `net::Record::entry_u16` meets its contract: entry i lies within the record. Assumes nothing.
use native.Mathlib.Omega.{arith}
use Rattle.net.proofs.NetLaws.{entry-within}
use Rattle.net.proofs.Record.entry_u16.Goals as goal

pub overflow_mul-i : goal.overflow_mul-i
overflow_mul-i c = let w = entry-within c.args.self c.args.i c.requires.0 in omega arith

pub overflow_add-self-3 : goal.overflow_add-self-3
overflow_add-self-3 c = let w = entry-within c.args.self c.args.i c.requires.0 in omega arith

pub overflow_add-self-4 : goal.overflow_add-self-4
overflow_add-self-4 c = let w = entry-within c.args.self c.args.i c.requires.0 in omega arith

pub u16_at-requires : goal.u16_at-requires
u16_at-requires c = let w = entry-within c.args.self c.args.i c.requires.0 in omega arith
