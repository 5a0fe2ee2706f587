-- `standard::write_form` meets its contract: the records, the directory and the kept rows and trailer fill the part. Assumes nothing.
use mathlib.Core.Path.{ap₂, ◌∙◌}
use Prim.Native.Nat.{ℕ, ◌+◌, ◌*◌, ◌-◌, ◌≤◌}
use native.Mathlib.Omega.{arith}
use lib.ListN.{length, drop, length-drop}
use lib.Seq.{take_all}
use Rattle.netlist.specs.declared.Sheet.{Sheet}
use Rattle.netlist.specs.Netlist.{max_nets}
use Rattle.netlist.proofs.NetlistLaws.{trailer-fields, readable-trailer}
use Rattle.standard.proofs.PassLaws.{form-bytes}
use Rattle.standard.proofs.write_form.Goals as goal

-- the directory ends where the sheet does, or before
sums : (sheet : Sheet) → (sheet.netlist.trailer.directory + 2 * sheet.netlist.trailer.nets ≤ length sheet.netlist.bytes.now) × (sheet.netlist.trailer.nets ≤ max_nets)
sums sheet = let r = readable-trailer sheet.netlist.readable sheet.netlist.trailer sheet.netlist.own in (omega (arith, r.2), omega (arith, r.3))

pub overflow_mul-size : goal.overflow_mul-size
overflow_mul-size c = let z = sums c.args.sheet in omega arith

pub split_at_mut-records-requires : goal.split_at_mut-records-requires
split_at_mut-records-requires c = let z = sums c.args.sheet in omega arith

pub split_at_mut-directory-requires : goal.split_at_mut-directory-requires
split_at_mut-directory-requires c = let z = sums c.args.sheet in omega (arith, c.split_at_mut-records.ensures.back_len)

pub returns : goal.returns
returns c =
    let s = c.args.sheet.netlist.bytes.now in
    let t = c.args.sheet.netlist.trailer in
    let z = sums c.args.sheet in
    let f = trailer-fields s t c.args.sheet.netlist.own in
    let rest = t.directory + 2 * t.nets in
    let k = take_all (length s - rest) (drop rest s) (omega (arith, length-drop rest s)) in
    let q = ap₂ (λ (a b : ℕ). drop (a + 2 * b) s) f.1 f.0 in
    form-bytes s c.args.sheet.accepted c.requires.bytes t.nets f.0 _ _ _ c.write_nets.ensures.records c.write_nets.ensures.offsets
    (c.copy.ensures ∙ k ∙ q)
