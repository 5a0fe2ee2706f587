-- `standard::write_standard` meets its contract: a refusal writes nothing; else the sheet is accepted, and there is room for its standard form.
-- Assumes nothing.
use mathlib.Core.Path.{◌≡◌, sym, ap, ◌∙◌}
use mathlib.Core.List.{List}
use Prim.Native.Nat.{ℕ}
use native.Mathlib.Omega.{arith}
use lib.ListN.{length}
use lib.Seq.{length-take-le}
use Rattle.std.proofs.lemmas.Result.{err_from_is_err_and}
use Rattle.numbers.specs.declared.Refusal.{Refusal}
use Rattle.numbers.specs.Facts.{no_of}
use Rattle.numbers.proofs.RefusalsLaws.{no_of-positive}
use Rattle.netlist.specs.Netlist.{refusal}
use Rattle.routing.specs.Outcomes.{overwrite}
use Rattle.canonical.specs.Canonical.{canonical_form}
use Rattle.canonical.specs.Standard.{standard_number, standard_output}
use Rattle.canonical.proofs.StandardTheorems.{standard_number-refused, room-standard, short-standard, standard_output-zero, standard_output-refused}
use Rattle.standard.proofs.PartLaws.{front-written}
use Rattle.standard.proofs.write_standard.Goals as goal

-- a sheet that is refused
module _ (s out : List ℕ) (e : Refusal) (q : no_of e ≡ refusal s) where
  refuses : no_of e ≡ standard_number s out
  refuses = q ∙ sym (standard_number-refused s out (λ z. no_of-positive e (q ∙ z)))

  keeps : out ≡ standard_output s out
  keeps = sym (standard_output-refused s out (λ z. no_of-positive e (refuses ∙ z)))

pub returns-in_err-sheet-clause-number : goal.returns-in_err-sheet-clause-number
returns-in_err-sheet-clause-number c =
    let p = err_from_is_err_and c.from_residual.result c.from_residual.ensures.1 in
    rw (p.1, p.2) (refuses c.args.s.now c.args.out.now _ c.in_err-sheet.ensures.number)

pub returns-in_err-sheet-clause-output : goal.returns-in_err-sheet-clause-output
returns-in_err-sheet-clause-output c = keeps c.args.s.now c.args.out.now _ c.in_err-sheet.ensures.number

pub returns-then-out-len-clause-number : goal.returns-then-out-len-clause-number
returns-then-out-len-clause-number c =
    sym (short-standard c.args.s.now c.args.out.now (sym c.in_ok-sheet.ensures.number) c.if-out-len.true)

pub returns-then-out-len-clause-output : goal.returns-then-out-len-clause-output
returns-then-out-len-clause-output c =
    let z = short-standard c.args.s.now c.args.out.now (sym c.in_ok-sheet.ensures.number) c.if-out-len.true in
    sym (standard_output-refused c.args.s.now c.args.out.now (λ e. omega arith))

pub write_form-requires : goal.write_form-requires
write_form-requires c =
    rw c.in_ok-sheet.ensures.sheet
    record { bytes = λ k. omega (arith, c.type_inv.s k); part = length-take-le (length c.args.s.now) c.args.out.now (omega arith) }

pub returns-clause-number : goal.returns-clause-number
returns-clause-number c = sym (room-standard c.args.s.now c.args.out.now (sym c.in_ok-sheet.ensures.number) c.if-out-len.false)

pub returns-clause-output : goal.returns-clause-output
returns-clause-output c =
    let s = c.args.s.now in
    let out = c.args.out.now in
    let w = c.write_form in
    let z = room-standard s out (sym c.in_ok-sheet.ensures.number) c.if-out-len.false in
    let l : length w.new.part ≡ length s = w.auto.part ∙ length-take-le (length s) out (omega arith) in
    front-written w.new.part out (length s) l
    ∙ ap (λ (b : List ℕ). overwrite b out) (w.ensures ∙ ap canonical_form c.in_ok-sheet.ensures.sheet)
    ∙ sym (standard_output-zero s out z)
