-- `opening::open_inputs` meets its contract: a refused sheet gives its number; of an accepted one the list gives it. Assumes nothing.
use Rattle.std.proofs.Common.{◌≡◌, ◌∙◌, ℕ, List, refl, sym, ap}
use Rattle.std.proofs.lemmas.Result.{err_from_is_err_and}
use Rattle.numbers.specs.Numbers.{first_number}
use Rattle.numbers.proofs.NumbersLaws.{first_number-rest}
use Rattle.numbers.proofs.RefusalsLaws.{first_number-refused}
use Rattle.grid.specs.declared.Grid.{Grid}
use Rattle.grid.specs.Grid.{channel_count}
use Rattle.netlist.specs.Netlist.{sheet_conditions, refusal, grid_of, channels_of}
use Rattle.defects.specs.Defects.{list_conditions}
use Rattle.defects.specs.Facts.{list_number}
use Rattle.opening.specs.Opened.{open_conditions}
use Rattle.opening.proofs.open_inputs.Goals as goal

pub returns-in_err-sheet-clause-number : goal.returns-in_err-sheet-clause-number
unfolding refusal
returns-in_err-sheet-clause-number c =
    let s = c.args.s.now in
    let p = err_from_is_err_and c.from_residual.result c.from_residual.ensures.1 in
    rw (p.1, p.2) (first_number-refused (sheet_conditions s) (list_conditions (channels_of s) c.args.d.now) refl _ c.in_err-sheet.ensures.number)

-- the number of a list beside an accepted sheet, for as many channels as its chip has
listed : (s d : List ℕ) {count n : ℕ} → 0 ≡ refusal s → count ≡ channels_of s → n ≡ list_number count d → n ≡ first_number (open_conditions s d)
unfolding refusal list_number
listed s d e f h =
    h
    ∙ ap (λ (k : ℕ). list_number k d) f
    ∙ sym (first_number-rest (sheet_conditions s) (list_conditions (channels_of s) d) refl (sym e))

-- the channels of a sheet's chip
counted : {s t : List ℕ} {g : Grid} {count : ℕ} → count ≡ channel_count g → g ≡ grid_of t → t ≡ s → count ≡ channels_of s
counted e f h = e ∙ ap channel_count (f ∙ ap grid_of h)

pub returns-in_err-dead-clause-number : goal.returns-in_err-dead-clause-number
returns-in_err-dead-clause-number c =
    let a = c.args in
    let p = err_from_is_err_and c.from_residual-in_err-dead.result c.from_residual-in_err-dead.ensures.1 in
    let sheet = c.in_ok-sheet.ensures in
    rw (p.1, p.2) (listed a.s.now a.d.now sheet.number (counted c.channel_count-count.ensures c.chip.ensures sheet.sheet) c.in_err-dead.ensures.number)

pub returns-clause-number : goal.returns-clause-number
returns-clause-number c =
    let a = c.args in
    let sheet = c.in_ok-sheet.ensures in
    listed a.s.now a.d.now sheet.number (counted c.channel_count-count.ensures c.chip.ensures sheet.sheet) c.in_ok-dead.ensures.number
