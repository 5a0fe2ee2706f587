-- `lines::least_text` meets its contract: the first line, and on success the lines of the nets behind it. Least's list and old ticket are a part of the
-- sheet that has no bytes. Assumes nothing.
use mathlib.Core.Path.{◌≡◌, refl, sym, ap, ap₂, ◌∙◌}
use mathlib.Core.Logic.{◌≢◌}
use Prim.Native.Nat.{ℕ, ◌-◌, ◌≤◌}
use native.Mathlib.Omega.{arith}
use mathlib.Core.List.{List, ◌++◌}
use lib.ListN.{length, take}
use Rattle.netlist.specs.Netlist.{WellFormed, nets}
use Rattle.netlist.proofs.NetlistLaws.{well_formed-readable, readable-length}
use Rattle.routing.specs.declared.Answer.{Answer}
use Rattle.routing.specs.Outcomes.{least, output_of}
use Rattle.lines.specs.Lines.{answer_line, net_lines, least_inputs, least_text, text_max}
use Rattle.lines.proofs.LengthLaws.{Bytes, least_answer, least-accepted, answer_le, least_text-refused, least_text-found, least_ticket-part, least_text-le}
use Rattle.decimal.specs.declared.Text.{Text}
use Rattle.decimal.specs.Facts.{Room}
use Rattle.decimal.proofs.PutLaws.{room_after, appended_then}
use Rattle.net.specs.Nets.{entry_count}
use Rattle.lines.proofs.least_text.Goals as goal

-- a sheet whose answer is 0 is accepted, and has the lines of its nets behind the first
module _ (s : List ℕ) (a : Answer) (own : a ≡ least_answer s) (z : a.number ≡ 0) where
  found : (least_answer s).number ≡ 0
  found = ap (λ (a : Answer). a.number) (sym own) ∙ z

  accepted : WellFormed s × (entry_count (nets s) ≤ 2048)
  accepted = least-accepted s found

  lines : (out : List ℕ) → out ≡ output_of least (least_inputs s) → (total : ℕ) → total ≡ entry_count (nets s)
      → least_text s ≡ answer_line a ++ net_lines (nets s) (take (total - 0) out)
  lines out o total e =
      least_text-found s found
      ∙ ap₂ (λ (a : Answer) (b : List ℕ). answer_line a ++ net_lines (nets s) b) (sym own) (sym (least_ticket-part s total out e o))

-- there is room for the whole text
room_for_all : (s : List ℕ) → Bytes s → {b : List ℕ} → least_text s ≡ b → {t : Text} → t.len ≡ 0 → text_max ≤ length t.out.now → Room b t
room_for_all s bytes e z l = record { fits = omega (arith, ap length e, least_text-le s bytes) }

pub put_answer-requires : goal.put_answer-requires
put_answer-requires c =
    let s = c.args.s.now in
    record { fits = omega (arith, answer_le s, ap (λ (a : Answer). length (answer_line a)) c.answer-a.ensures.0) }

pub returns-then-a-ne0 : goal.returns-then-a-ne0
returns-then-a-ne0 c =
    let s = c.args.s.now in
    let e = c.answer-a.ensures.0 in
    let n : (least_answer s).number ≢ 0 = λ z. c.if-a-ne0.true (ap (λ (a : Answer). a.number) e ∙ z) in
    rw (least_text-refused s n, ← e) c.put_answer.ensures.put

pub read_trailer-trailer-requires : goal.read_trailer-trailer-requires
read_trailer-trailer-requires c =
    (readable-length (well_formed-readable _ (accepted c.args.s.now _ c.answer-a.ensures.0 c.if-a-ne0.false).0)).0

pub invariant_of-sheet : goal.invariant_of-sheet
invariant_of-sheet c = record {
  readable = well_formed-readable _ (accepted c.args.s.now _ c.answer-a.ensures.0 c.if-a-ne0.false).0;
  own = c.read_trailer-trailer.ensures.0;
}

pub invariant_of-sheet-2 : goal.invariant_of-sheet-2
invariant_of-sheet-2 c = record { accepted = (accepted c.args.s.now _ c.answer-a.ensures.0 c.if-a-ne0.false).0 }

pub put_nets-requires-clause-room : goal.put_nets-requires-clause-room
put_nets-requires-clause-room c =
    let s = c.args.s.now in
    let t = c.entry_total-total in
    let e = lines s _ c.answer-a.ensures.0 c.if-a-ne0.false _ c.answer-a.ensures.1 t.result t.ensures.0 in
    room_after _ c.put_answer.ensures (room_for_all s (λ k. omega (arith, c.type_inv.s k)) e refl (omega arith))

pub returns : goal.returns
returns c =
    let s = c.args.s.now in
    let t = c.entry_total-total in
    let e = lines s _ c.answer-a.ensures.0 c.if-a-ne0.false _ c.answer-a.ensures.1 t.result t.ensures.0 in
    rw e
    (appended_then (room_for_all s (λ k. omega (arith, c.type_inv.s k)) e refl (omega arith)) c.put_answer.ensures c.put_nets.ensures).put
