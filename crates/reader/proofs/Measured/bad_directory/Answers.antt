-- `reader::Measured::bad_directory` meets its contract: the loop's invariant is that the records passed fit, and that `at` is where the next one starts.
-- A pass that leaves shows a record that does not fit. Assumes nothing.
use mathlib.Core.Path.{◌≡◌, ap, sym, ◌∙◌}
use mathlib.Core.Bool.{true, true≢false}
use mathlib.Core.List.{List}
use Prim.Native.Nat.{ℕ, ◌≤◌, ◌<◌}
use native.Mathlib.Omega.{arith}
use Rattle.bounded.proofs.BoundedLaws.{every-at, passed_none, passed-more}
use Rattle.net.specs.Net.{max_entries}
use Rattle.std.proofs.Common.{rules, tests}
use Rattle.netlist.specs.Netlist.{net_count, bad_directory}
use Rattle.switchbox.specs.SwitchBox.{rows_size}
use Rattle.netlist.specs.declared.Trailer.{Trailer}
use Rattle.netlist.proofs.NetlistLaws.{trailer-fields, trailer-size, size_at, RecordFits, record_fits-true, true-record_fits, no-directory, good-directory}
use Rattle.reader.proofs.Measured.bad_directory.Goals as goal

pub returns-then-directory-trailer : goal.returns-then-directory-trailer
returns-then-directory-trailer c =
    no-directory _
    (λ d.
    let k = ap (λ (t : Trailer). rows_size t.kind) c.args.self.own in
    let f = trailer-fields _ _ c.args.self.own in
    c.if-directory-trailer.true (omega (arith, d.sum, c.rows_size.ensures)))

pub invariant_of-framed : goal.invariant_of-framed
invariant_of-framed c = record { fits = record { own = c.args.self.own; sum = omega arith; low = c.args.self.low.1 } }

pub returns-then-start_of-ne0 : goal.returns-then-start_of-ne0
returns-then-start_of-ne0 c = no-directory _ (λ d. c.if-start_of-ne0.true (c.start_of.ensures.0 ∙ d.first))

pub loop-k-init : goal.loop-k-init
loop-k-init c = (passed_none _ _, sym c.if-start_of-ne0.false ∙ c.start_of.ensures.0, omega arith)

-- a pass that finds record k not fitting
unfit : {s : List ℕ} {k : ℕ} → k < net_count s → (RecordFits s k → ⊥) → true ≡ bad_directory s
unfit {s} {k} l h = no-directory _ (λ d. h (d.fits k l))

pub returns-then-not-contains : goal.returns-then-not-contains
returns-then-not-contains c =
    let f = trailer-fields _ _ c.args.self.own in
    let n : c.count_at-n.result ≡ size_at c.args.self.bytes.now c.loop-k.k = cc in
    unfit {k = c.loop-k.k} (omega arith)
    (λ r.
    let low : 1 ≤ c.count_at-n.result = omega arith in
    let high : c.count_at-n.result ≤ max_entries = omega arith in
    let e : c.contains.result ≡ true = search (rules, tests) in
    true≢false (sym e ∙ c.if-not-contains.true))

pub returns-then-directory-at : goal.returns-then-directory-at
returns-then-directory-at c =
    let f = trailer-fields _ _ c.args.self.own in
    let z = trailer-size _ _ c.args.self.own in
    let n : c.count_at-n.result ≡ size_at c.args.self.bytes.now c.loop-k.k = cc in
    unfit {k = c.loop-k.k} (omega arith) (λ r. omega arith)

pub returns-then-start_of-at : goal.returns-then-start_of-at
returns-then-start_of-at c =
    let f = trailer-fields _ _ c.args.self.own in
    let z = trailer-size _ _ c.args.self.own in
    let n : c.count_at-n.result ≡ size_at c.args.self.bytes.now c.loop-k.k = cc in
    unfit {k = c.loop-k.k} (omega arith) (λ r. c.if-start_of-at.true (omega (arith, r.next)))

pub loop-k-preserved : goal.loop-k-preserved
loop-k-preserved c =
    let s = c.args.self.bytes.now in
    let k = c.loop-k.k in
    let f = trailer-fields _ _ c.args.self.own in
    let z = trailer-size _ _ c.args.self.own in
    let n : c.count_at-n.result ≡ size_at s k = cc in
    let b : (1 ≤ c.count_at-n.result) × (c.count_at-n.result ≤ max_entries) = search (rules, tests) in
    let r : RecordFits s k = record { filled = omega arith; short = omega arith; next = omega arith; before = omega arith } in
    (passed-more _ _ k c.loop-k.invariant.0 (omega arith) (true-record_fits s k r), omega arith, omega arith)

pub returns : goal.returns
returns c =
    let s = c.args.self.bytes.now in
    let f = trailer-fields _ _ c.args.self.own in
    let k = ap (λ (t : Trailer). rows_size t.kind) c.args.self.own in
    let all_fit : (k : ℕ) → k < net_count s → RecordFits s k = λ k h. record_fits-true s k (every-at _ _ c.loop-k.invariant.0.1 k (omega arith)) in
    sym (good-directory (record { sum = omega arith; first = sym c.start_of.ensures.0 ∙ c.if-start_of-ne0.false; fits = all_fit }))
