-- Laws of the length of a text (specs/Lines.antt). Assumes nothing.
-- text, least_text: of a refusal, and of a success. least-accepted: a sheet that Least answers with 0. least_text-le: the text of a sheet is
-- at most text_max long.
use mathlib.Core.Path.{◌≡◌, refl, sym, ap, ap₂, ◌∙◌}
use mathlib.Core.Logic.{◌⊎◌, inl, inr, ◌≢◌}
use mathlib.Core.Bool.{Bool, cond}
use Prim.Native.Nat.{ℕ, zero, suc, ◌+◌, ◌-◌, ◌*◌, ◌≤◌, ◌<◌}
use native.Mathlib.Omega.{arith}
use native.Mathlib.Decide.{dec_lt}
use mathlib.Core.List.{List, [], ◌++◌, append-nil}
use borrow.Author.Tests.{eq-eqb, ne_eqb, leb-true}
use lib.ListN.{length, get_or, take, length-append, length-replicate}
use lib.Dec.{leb}
use Rattle.bounded.specs.Lists.{every_in}
use Rattle.bounded.proofs.ListsLaws.{every_in-true}
use Rattle.backtracking.specs.Search.{trials}
use Rattle.decimal.proofs.DecimalLaws.{digits-length, field-length}
use Rattle.net.specs.Net.{Net, u16_at, record_length, count_at, size, channel}
use Rattle.net.proofs.NetLaws.{u16_at-part, u16_at-lt, number_in-lt, net_of-number}
use Rattle.netlist.specs.Netlist.{WellFormed, number_size_of, net_count, offset_of, record_part, record_bytes, nets}
use Rattle.netlist.proofs.NetlistLaws.{well_formed-readable, readable-nets, readable-fits, nets-length, net_in-nets, number_size_of-cases}
use Rattle.assignment.specs.Assignment.{first_byte}
use Rattle.assignment.proofs.AssignmentLaws.{first_byte-none, first_byte-more, first_byte-all, net-channel-lt}
use Rattle.netsearch.specs.declared.Search.TheVariants.{Plain}
use Rattle.routing.specs.declared.Answer.{Answer}
use Rattle.routing.specs.Outcomes.{least, run, number_before, answer_of, output_of}
use Rattle.routing.specs.Results.{assignment_in, numbers_of}
use Rattle.routing.proofs.BudgetTheorems.{call-spent, call-refused}
use Rattle.routing.proofs.FirstTheorems.{least_first}
use Rattle.routing.proofs.RefusalLaws.{number_before-zero, number_before-not-unroutable, number_before-not-spent}
use Rattle.lines.specs.Lines.{answer_word, width_word, trials_word, blank, stop}
use Rattle.bounded.specs.Bounded.{joined}
use Rattle.net.specs.Nets.{entry_count, net_in}
use Rattle.lines.specs.Lines.{answer_line, entry_text, net_line, net_lines, text, least_budget, least_inputs, least_text, answer_max, net_max, entry_max, text_max}
use Rattle.lines.proofs.LinesLaws.{entry_in, line_in, answer_line-length, entry_text-length, net_line-length, net_lines-length}

-- ---- lines

answer_line-le : (a : Answer) → a.number < 100 → a.width < 100 → a.trials < 10000000000 → length (answer_line a) ≤ answer_max
answer_line-le a x y z =
    omega (
      arith,
      answer_line-length a,
      field-length answer_word a.number,
      field-length width_word a.width,
      field-length trials_word a.trials,
      digits-length 1 a.number x,
      digits-length 1 a.width y,
      digits-length 9 a.trials z,
    )

entry_text-le : (c t : ℕ) → c < 1000 → t < 100 → length (entry_text c t) ≤ entry_max
entry_text-le c t h l =
    omega (arith, entry_text-length c t, field-length blank c, field-length stop t, digits-length 2 c h, digits-length 1 t l)

joined-entries-le : (n : ℕ) (f : ℕ → List ℕ) → ((i : ℕ) → i < n → length (f i) ≤ entry_max) → length (joined n f) ≤ n * entry_max
unfolding joined
joined-entries-le zero f h = omega arith
joined-entries-le (suc n) f h =
    let r = joined-entries-le n f (λ i l. h i (omega arith)) in
    omega (arith, length-append (joined n f) (f n), h n (omega arith))

net_line-le : (n : Net) (ts : List ℕ) → n.number < 10000000000 → ((i : ℕ) → i < size n → length (entry_in n ts i) ≤ entry_max)
    → length (net_line n ts) ≤ net_max + size n * entry_max
net_line-le n ts x h =
    omega (arith, net_line-length n ts, digits-length 9 n.number x, joined-entries-le (size n) (entry_in n ts) h)

module _ (ns : List Net) (b : List ℕ) (h : (k : ℕ) → k < length ns → length (line_in ns b k) ≤ net_max + size (net_in ns k) * entry_max) where
  joined-lines-le : (k : ℕ) → k ≤ length ns → length (joined k (line_in ns b)) ≤ k * net_max + first_byte ns k * entry_max
  unfolding joined
  joined-lines-le zero l = omega (arith, first_byte-none ns)
  joined-lines-le (suc k) l =
      let r = joined-lines-le k (omega arith) in
      let e : suc k ≡ k + 1 = omega arith in
      omega (
        arith,
        length-append (joined k (line_in ns b)) (line_in ns b k),
        h k (omega arith),
        first_byte-more ns k (omega arith),
        ap (first_byte ns) e,
      )

  net_lines-le : length (net_lines ns b) ≤ length ns * net_max + entry_count ns * entry_max
  net_lines-le = omega (arith, net_lines-length ns b, joined-lines-le (length ns) (omega arith), first_byte-all ns)

-- ---- text

pub text-refused : (ns : List Net) (a : Answer) (b : List ℕ) → a.number ≢ 0 → text ns a b ≡ answer_line a
unfolding text
text-refused ns a b h =
    ap (λ (x : Bool). answer_line a ++ cond x (net_lines ns b) []) (ne_eqb a.number 0 h) ∙ append-nil (answer_line a)

pub text-found : (ns : List Net) (a : Answer) (b : List ℕ) → a.number ≡ 0 → text ns a b ≡ answer_line a ++ net_lines ns b
unfolding text
text-found ns a b h = ap (λ (x : Bool). answer_line a ++ cond x (net_lines ns b) []) (eq-eqb a.number 0 h)

-- ---- least_text

-- every element is a byte
abbrev pub Bytes : List ℕ → Type 0
Bytes s = (k : ℕ) → get_or s k 0 < 256

module _ (s : List ℕ) where
  abbrev pub least_answer : Answer
  least_answer = answer_of least (least_inputs s)

  abbrev pub least_ticket : List ℕ
  least_ticket = assignment_in (least_inputs s) (output_of least (least_inputs s))

  -- a sheet that Least answers with 0 is accepted, and has at most 2,048 entries
  pub least-accepted : least_answer.number ≡ 0 → WellFormed s × (entry_count (nets s) ≤ 2048)
  least-accepted e = let z = number_before-zero least (least_inputs s) (at (dec_lt 0 x)) in (z.0, omega (arith, z.1, length-replicate {A = ℕ} 2048 0))
    where
      x : ℕ
      x = number_before least (least_inputs s)

      at : Dec (0 < x) → x ≡ 0
      at (yes l) = absurd (omega (arith, (call-refused least (least_inputs s)).before (λ f. absurd (omega arith))))
      at (no l) = omega arith

  -- the numbers of the first line
  answer-small : (least_answer.number ≤ 99) × (least_answer.width ≤ 32) × (least_answer.trials ≤ least_budget)
  unfolding every_in
  answer-small = at (dec_lt 0 (number_before least (least_inputs s)))
    where
      x : ℕ
      x = number_before least (least_inputs s)

      ended : x ≡ 0 → least_answer.number ≢ 16 → least_answer.trials ≤ least_budget
      ended z h = by (dec_lt least_budget (trials (run least (least_inputs s))))
        where
          by : Dec (least_budget < trials (run least (least_inputs s))) → least_answer.trials ≤ least_budget
          by (yes l) = absurd (h ((call-spent least (least_inputs s)).exactly.1 (z, l)))
          by (no l) = omega (arith, (call-spent least (least_inputs s)).counted z h)

      number-le : least_answer.number ≤ 99
      number-le =
          leb-true _ 99 (every_in-true (λ y. leb y 99) (numbers_of least) least_answer.number refl (call-refused least (least_inputs s)).uses)

      late : x ≡ 0 → (least_answer.number ≡ 0) ⊎ ((least_answer.number ≡ 15) ⊎ (least_answer.number ≡ 16))
          → (least_answer.number ≤ 99) × (least_answer.width ≤ 32) × (least_answer.trials ≤ least_budget)
      late z (inl e) = (omega arith, (least_first (least_inputs s) Plain e).0.high, ended z (λ f. absurd (omega arith)))
      late z (inr (inl e)) =
          let w = (call-refused least (least_inputs s)).others (λ f. absurd (omega arith)) in
          (omega arith, omega arith, ended z (λ f. absurd (omega arith)))
      late z (inr (inr e)) =
          let w = (call-refused least (least_inputs s)).others (λ f. absurd (omega arith)) in
          (omega arith, omega arith, omega (arith, (call-spent least (least_inputs s)).spent e))

      at : Dec (0 < x) → (least_answer.number ≤ 99) × (least_answer.width ≤ 32) × (least_answer.trials ≤ least_budget)
      at (yes l) =
          let i = least_inputs s in
          let r = call-refused least i in
          let b : least_answer.number ≡ x = r.before (λ f. absurd (omega arith)) in
          let n : least_answer.number ≢ 0 = λ f. absurd (omega arith) in
          let t = r.trials n (λ f. number_before-not-unroutable least i (sym b ∙ f)) (λ f. number_before-not-spent least i (sym b ∙ f)) in
          (number-le, omega (arith, (r.others n).0), omega arith)
      at (no l) = let z : x ≡ 0 = omega arith in late z ((call-refused least (least_inputs s)).after z)

  pub answer_le : length (answer_line least_answer) ≤ answer_max
  answer_le = let a = answer-small in answer_line-le least_answer (omega arith) (omega arith) (omega arith)

  -- the lines of the nets
  module _ (bytes : Bytes s) (e : least_answer.number ≡ 0) where
    number_lt : (k : ℕ) → k < net_count s → (net_in (nets s) k).number < 10000000000
    unfolding record_bytes record_part
    number_lt k h =
        let z = number_size_of s in
        let o = offset_of s k in
        let m = record_length z (count_at z s o) in
        let f = readable-fits (well_formed-readable s (least-accepted e).0) k h in
        let n = ap (λ (x : Net). x.number) (net_in-nets s k h) ∙ net_of-number z (record_bytes s k) in
        let low : u16_at (record_bytes s k) 0 < 65536 = omega (arith, u16_at-part s o m 0 (omega arith), u16_at-lt s bytes (o + 0)) in
        let high : u16_at (record_bytes s k) 2 < 65536 = omega (arith, u16_at-part s o m 2 (omega arith), u16_at-lt s bytes (o + 2)) in
        omega (arith, number_in-lt z (record_bytes s k) (number_size_of-cases s) low high)

    lines-le : length (net_lines (nets s) least_ticket) ≤ 64 * net_max + 2048 * entry_max
    lines-le =
        omega (
          arith,
          net_lines-le (nets s) least_ticket line,
          accepted.1,
          nets-length s,
          readable-nets (well_formed-readable s accepted.0),
        )
      where
        accepted : WellFormed s × (entry_count (nets s) ≤ 2048)
        accepted = least-accepted e

        line : (k : ℕ) → k < length (nets s)
            → length (line_in (nets s) least_ticket k) ≤ net_max + size (net_in (nets s) k) * entry_max
        line k h =
            let l : k < net_count s = omega (arith, nets-length s) in
            let f = least_first (least_inputs s) Plain e in
            let same = net_in-nets s k l in
            net_line-le (net_in (nets s) k) _ (number_lt k l)
            (λ i j.
            entry_text-le _ _
            (omega (arith, ap (λ (n : Net). channel n i) same, net-channel-lt s accepted.0 k i l (omega (arith, ap size same))))
            (omega (arith, f.1.legal.below k i h tt j, f.0.high)))

  pub least_text-refused : least_answer.number ≢ 0 → least_text s ≡ answer_line least_answer
  unfolding least_text
  least_text-refused = text-refused (nets s) least_answer least_ticket

  pub least_text-found : least_answer.number ≡ 0 → least_text s ≡ answer_line least_answer ++ net_lines (nets s) least_ticket
  unfolding least_text
  least_text-found = text-found (nets s) least_answer least_ticket

  -- the assignment is the output's part from 0 to the entry count
  pub least_ticket-part : (total : ℕ) (out : List ℕ) → total ≡ entry_count (nets s) → out ≡ output_of least (least_inputs s)
      → take (total - 0) out ≡ least_ticket
  least_ticket-part total out e f = let z : total - 0 ≡ entry_count (nets s) = omega arith in ap₂ take z f

  -- every text is at most text_max long
  pub least_text-le : Bytes s → length (least_text s) ≤ text_max
  least_text-le bytes = at (dec_lt 0 least_answer.number)
    where
      at : Dec (0 < least_answer.number) → length (least_text s) ≤ text_max
      at (yes l) = omega (arith, ap length (least_text-refused (λ f. absurd (omega arith))), answer_le)
      at (no l) =
          let e : least_answer.number ≡ 0 = omega arith in
          omega (
            arith,
            ap length (least_text-found e),
            length-append (answer_line least_answer) (net_lines (nets s) least_ticket),
            answer_le,
            lines-le bytes e,
          )
