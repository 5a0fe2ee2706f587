-- The list of dead wires (02, M-105): what of it matters. Assumes nothing.
-- any_order, check-any-order: the order of its items does not. same-dead, check-same-dead, legal-same-dead: of two accepted lists, only the wires
-- below the width in use do. empty-legal, empty-fits, empty-over: with the empty list, 01's own rules. remove-no-list, remove-broken: Remove. check-list, call-list:
-- when 19 comes, and when 20.
use mathlib.Core.Path.{◌≡◌, refl, sym, ap, ap₂, ◌∙◌}
use mathlib.Core.Logic.{◌⊎◌, inl, inr, ◌↔◌, ◌≢◌}
use Prim.Native.Nat.{ℕ, zero, suc, ◌≤◌, ◌<◌}
use native.Mathlib.Omega.{arith}
use native.Mathlib.Decide.{dec_le}
use mathlib.Core.List.{List, [], ◌∷◌, ◌++◌}
use mathlib.Core.Bool.{Bool, true, false, not, true≢false}
use lib.Dec.{ltb}
use lib.ListN.{length}
use borrow.Author.Tests.{not-true}
use Rattle.bounded.specs.Bounded.{any_below}
use Rattle.bounded.specs.Lists.{memb, every_in}
use Rattle.bounded.proofs.BoundedLaws.{any_below-same, count_below-all, not-passed}
use Rattle.numbers.specs.Numbers.{first_number, list_no, repeat_no, unroutable_no, spent_no}
use Rattle.numbers.proofs.NumbersLaws.{or_number, first_number-append}
use Rattle.backtracking.specs.Search.{Outcome, trials}
use Rattle.grid.specs.Grid.{meet, Wire, wire}
use Rattle.net.specs.Net.{Net, size}
use Rattle.net.specs.Nets.{entry_count, net_in}
use Rattle.netlist.specs.Netlist.{sheet_conditions, WellFormed, refusal, grid_of, width_of, channels_of, connected_on, nets}
use Rattle.netlist.proofs.SheetLaws.{well_formed-accepted, well_formed-connects}
use Rattle.nettracks.specs.NetTracks.{connected_at, whole_wires}
use Rattle.nettracks.proofs.NetTracksLaws.{skipped-partial}
use Rattle.defects.specs.Defects.{is_dead, AcceptedList, SameItems, SameBelow}
use Rattle.defects.specs.Facts.{list_number}
use Rattle.defects.proofs.DefectsLaws.{is_dead-none, same_items-dead, same_items-bad, same_items-repeated}
use Rattle.defects.proofs.ListLaws.{list-exactly}
use Rattle.assignment.specs.Assignment.{tracks_of, track_at, wire_in, LegalAt, every_net, broken_wire, ticket_conditions}
use Rattle.assignment.specs.Check.{number_on, check_of}
use Rattle.assignment.specs.Facts.{assignment_number}
use Rattle.assignment.specs.Board.{Board, board_with, board_of, with_broken}
use Rattle.assignment.proofs.AssignmentLaws.{every_net-at, at-every_net}
use Rattle.assignment.proofs.CheckLaws.{Looked, number-partly, number_on-refused, number_on-list, number_on-accepted, number_on-or, check_of-number_on}
use Rattle.netsearch.specs.HomeTrack.{wires_from}
use Rattle.netsearch.specs.PlainSearch.{density, whole_tracks, over_capacity, held, fits, at_width, plain_search, least_search}
use Rattle.netsearch.specs.Refit.{refit_search}
use Rattle.netsearch.proofs.DeadLaws.{plain-agree, rounds-agree, number-agree, legal-agree}
use Rattle.routing.specs.Outcomes.{Inputs, with_dead, width_in, nets_in, old_byte, out_conditions, run, moved_by, number_before, answer, output, answer_of, output_of, board_in}
use Rattle.routing.specs.declared.Call.{Call}
use Rattle.routing.specs.declared.Call.TheVariants.{Route, Least, Refit}
use Rattle.routing.specs.Remove.{without, remove_number, remove_output}
use Rattle.routing.specs.Results.{assignment_in, last_width, RefusesList}
use Rattle.routing.proofs.BudgetTheorems.{call-refused}
use Rattle.routing.proofs.RefusalLaws.{first_number-passes, dead_number, later_conditions, number_before-refused, number_before-list, number_before-later, number_before-or, old_conditions}
use Rattle.routing.proofs.RemoveLaws.{Accepts, remove_number-zero}
use Rattle.routing.proofs.LastWidthLaws.{least-alike}
use Rattle.routing.proofs.OutcomeLaws.{answer-over, output-over}
use Rattle.routing.proofs.RemoveTheorems.{remove_first, left-routed, same-tracks}

-- two runs that need more than the budget
both-spent : (x budget : ℕ) (m m2 : List ℕ → ℕ) (o o2 : Outcome (ℕ × List ℕ)) (s out : List ℕ) → budget < trials o → budget < trials o2
    → (answer x budget m o ≡ answer x budget m2 o2) × (output x budget s o out ≡ output x budget s o2 out)
unfolding answer output
both-spent (suc x) budget m m2 o o2 s out l k = (refl, refl)
both-spent zero budget m m2 o o2 s out l k = (
  answer-over budget o m l ∙ sym (answer-over budget o2 m2 k),
  output-over budget o s out l ∙ sym (output-over budget o2 s out k),
)

-- equal answers and equal bytes in the whole output
abbrev SameAnswer : Call → Inputs → Inputs → Type 0
SameAnswer c i j = (answer_of c i ≡ answer_of c j) × (output_of c i ≡ output_of c j)

moved_same : (c : Call) (i : Inputs) (e : List ℕ) → moved_by c i ≡ moved_by c (with_dead i e)
unfolding moved_by
moved_same (Route h) i e = refl
moved_same (Least h) i e = refl
moved_same Refit i e = refl

-- the list is in nothing but the number and the run
answer-same : (c : Call) (i : Inputs) (e : List ℕ) → number_before c i ≡ number_before c (with_dead i e) → run c i ≡ run c (with_dead i e)
    → SameAnswer c i (with_dead i e)
unfolding answer_of output_of
answer-same c i e x o =
    let m = moved_same c i e in ((λ k. answer (x k) i.budget (m k) (o k)), (λ k. output (x k) i.budget i.sheet (o k) i.out))

-- nor in the answer of a run that needs more than the budget
spent-same : (c : Call) (i : Inputs) (e : List ℕ) → number_before c i ≡ number_before c (with_dead i e)
    → i.budget < trials (run c i) → i.budget < trials (run c (with_dead i e)) → SameAnswer c i (with_dead i e)
unfolding answer_of output_of
spent-same c i e x l m =
    let j = with_dead i e in
    let s = both-spent (number_before c i) i.budget (moved_by c i) (moved_by c j) (run c i) (run c j) i.sheet i.out l m in (
      s.0 ∙ ap (λ (n : ℕ). answer n i.budget (moved_by c j) (run c j)) x,
      s.1 ∙ ap (λ (n : ℕ). output n i.budget i.sheet (run c j) i.out) x,
    )

-- on a refused sheet nothing else is looked at
refused-same : (c : Call) (i : Inputs) (e : List ℕ) (x : ℕ) → x ≢ 0 → number_before c i ≡ x → number_before c (with_dead i e) ≡ x
    → SameAnswer c i (with_dead i e)
unfolding answer_of output_of answer output
refused-same c i e zero n p q = absurd (n refl)
refused-same c i e (suc x) n p q = (
  ap (λ (y : ℕ). answer y i.budget (moved_by c i) (run c i)) p
      ∙ sym (ap (λ (y : ℕ). answer y i.budget (moved_by c (with_dead i e)) (run c (with_dead i e))) q),
  ap (λ (y : ℕ). output y i.budget i.sheet (run c i) i.out) p
      ∙ sym (ap (λ (y : ℕ). output y i.budget i.sheet (run c (with_dead i e)) i.out) q),
)

-- ---- any order

module _ (i : Inputs) (e : List ℕ) (I : SameItems i.dead e) where
  abbrev f : is_dead i.dead ≡ is_dead e
  f = same_items-dead I

  number-order : (c : Call) → number_before c i ≡ number_before c (with_dead i e)
  unfolding number_before
  number-order (Route h) = λ k. first_number (sheet_conditions i.sheet ++ ((list_no, same_items-bad (channels_of i.sheet) I k) ∷ (repeat_no, same_items-repeated I k) ∷ out_conditions i))
  number-order (Least h) = λ k. first_number (sheet_conditions i.sheet ++ ((list_no, same_items-bad (channels_of i.sheet) I k) ∷ (repeat_no, same_items-repeated I k) ∷ out_conditions i))
  number-order Refit = λ k.
      first_number (sheet_conditions i.sheet
      ++ ((list_no, same_items-bad (channels_of i.sheet) I k)
      ∷ (repeat_no, same_items-repeated I k)
      ∷ (ticket_conditions true (board_with i.sheet (f k)) (width_in i) (nets_in i) i.old ++ out_conditions i)))

  run-order : (c : Call) → run c i ≡ run c (with_dead i e)
  unfolding run
  run-order (Route h) = ap (λ (g : Wire → Bool). at_width (width_in i) (plain_search h (board_with i.sheet g) (width_in i) (nets_in i))) f
  run-order (Least h) = ap (λ (g : Wire → Bool). least_search h (board_with i.sheet g) (nets_in i)) f
  run-order Refit = ap (λ (g : Wire → Bool). at_width (width_in i) (refit_search (old_byte i) (board_with i.sheet g) (width_in i) (nets_in i))) f

  pub any_order : (c : Call) → SameAnswer c i (with_dead i e)
  any_order c = answer-same c i e (number-order c) (run-order c)

pub check-any-order : (s d e b : List ℕ) → SameItems d e → check_of s d b ≡ check_of s e b
unfolding check_of number_on
check-any-order s d e b I = λ k.
    first_number (sheet_conditions s
    ++ ((list_no, same_items-bad (channels_of s) I k)
    ∷ (repeat_no, same_items-repeated I k)
    ∷ ticket_conditions false (board_with s (same_items-dead I k)) (width_of s) (nets s) b))

-- ---- the wires below the width in use

module _ (i : Inputs) (e : List ℕ) (A : AcceptedList (channels_of i.sheet) i.dead) (B : AcceptedList (channels_of i.sheet) e) where
  lists-same : list_number (channels_of i.sheet) i.dead ≡ list_number (channels_of i.sheet) e
  lists-same = (list-exactly (channels_of i.sheet) i.dead).zero.1 A ∙ sym ((list-exactly (channels_of i.sheet) e).zero.1 B)

  later-below : (c : Call) → SameBelow (last_width c i) i.dead e
      → first_number (later_conditions c i) ≡ first_number (later_conditions c (with_dead i e))
  unfolding assignment_number last_width
  later-below (Route h) D = refl
  later-below (Least h) D = refl
  later-below Refit D =
      first_number-append (old_conditions i) (out_conditions i) refl
      ∙ ap (λ (x : ℕ). or_number x (first_number (out_conditions i)))
      (number-agree (board_in i) (is_dead e) (width_in i) D true (nets_in i) i.old)
      ∙ sym (first_number-append (old_conditions (with_dead i e)) (out_conditions i) refl)

  -- the runs are equal; in Least, or both need more than the budget
  run-below : WellFormed i.sheet → (c : Call) → SameBelow (last_width c i) i.dead e
      → (run c i ≡ run c (with_dead i e)) ⊎ ((i.budget < trials (run c i)) × (i.budget < trials (run c (with_dead i e))))
  unfolding run last_width
  run-below a (Route h) D =
      inl (ap (at_width (width_in i))
      (plain-agree (board_in i) (is_dead e) (width_in i) D (meet (grid_of i.sheet))
      (well_formed-connects i.sheet a (width_in i)) (nets_in i) (well_formed-accepted i.sheet a) h))
  run-below a (Least h) D = least-alike h i e a D
  run-below a Refit D =
      inl (ap (at_width (width_in i))
      (rounds-agree (board_in i) (is_dead e) (width_in i) D (meet (grid_of i.sheet))
      (well_formed-connects i.sheet a (width_in i)) (nets_in i) (well_formed-accepted i.sheet a) (old_byte i)))

  pub same-dead : (c : Call) → SameBelow (last_width c i) i.dead e → SameAnswer c i (with_dead i e)
  same-dead c D = at (dec_le (refusal i.sheet) 0)
    where
      number : WellFormed i.sheet → number_before c i ≡ number_before c (with_dead i e)
      number a = number_before-or c i a ∙ ap₂ or_number lists-same (later-below c D) ∙ sym (number_before-or c (with_dead i e) a)

      by : WellFormed i.sheet
          → (run c i ≡ run c (with_dead i e)) ⊎ ((i.budget < trials (run c i)) × (i.budget < trials (run c (with_dead i e))))
          → SameAnswer c i (with_dead i e)
      by a (inl o) = answer-same c i e (number a) o
      by a (inr l) = spent-same c i e (number a) l.0 l.1

      at : Dec (refusal i.sheet ≤ 0) → SameAnswer c i (with_dead i e)
      at (yes l) = let a : WellFormed i.sheet = omega arith in by a (run-below a c D)
      at (no l) =
          let n : refusal i.sheet ≢ 0 = λ z. l (omega arith) in
          refused-same c i e (refusal i.sheet) n (number_before-refused c i n) (number_before-refused c (with_dead i e) n)

pub check-same-dead : (s d e b : List ℕ) → AcceptedList (channels_of s) d → AcceptedList (channels_of s) e → SameBelow (width_of s) d e
    → check_of s d b ≡ check_of s e b
check-same-dead s d e b A B D = check_of-number_on s d b ∙ at (dec_le (refusal s) 0) ∙ sym (check_of-number_on s e b)
  where
    at : Dec (refusal s ≤ 0) → number_on false s d b ≡ number_on false s e b
    at (yes l) =
        number_on-or false s d b (omega arith)
        ∙ ap₂ or_number ((list-exactly (channels_of s) d).zero.1 A ∙ sym ((list-exactly (channels_of s) e).zero.1 B))
        (number-agree (board_of s d) (is_dead e) (width_of s) D false (nets s) b)
        ∙ sym (number_on-or false s e b (omega arith))
    at (no l) = let n : refusal s ≢ 0 = λ z. l (omega arith) in number_on-refused false s d b n ∙ sym (number_on-refused false s e b n)

-- what is legal at a width
pub legal-same-dead : (s d e : List ℕ) (w : ℕ) (b : List ℕ) → SameBelow w d e → LegalAt s d w b ↔ LegalAt s e w b
legal-same-dead s d e w b D = (
  legal-agree (board_of s d) (is_dead e) w D _ (nets s) b,
  legal-agree (board_of s e) (is_dead d) w (λ v l. sym (D v l)) _ (nets s) b,
)

-- ---- the empty list

-- right exactly by 01's conditions
pub empty-legal : (s : List ℕ) (w : ℕ) (b : List ℕ) → LegalAt s [] w b
    ↔ ((length b ≡ entry_count (nets s))
    × ((k i : ℕ) → k < length (nets s) → i < size (net_in (nets s) k) → track_at (nets s) b k i < w)
    × ((k i : ℕ) → k < length (nets s) → 0 < i → i < size (net_in (nets s) k)
    → track_at (nets s) b k i ≡ connected_at (connected_on s w) (net_in (nets s) k) (tracks_of (nets s) b k) i)
    × ((k l i j : ℕ) → k < length (nets s) → l < length (nets s) → i < size (net_in (nets s) k) → j < size (net_in (nets s) l)
    → wire_in (nets s) b k i ≡ wire_in (nets s) b l j → k ≡ l))
empty-legal s w b = (
  (λ L. (
    L.whole,
    (λ k i h l. L.below k i h tt l),
    (λ k i h z l. L.joined k i h tt z l),
    (λ k l i j p q m n e. L.alone k l i j p q tt tt m n e),
  )),
  (λ C. record {
    whole = C.0;
    below = λ k i h o l. C.1 k i h l;
    joined = λ k i h o z l. C.2 k i h z l;
    unbroken = λ k i h o l. is_dead-none (wire_in (nets s) b k i);
    alone = λ k l i j p q o r m n e. C.3 k l i j p q m n e;
  }),
)

-- a track fits exactly if its wires are free
pub empty-fits : (board : Board) (w : ℕ) (ns : List Net) (p : List ℕ) (t : ℕ)
    → fits (with_broken board (is_dead [])) w ns p t
    ≡ every_in (λ v. not (held (board.partner w) ns p v)) (wires_from (board.partner w) (net_in ns (length p)) t)
unfolding fits is_dead any_below
empty-fits board w ns p t = refl

-- a channel is overloaded exactly if it carries more nets than the width
pub empty-over : (board : Board) (w : ℕ) (ns : List Net)
    → over_capacity (with_broken board (is_dead [])) w ns ≡ any_below board.channels (λ c. ltb w (density ns c))
unfolding over_capacity whole_tracks
empty-over board w ns = any_below-same board.channels _ _ (λ c l.
    ap (λ (x : ℕ). ltb x (density ns c)) (count_below-all w _ (λ t h. ap not (is_dead-none (wire c t)))))

-- ---- Remove

-- it is lent no list
pub remove-no-list : (i : Inputs) (x : ℕ) (d : List ℕ)
    → (remove_number i x ≡ remove_number (with_dead i d) x) × (remove_output i x ≡ remove_output (with_dead i d) x)
unfolding remove_number remove_output
remove-no-list i x d = (refl, refl)

-- under whatever list, 21 applies to what is written only if it applied to the lent ticket
pub remove-broken : (i : Inputs) (x : ℕ) (d : List ℕ) → remove_number i x ≡ 0
    → broken_wire true (is_dead d) (nets_in i) (assignment_in i (remove_output i x)) ≡ true → broken_wire true (is_dead d) (nets_in i) i.old ≡ true
unfolding broken_wire
remove-broken i x d z = rw (remove_first i x A) (λ e.
    not-passed _ (λ h. true≢false (sym (at-every_net true (whole_wires (is_dead d)) ns new (kept h)) ∙ not-true _ e)))
  where
    A : Accepts i x
    A = remove_number-zero i x z

    ns : List Net
    ns = nets_in i

    new : List ℕ
    new = without ns x i.old

    -- a net that is looked at in what is written has the tracks it had, and was looked at
    kept : every_net true (whole_wires (is_dead d)) ns i.old ≡ true → (k : ℕ) → k < length ns → Looked true ns new k
        → whole_wires (is_dead d) (net_in ns k) (tracks_of ns new k) ≡ true
    kept h k l o =
        let L = number-partly i.sheet [] (width_in i) i.old A.ticket in
        let r = (left-routed i.sheet x i.old [] (width_in i) L k l).0
        (sym (skipped-partial (tracks_of ns new k)) ∙ o) in
        let t = same-tracks i.sheet x i.old [] (width_in i) L k l r.1 in
        ap (whole_wires (is_dead d) (net_in ns k)) t
        ∙ every_net-at true (whole_wires (is_dead d)) ns i.old h k l
        (skipped-partial (tracks_of ns i.old k) ∙ r.0)

-- ---- when 19 comes, and when 20

-- neither of these
abbrev unlisted : ℕ → Bool
unlisted y = not (memb y (list_no ∷ repeat_no ∷ []))

-- the number n of a call on the sheet s with the list d: a refused sheet's is its own, a refused list's comes next, else n is neither 19 nor 20
module _ (s d : List ℕ) (n : ℕ) (sheet : refusal s ≢ 0 → n ≡ refusal s)
    (list : WellFormed s → list_number (channels_of s) d ≢ 0 → n ≡ list_number (channels_of s) d)
    (others : WellFormed s → list_number (channels_of s) d ≡ 0 → unlisted n ≡ true) where
  given : (x : ℕ) → unlisted x ≡ false → (n ≡ x) ↔ (WellFormed s × (list_number (channels_of s) d ≡ x))
  unfolding memb every_in refusal
  given x u = (
    (λ e. there e (dec_le (refusal s) 0) (dec_le (list_number (channels_of s) d) 0)),
    (λ h. list h.0 (λ z. true≢false (ap unlisted (sym z ∙ h.1) ∙ u)) ∙ h.1),
  )
    where
      there : n ≡ x → Dec (refusal s ≤ 0) → Dec (list_number (channels_of s) d ≤ 0) → WellFormed s × (list_number (channels_of s) d ≡ x)
      there e (no l) q =
          let z = sheet (λ z. l (omega arith)) in
          absurd (true≢false (sym (first_number-passes unlisted refl (sheet_conditions s) refl) ∙ ap unlisted (sym z ∙ e) ∙ u))
      there e (yes l) (yes q) = absurd (true≢false (sym (others (omega arith) (omega arith)) ∙ ap unlisted e ∙ u))
      there e (yes l) (no q) = let a : WellFormed s = omega arith in (a, sym (list a (λ z. q (omega arith))) ∙ e)

  pub refuses-list : RefusesList s d n
  unfolding memb
  refuses-list =
      let X = list-exactly (channels_of s) d in
      let g = given list_no refl in
      let r = given repeat_no refl in
      record {
        list = ((λ e. let h = g.0 e in (h.0, X.list.0 h.1)), (λ h. g.1 (h.0, X.list.1 h.1)));
        repeat = (
          (λ e. let h = r.0 e in let k = X.repeat.0 h.1 in (h.0, k.0, k.1)),
          (λ h. r.1 (h.0, X.repeat.1 (h.1, h.2))),
        );
      }

pub check-list : (s d b : List ℕ) → RefusesList s d (check_of s d b)
unfolding memb every_in assignment_number
check-list s d b =
    refuses-list s d (check_of s d b)
    (λ n. check_of-number_on s d b ∙ number_on-refused false s d b n)
    (λ a n. check_of-number_on s d b ∙ number_on-list false s d b a n)
    (λ a z.
    ap unlisted (check_of-number_on s d b ∙ number_on-accepted false s d b a z)
    ∙ first_number-passes unlisted refl (ticket_conditions false (board_of s d) (width_of s) (nets s) b) refl)

-- the conditions behind the list's
later-unlisted : (c : Call) (i : Inputs) → unlisted (first_number (later_conditions c i)) ≡ true
unfolding memb every_in
later-unlisted (Route h) i = first_number-passes unlisted refl (later_conditions (Route h) i) refl
later-unlisted (Least h) i = first_number-passes unlisted refl (later_conditions (Least h) i) refl
later-unlisted Refit i = first_number-passes unlisted refl (later_conditions Refit i) refl

pub call-list : (c : Call) (i : Inputs) → RefusesList i.sheet i.dead (answer_of c i).number
unfolding memb
call-list c i =
    refuses-list i.sheet i.dead (answer_of c i).number
    (λ n. let e = number_before-refused c i n in (call-refused c i).before (λ z. n (sym e ∙ z)) ∙ e)
    (λ a n. let e = number_before-list c i a n in (call-refused c i).before (λ z. n (sym e ∙ z)) ∙ e)
    (λ a z. by a z (dec_le (number_before c i) 0))
  where
    after : ((answer_of c i).number ≡ 0) ⊎ (((answer_of c i).number ≡ unroutable_no) ⊎ ((answer_of c i).number ≡ spent_no)) → unlisted (answer_of c i).number ≡ true
    after (inl e) = ap unlisted e
    after (inr (inl e)) = ap unlisted e
    after (inr (inr e)) = ap unlisted e

    by : WellFormed i.sheet → dead_number i ≡ 0 → Dec (number_before c i ≤ 0) → unlisted (answer_of c i).number ≡ true
    by a z (yes l) = after ((call-refused c i).after (omega arith))
    by a z (no l) =
        ap unlisted ((call-refused c i).before (λ q. l (omega arith)) ∙ number_before-later c i a z) ∙ later-unlisted c i
