-- Laws of Remove's number and output (specs/Remove.antt). Assumes nothing.
-- left_of: the bytes of a net that is taken out, and of one that is not. without: its length, the tracks of each net, the byte of each net
-- number and channel. unknown_net: a number that no net has, net by net, on relistings. old_number-own: the ticket's number is that with the empty list. remove_number: of an accepted and of a refused sheet,
-- what 0 says, and back. remove_output: after 0 and after a refusal.
use mathlib.Core.Path.{◌≡◌, refl, sym, ap, ap₂, ◌∙◌}
use mathlib.Core.Logic.{◌↔◌, ◌≢◌}
use Prim.Native.Nat.{ℕ, zero, suc, ◌+◌, ◌≤◌, ◌<◌}
use native.Mathlib.Omega.{arith}
use native.Mathlib.Numerals.{add-one}
use mathlib.Core.List.{List, [], ◌∷◌, ◌++◌, map}
use mathlib.Core.Bool.{Bool, true, false, not, true≢false}
use lib.Dec.{eqb}
use lib.ListN.{length, get_or, take, drop, length-append, length-map}
use lib.Seq.{ext_get_or}
use borrow.Author.Tests.{eqb-true, eq-eqb, ne_eqb, not-true, not-false}
use Rattle.bounded.specs.Bounded.{every, build, joined}
use Rattle.bounded.specs.Lists.{memb, place, every_in}
use Rattle.bounded.proofs.BoundedLaws.{same_test, not-passed, every-at, at_every, every-same, build-length, build-at, joined-none, joined-more, joined-part}
use Rattle.bounded.proofs.ListsLaws.{map_at, memb-place, memb-at}
use Rattle.numbers.specs.Numbers.{first_number, stranger_no}
use Rattle.numbers.proofs.NumbersLaws.{first_number-append, or_number, or_number-second, first_number-before, first_number-rest, first_number-both}
use Rattle.net.specs.Net.{Net, size, has, entry_of}
use Rattle.net.specs.Nets.{entry_count, no_net, net_in, In}
use Rattle.net.specs.Facts.{Accepted, Relisted}
use Rattle.net.proofs.NetsLaws.{in_place, place_in}
use Rattle.net.proofs.NetLaws.{has-entry}
use Rattle.netlist.specs.Netlist.{sheet_conditions, WellFormed, refusal, net_count, net_at, nets}
use Rattle.netlist.proofs.NetlistLaws.{nets-length, net_in-nets}
use Rattle.nettracks.specs.NetTracks.{unrouted}
use Rattle.assignment.specs.Assignment.{first_byte, tracks_of, track_conditions, clash_conditions}
use Rattle.assignment.specs.Board.{board_of}
use Rattle.assignment.specs.Facts.{assignment_number}
use Rattle.assignment.proofs.AssignmentLaws.{first_byte-none, first_byte-more, first_byte-all, tracks_of-length}
use Rattle.netsearch.specs.HomeTrack.{byte_of}
use Rattle.assignment.proofs.CheckLaws.{number-unbroken}
use Rattle.netsearch.proofs.DeadLaws.{broken-none}
use Rattle.netsearch.proofs.CarryLaws.{relisted-sym}
use Rattle.netsearch.proofs.LegalLaws.{byte_of-track_at, each-place}
use Rattle.routing.specs.Equivalent.{EnoughSpace}
use Rattle.routing.specs.Outcomes.{Inputs, width_in, nets_in, out_conditions, overwrite, board_in, unknown_net}
use Rattle.routing.specs.Remove.{remove_number, left_of, left_at, without, remove_output, HasNet}
use Rattle.routing.proofs.RefusalLaws.{space-zero, zero-space}

-- ---- left_of

pub left-unrouted : (ts : List ℕ) → unrouted (map (left_of true) ts) ≡ true
unfolding unrouted every_in
left-unrouted [] = refl
left-unrouted (t ∷ ts) = left-unrouted ts

pub left-same : (ts : List ℕ) → map (left_of false) ts ≡ ts
left-same [] = refl
left-same (t ∷ ts) = ap (λ (r : List ℕ). t ∷ r) (left-same ts)

-- ---- without

-- what is left of the bytes of net k, where the net number x is taken out of b
abbrev pub left_part : List Net → ℕ → List ℕ → ℕ → List ℕ
left_part ns x b k = build (size (net_in ns k)) (left_at ns x b k)

pub left_part-length : (ns : List Net) (x : ℕ) (b : List ℕ) (k : ℕ) → length (left_part ns x b k) ≡ size (net_in ns k)
left_part-length ns x b k = build-length (size (net_in ns k)) (left_at ns x b k)

-- those of the nets before k end where the bytes of net k start
lefts-length : (ns : List Net) (x : ℕ) (b : List ℕ) (k : ℕ) → k ≤ length ns → length (joined k (left_part ns x b)) ≡ first_byte ns k
lefts-length ns x b zero h = ap length (joined-none (left_part ns x b)) ∙ sym (first_byte-none ns)
lefts-length ns x b (suc k) h =
    ap (λ (j : ℕ). length (joined j (left_part ns x b))) (sym (add-one k))
    ∙ omega (
      arith,
      ap length (joined-more k (left_part ns x b)),
      length-append (joined k (left_part ns x b)) (left_part ns x b k),
      left_part-length ns x b k,
      lefts-length ns x b k (omega arith),
      first_byte-more ns k (omega arith),
    )
    ∙ ap (first_byte ns) (add-one k)

pub without-length : (ns : List Net) (x : ℕ) (b : List ℕ) → length (without ns x b) ≡ entry_count ns
unfolding without
without-length ns x b = lefts-length ns x b (length ns) (omega arith) ∙ first_byte-all ns

module _ (ns : List Net) (x : ℕ) (b : List ℕ) (whole : length b ≡ entry_count ns) where
  -- byte by byte
  pub left_part-map : (k : ℕ) → k < length ns → left_part ns x b k ≡ map (left_of (eqb (net_in ns k).number x)) (tracks_of ns b k)
  left_part-map k h =
      let f = left_of (eqb (net_in ns k).number x) in
      let l = tracks_of-length ns b k whole h in
      ext_get_or 0 _ _ (left_part-length ns x b k ∙ sym (length-map (tracks_of ns b k) f ∙ l)) (λ i m.
      let n : i < size (net_in ns k) = omega (arith, left_part-length ns x b k) in
      build-at (size (net_in ns k)) (left_at ns x b k) i 0 n ∙ sym (map_at f (tracks_of ns b k) 0 i (omega arith)))

  pub tracks_of-without : (k : ℕ) → k < length ns → tracks_of ns (without ns x b) k ≡ map (left_of (eqb (net_in ns k).number x)) (tracks_of ns b k)
  unfolding without tracks_of
  tracks_of-without k h =
      ap₂ (λ (m n : ℕ). take m (drop n (joined (length ns) (left_part ns x b)))) (sym (left_part-length ns x b k)) (sym (lefts-length ns x b k (omega arith)))
      ∙ joined-part (length ns) (left_part ns x b) k h
      ∙ left_part-map k h

  -- of the net that is taken out, and of any other
  pub without-own : (k : ℕ) → k < length ns → (net_in ns k).number ≡ x → tracks_of ns (without ns x b) k ≡ map (left_of true) (tracks_of ns b k)
  without-own k h e =
      tracks_of-without k h ∙ ap (λ (q : Bool). map (left_of q) (tracks_of ns b k)) (eq-eqb (net_in ns k).number x e)

  pub without-others : (k : ℕ) → k < length ns → (net_in ns k).number ≢ x → tracks_of ns (without ns x b) k ≡ tracks_of ns b k
  without-others k h e =
      tracks_of-without k h
      ∙ ap (λ (q : Bool). map (left_of q) (tracks_of ns b k)) (ne_eqb (net_in ns k).number x e)
      ∙ left-same (tracks_of ns b k)

  -- the byte for a net number and channel
  pub byte_of-without : (meet : ℕ → ℕ → Bool) → Accepted meet ns → (n : Net) → In n ns → (c : ℕ) → has n c ≡ true
      → byte_of ns (without ns x b) n.number c ≡ left_of (eqb n.number x) (byte_of ns b n.number c)
  byte_of-without meet A = each-place meet ns A b _ (λ k h c q.
      let n = net_in ns k in
      let taken = left_of (eqb n.number x) in
      let e = has-entry n c q in
      byte_of-track_at meet ns A (without ns x b) k c h q
      ∙ ap (λ (ts : List ℕ). get_or ts (entry_of n c) 0) (tracks_of-without k h)
      ∙ map_at taken (tracks_of ns b k) 0 (entry_of n c) (omega (arith, tracks_of-length ns b k whole h, e.0))
      ∙ ap taken (sym (byte_of-track_at meet ns A b k c h q)))

-- ---- unknown_net

abbrev number : Net → ℕ
number n = n.number

module _ (ns : List Net) (x : ℕ) where
  -- x is the number of a net
  abbrev known : Bool
  known = memb x (map number ns)

  net-known : (k : ℕ) → k < length ns → number (net_in ns k) ≡ x → known ≡ true
  net-known k h e =
      ap (λ (y : ℕ). memb y (map number ns)) (sym e ∙ sym (map_at number ns no_net k h))
      ∙ memb-at (map number ns) k (omega (arith, length-map ns number))

  known-net : known ≡ true → HasNet ns x
  known-net e =
      let r = memb-place x (map number ns) e in
      let h : place x (map number ns) < length ns = omega (arith, length-map ns number, r.0) in
      (place x (map number ns), h, sym (map_at number ns no_net (place x (map number ns)) h) ∙ r.1)

  pub unknown_net-false : (unknown_net ns x ≡ false) ↔ HasNet ns x
  unfolding unknown_net
  unknown_net-false = ((λ e. known-net (not-false _ e)), (λ h. ap not (net-known h.0 h.1 h.2)))

  pub unknown_net-true : (unknown_net ns x ≡ true) ↔ (HasNet ns x → ⊥)
  unfolding unknown_net
  unknown_net-true = ((λ e h. true≢false (sym e ∙ unknown_net-false.1 h)), (λ n. not-passed _ (λ e. n (known-net e))))

  -- net by net
  unknown_net-every : unknown_net ns x ≡ every (length ns) (λ k. not (eqb (number (net_in ns k)) x))
  unfolding unknown_net
  unknown_net-every =
      same_test _ _
      (λ e. at_every (length ns) _ (λ k h. not-passed _ (λ q. true≢false (sym (net-known k h (eqb-true _ _ q)) ∙ not-true _ e))))
      (λ e. not-passed _ (λ q.
      let r = known-net q in true≢false (sym (eq-eqb _ _ r.2) ∙ not-true _ (every-at (length ns) _ e r.0 r.1))))

-- of a sheet's nets, as a loop tests them
pub unknown_net-sheet : (s : List ℕ) (x : ℕ) → unknown_net (nets s) x ≡ every (net_count s) (λ k. not (eqb (net_at s k).number x))
unknown_net-sheet s x =
    unknown_net-every (nets s) x
    ∙ ap (λ (m : ℕ). every m (λ k. not (eqb (number (net_in (nets s) k)) x))) (nets-length s)
    ∙ every-same (net_count s) _ _ (λ k h. ap (λ (n : Net). not (eqb (number n) x)) (net_in-nets s k h))

known-there : (ns ms : List Net) (x : ℕ) → Relisted ns ms → known ns x ≡ true → known ms x ≡ true
known-there ns ms x r e =
    let k = known-net ns x e in
    let m = r.there (net_in ns k.0) (place_in ns k.0 k.1) in
    let p = in_place ms m.0 m.1 in
    net-known ms x p.0 p.1 (ap number p.2 ∙ sym m.2.number ∙ k.2)

-- relisted nets have the same numbers
pub unknown_net-resp : (ns ms : List Net) (x : ℕ) → Relisted ns ms → unknown_net ns x ≡ unknown_net ms x
unfolding unknown_net
unknown_net-resp ns ms x r = ap not (same_test _ _ (known-there ns ms x r) (known-there ms ns x (relisted-sym ns ms r)))

-- ---- remove_number

-- the ticket's number, under a list d
abbrev pub number_under : Inputs → List ℕ → ℕ
number_under i d = assignment_number true (board_of i.sheet d) (width_in i) (nets_in i) i.old

-- under none
abbrev pub old_number : Inputs → ℕ
old_number i = number_under i []

-- 10 to 13 of the ticket, and 17 and 14
abbrev pub own_conditions : Inputs → List (ℕ × Bool)
own_conditions i = track_conditions true (board_in i) (width_in i) (nets_in i) i.old ++ clash_conditions true (nets_in i) i.old

abbrev pub stranger_conditions : Inputs → ℕ → List (ℕ × Bool)
stranger_conditions i x = (stranger_no, unknown_net (nets_in i) x) ∷ out_conditions i

-- Remove tests its ticket as Refit does with the empty list
pub old_number-own : (i : Inputs) → old_number i ≡ first_number (own_conditions i)
old_number-own i =
    number-unbroken true (board_of i.sheet []) (width_in i) (nets_in i) i.old (broken-none true (nets_in i) i.old)

module _ (i : Inputs) (x : ℕ) where
  pub remove_number-accepted : WellFormed i.sheet → remove_number i x ≡ or_number (old_number i) (first_number (stranger_conditions i x))
  unfolding remove_number refusal
  remove_number-accepted a =
      first_number-rest (sheet_conditions i.sheet) (own_conditions i ++ stranger_conditions i x) refl a
      ∙ first_number-append (own_conditions i) (stranger_conditions i x) refl
      ∙ ap (λ (n : ℕ). or_number n (first_number (stranger_conditions i x))) (sym (old_number-own i))

  pub remove_number-refused : refusal i.sheet ≢ 0 → remove_number i x ≡ refusal i.sheet
  unfolding remove_number refusal
  remove_number-refused = first_number-before (sheet_conditions i.sheet) (own_conditions i ++ stranger_conditions i x) refl

  pub late-unknown : unknown_net (nets_in i) x ≡ true → first_number (stranger_conditions i x) ≡ stranger_no
  unfolding first_number
  late-unknown e = rw (e, first_number)

  pub late-known : unknown_net (nets_in i) x ≡ false → first_number (stranger_conditions i x) ≡ first_number (out_conditions i)
  unfolding first_number
  late-known e = rw (e, first_number)

  -- what 0 says: no number applies
  pub record Accepts : Type 0 where
    pub accepted : WellFormed i.sheet
    pub ticket : old_number i ≡ 0
    pub known : unknown_net (nets_in i) x ≡ false
    pub space : EnoughSpace i

  pub remove_number-zero : remove_number i x ≡ 0 → Accepts
  unfolding remove_number refusal
  remove_number-zero e =
      let a = first_number-both (sheet_conditions i.sheet) (own_conditions i ++ stranger_conditions i x) refl e in
      let b = first_number-both (own_conditions i) (stranger_conditions i x) refl a.1 in
      let k = at (unknown_net (nets_in i) x) refl b.1 in
      record { accepted = a.0; ticket = old_number-own i ∙ b.0; known = k; space = space-zero i (sym (late-known k) ∙ b.1) }
    where
      at : (q : Bool) → unknown_net (nets_in i) x ≡ q → first_number (stranger_conditions i x) ≡ 0 → unknown_net (nets_in i) x ≡ false
      at true u z = absurd (omega (arith, late-unknown u))
      at false u z = u

  pub zero-remove_number : Accepts → remove_number i x ≡ 0
  zero-remove_number a =
      remove_number-accepted a.accepted ∙ or_number-second _ _ a.ticket ∙ late-known a.known ∙ zero-space i a.space

  -- ---- remove_output

  pub remove_output-zero : remove_number i x ≡ 0 → remove_output i x ≡ overwrite (without (nets_in i) x i.old) i.out
  unfolding remove_output
  remove_output-zero e = rw (e, remove_output)

  pub remove_output-refused : remove_number i x ≢ 0 → remove_output i x ≡ i.out
  unfolding remove_output
  remove_output-refused n = at (remove_number i x) refl
    where
      at : (k : ℕ) → remove_number i x ≡ k → elim k [ zero ↦ overwrite (without (nets_in i) x i.old) i.out | suc m ↦ i.out ] ≡ i.out
      at zero e = absurd (n e)
      at (suc m) e = refl
