-- "Least … reads no W but the check on it." (01 "The job"). Assumes nothing.
-- least-any-width: two accepted sheets that differ in W alone have the same answer and output of Least. legal-any-width: and at each width
-- the same legal assignments.
use mathlib.Core.Path.{◌≡◌, refl, sym, subst, ap, ap₂, ◌∙◌}
use mathlib.Core.Logic.{◌↔◌}
use Prim.Native.Nat.{ℕ, ◌+◌, ◌-◌, ◌*◌, ◌≤◌, ◌<◌}
use native.Mathlib.Omega.{arith}
use mathlib.Core.List.{List}
use lib.ListN.{length, get_or, take, drop, length-drop}
use lib.Seq.{length-take-le, get_or-take, get_or-drop, ext_get_or}
use Rattle.switchbox.specs.declared.Fabric.{Fabric}
use Rattle.net.specs.Net.{Net, Mark, short, long, number_size, u16_at, net_of, count_at, channel_place, parent_place, record_length, no_parent}
use Rattle.net.specs.Nets.{no_net}
use Rattle.net.proofs.NetLaws.{u16_at-part, number_size-short, number_size-long, net_of-size, net_of-channel, net_of-parent, parents_right-first}
use Rattle.netlist.specs.Netlist.{mark_of, trailer_of, grid_of, number_size_of, net_count, directory_of, offset_of, record_part, record_bytes, net_at, nets, WellFormed}
use Rattle.netlist.proofs.NetlistLaws.{directory-good, start_of-below, readable-directory, readable-fits, record-whole, nets-length, nets-at, well_formed-readable}
use Rattle.defects.specs.Defects.{is_dead}
use Rattle.assignment.specs.Assignment.{Legal, LegalAt}
use Rattle.assignment.proofs.AssignmentLaws.{net-parents, net-channel-lt}
use Rattle.routing.specs.Equivalent.{SameButWidth}
use Rattle.routing.specs.Outcomes.{Inputs, with_sheet, answer_of, output_of}
use Rattle.routing.proofs.ListingTheorems.{least-by-listing, fabric_board}
use Rattle.netsearch.specs.declared.Search.{Search}
use Rattle.routing.specs.declared.Call.TheVariants.{Least}

-- ---- the mark

module _ (s : List ℕ) (a : WellFormed s) (h : 0 < net_count s) where
  -- a u16 of the first record stands at its place in the sheet, since that record stands at offset 0
  first_field : (j : ℕ) → j + 1 < record_length (number_size_of s) (count_at (number_size_of s) s (offset_of s 0)) → u16_at (record_bytes s 0) j ≡ u16_at s j
  unfolding record_bytes record_part
  first_field j l =
      let o = sym (start_of-below s 0 h) ∙ (directory-good (well_formed-readable s a).directory).first in
      u16_at-part s (offset_of s 0) (record_length (number_size_of s) (count_at (number_size_of s) s (offset_of s 0))) j l ∙ ap (u16_at s) (omega arith)

  first-filled : 1 ≤ count_at (number_size_of s) (record_bytes s 0) 0
  first-filled = (record-whole (well_formed-readable s a) 0 h).filled

  -- the first entry's channel is below 480, and its parent is 65535
  first-channel : u16_at s (channel_place (number_size_of s) 0) < 480
  first-channel =
      let z = net_of-size (number_size_of s) (record_bytes s 0) in
      let f = first-filled in
      let d = readable-fits (well_formed-readable s a) 0 h in
      let e = net_of-channel (number_size_of s) (record_bytes s 0) 0 (omega arith) in
      let l = net-channel-lt s a 0 0 h (omega arith) in
      let g = first_field (channel_place (number_size_of s) 0) (omega arith) in
      omega arith

  first-parent : u16_at s (parent_place (number_size_of s) 0) ≡ no_parent
  first-parent =
      let z = net_of-size (number_size_of s) (record_bytes s 0) in
      let f = first-filled in
      let d = readable-fits (well_formed-readable s a) 0 h in
      let e = net_of-parent (number_size_of s) (record_bytes s 0) 0 (omega arith) in
      let g = first_field (parent_place (number_size_of s) 0) (omega arith) in
      sym g ∙ sym e ∙ parents_right-first (grid_of s) (net_at s 0) (net-parents s a 0 h) (omega arith)

-- a sheet with nets and the same bytes before the trailer has the same mark: where the short mark has the first parent, 65535, the long one has
-- the first channel
not-both : (s t : List ℕ) (a : WellFormed s) (b : WellFormed t) → 0 < net_count s → 0 < net_count t → u16_at s 6 ≡ u16_at t 6
    → mark_of s ≡ short → mark_of t ≡ long → ⊥
unfolding trailer_of
not-both s t a b h k e m n =
    let x : number_size_of s ≡ 2 = ap number_size m ∙ number_size-short in
    let y : number_size_of t ≡ 4 = ap number_size n ∙ number_size-long in
    let p : u16_at s 6 ≡ no_parent = ap (λ (z : ℕ). u16_at s (parent_place z 0)) (sym x) ∙ first-parent s a h in
    let c : u16_at t 6 < 480 = subst (λ (z : ℕ). u16_at t (channel_place z 0) < 480) y (first-channel t b k) in
    omega arith

module _ (s t : List ℕ) (a : WellFormed s) (b : WellFormed t) (S : SameButWidth s t) where
  -- bytes before the trailer
  byte-same : (i j : ℕ) → i ≡ j → i < length s - 12 → get_or s i 0 ≡ get_or t j 0
  byte-same i j e l =
      let z = S.sized in
      sym (get_or-take (length s - 12) s i 0 l)
      ∙ ap (λ (b : List ℕ). get_or b i 0) S.before
      ∙ get_or-take (length t - 12) t i 0 (omega arith)
      ∙ ap (λ (k : ℕ). get_or t k 0) e

  u16-same : (i j : ℕ) → i ≡ j → i + 1 < length s - 12 → u16_at s i ≡ u16_at t j
  unfolding u16_at
  u16-same i j e l = ap₂ (λ (x y : ℕ). x + y * 256) (byte-same i j e (omega arith)) (byte-same (i + 1) (j + 1) (omega arith) l)

  offset-same : (k : ℕ) → k < net_count s → offset_of s k ≡ offset_of t k
  offset-same k l =
      let d = readable-directory (well_formed-readable s a) in
      u16-same (directory_of s + 2 * k) (directory_of t + 2 * k) (omega (arith, S.directory)) (omega arith)

  part_same : (o n : ℕ) → o + n + 12 ≤ length s → take n (drop o s) ≡ take n (drop o t)
  part_same o n h =
      let z = S.sized in
      let p : length (take n (drop o s)) ≡ n = length-take-le n (drop o s) (omega (arith, length-drop o s)) in
      let q : length (take n (drop o t)) ≡ n = length-take-le n (drop o t) (omega (arith, length-drop o t)) in
      ext_get_or 0 _ _ (p ∙ sym q) (λ i l.
      get_or-take n (drop o s) i 0 (omega arith) ∙ get_or-drop o s i 0 ∙ byte-same (o + i) (o + i) refl (omega arith)
      ∙ sym (get_or-take n (drop o t) i 0 (omega arith) ∙ get_or-drop o t i 0))

  size_same : 0 < net_count s → number_size_of s ≡ number_size_of t
  unfolding trailer_of
  size_same h = at (mark_of s) (mark_of t) refl refl
    where
      sixth : u16_at s 6 ≡ u16_at t 6
      sixth = let f = readable-fits (well_formed-readable s a) 0 h in u16-same 6 6 refl (omega (arith, readable-directory (well_formed-readable s a)))

      at : (m n : Mark) → mark_of s ≡ m → mark_of t ≡ n → number_size_of s ≡ number_size_of t
      at short short e f = ap number_size (e ∙ sym f)
      at long long e f = ap number_size (e ∙ sym f)
      at short long e f = absurd (not-both s t a b h (omega (arith, S.count)) sixth e f)
      at long short e f = absurd (not-both t s b a (omega (arith, S.count)) h (sym sixth) f e)

  record_same : (k : ℕ) → k < net_count s → record_bytes s k ≡ record_bytes t k
  unfolding record_bytes record_part
  record_same k l =
      let z = size_same (omega arith) in
      let f = readable-fits (well_formed-readable s a) k l in
      let d = readable-directory (well_formed-readable s a) in
      let o = offset-same k l in
      let n : count_at (number_size_of s) s (offset_of s k) ≡ count_at (number_size_of t) t (offset_of t k) = u16-same _ _ (omega arith) (omega arith) in
      let m : record_length (number_size_of s) (count_at (number_size_of s) s (offset_of s k)) ≡ record_length (number_size_of t) (count_at (number_size_of t) t (offset_of t k)) = omega arith in
      part_same (offset_of s k) (record_length (number_size_of s) (count_at (number_size_of s) s (offset_of s k))) (omega arith)
      ∙ ap₂ (λ (x y : ℕ). take x (drop y t)) m o

  pub nets-same : nets s ≡ nets t
  nets-same = ext_get_or no_net (nets s) (nets t) (nets-length s ∙ S.count ∙ sym (nets-length t)) (λ k l.
      let h : k < net_count s = omega (arith, nets-length s) in
      nets-at s k no_net h ∙ ap₂ net_of (size_same (omega arith)) (record_same k h) ∙ sym (nets-at t k no_net (omega (arith, S.count))))

  pub legal-any-width : (d : List ℕ) (w : ℕ) (x : List ℕ) → LegalAt s d w x ↔ LegalAt t d w x
  legal-any-width d w x =
      let e = ap₂ (λ (f : Fabric) (ns : List Net). Legal (fabric_board f (is_dead d)) w ns x) S.fabric nets-same in
      (subst (λ (A : Type 0). A) e, subst (λ (A : Type 0). A) (sym e))

pub least-any-width : (h : Search) (i : Inputs) (t : List ℕ) → WellFormed i.sheet → WellFormed t → SameButWidth i.sheet t
    → (answer_of (Least h) i ≡ answer_of (Least h) (with_sheet i t)) × (output_of (Least h) i ≡ output_of (Least h) (with_sheet i t))
least-any-width h i t a b S = least-by-listing i t a b S.fabric (nets-same i.sheet t a b S) h
