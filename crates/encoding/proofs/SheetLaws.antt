-- A netlist file that is read, beside the bytes made of its nets (specs/Encoding.antt). Assumes nothing.
-- size-read: the size of a net of it. directory-start_at, directory-end, sheet-length: its records start, its directory stands and its end lies where those of its nets would.
-- fabric-rowed: its rows are as a sheet has them. trailer-kept: its rows and its trailer are those of as many nets whose records are as long
-- together.
use mathlib.Core.Path.{◌≡◌, refl, sym, ap, ap₂, ◌∙◌}
use mathlib.Core.List.{List, [], ◌∷◌, ◌++◌}
use Prim.Native.Nat.{ℕ, zero, suc, ◌+◌, ◌-◌, ◌*◌, ◌≤◌, ◌<◌}
use native.Mathlib.Omega.{arith}
use native.Mathlib.Numerals.{add-one}
use native.Mathlib.Decide.{ℕ_discrete}
use lib.ListN.{length, get_or, take, drop, length-drop, take-append-drop}
use lib.Seq.{get_or-drop, take-take, drop-drop, ext_get_or}
use Rattle.bounded.specs.Bounded.{build}
use Rattle.bounded.proofs.BoundedLaws.{build-length, build-at}
use Rattle.net.specs.Net.{Net, number_size, u16_at, count_at, record_length, size}
use Rattle.net.proofs.NetLaws.{count_at-part, net_of-size}
use Rattle.switchbox.specs.SwitchBox.{rows_kind, rows_length, rows_size}
use Rattle.switchbox.proofs.RowLaws.{rows_size-own, rows_size-none, rows_size-le}
use Rattle.net.specs.Nets.{no_net, net_in}
use Rattle.netlist.specs.Netlist.{first_mark, mark_byte, mark_of, trailer_length, trailer_of, number_size_of, kind_of, rows_of, fabric_of, width_of, net_count, directory_of, offset_of, start_of, record_part, record_bytes, nets}
use Rattle.netlist.specs.Facts.{Readable}
use Rattle.netlist.proofs.NetlistLaws.{marked-byte, size_at, directory-good, rows_of-own, rows_of-none, start_of-below, start_of-end, readable-length, readable-directory, rows-length, nets-length, nets-at}
use Rattle.encoding.specs.Encoding.{u16_bytes, start_at, row_bytes, sheet_length, trailer_bytes, Rowed}
use Rattle.encoding.proofs.RecordLaws.{u16_at-drop, u16_bytes-read}
use Rattle.encoding.proofs.EncodingLaws.{start_at-none, start_at-more}

-- ---- start_at

-- how many bytes a net number has is told by the mark
pub size-marked : (s : List ℕ) → number_size_of s ≡ number_size (mark_of s)
unfolding trailer_of
size-marked s = refl

module _ (s : List ℕ) (r : Readable s) where
  -- the size of a net that is read is the one its record says
  pub size-read : (k : ℕ) → k < net_count s → size (net_in (nets s) k) ≡ size_at s k
  unfolding record_bytes record_part
  size-read k h =
      ap size (nets-at s k no_net h)
      ∙ net_of-size (number_size_of s) (record_bytes s k)
      ∙ count_at-part (number_size_of s) s (offset_of s k) (record_length (number_size_of s) (count_at (number_size_of s) s (offset_of s k))) (omega arith)
      ∙ ap (count_at (number_size_of s) s) (sym (start_of-below s k h))

  pub directory-start_at : (k : ℕ) → k ≤ net_count s → start_of s k ≡ start_at (mark_of s) (nets s) k
  directory-start_at zero h = (directory-good r.directory).first ∙ sym (start_at-none (mark_of s) (nets s))
  directory-start_at (suc k) h =
      let e = directory-start_at k (omega arith) in
      let f = (directory-good r.directory).fits k (omega arith) in
      let n = size-read k (omega arith) in
      let more = start_at-more (mark_of s) (nets s) k in
      let z : number_size_of s ≡ number_size (mark_of s) = size-marked s in
      let next : start_of s (k + 1) ≡ start_at (mark_of s) (nets s) (k + 1) = omega (arith, f.next) in
      ap (start_of s) (sym (add-one k)) ∙ next ∙ ap (start_at (mark_of s) (nets s)) (add-one k)

  pub directory-end : directory_of s ≡ start_at (mark_of s) (nets s) (length (nets s))
  directory-end =
      sym (start_of-end s (net_count s) (omega arith)) ∙ directory-start_at (net_count s) (omega arith) ∙ ap (start_at (mark_of s) (nets s)) (sym (nets-length s))

  pub sheet-length : length s ≡ sheet_length (mark_of s) (fabric_of s) (nets s)
  sheet-length = omega (arith, readable-directory r, directory-end, nets-length s)

-- ---- row_bytes

pub fabric-rowed : {s : List ℕ} → Readable s → Rowed (fabric_of s)
fabric-rowed {s} r = record { sized = rows-length r; none = rows_of-none s }

-- the rows stand behind the directory
rows-kept : (s : List ℕ) → Readable s → take (rows_size (kind_of s)) (drop (directory_of s + 2 * net_count s) s) ≡ row_bytes (fabric_of s)
unfolding row_bytes
rows-kept s r = at (ℕ_discrete (kind_of s) rows_kind)
  where
    at : Dec (kind_of s ≡ rows_kind) → take (rows_size (kind_of s)) (drop (directory_of s + 2 * net_count s) s) ≡ take (rows_size (kind_of s)) (rows_of s)
    at (yes e) =
        let place : directory_of s + 2 * net_count s ≡ length s - trailer_length - rows_length = omega (arith, readable-directory r, rows_size-own (kind_of s) e) in
        ap (λ (k : ℕ). take (rows_size (kind_of s)) (drop k s)) place
        ∙ sym (take-take (rows_size (kind_of s)) rows_length (drop (length s - trailer_length - rows_length) s) (rows_size-le (kind_of s)))
        ∙ ap (take (rows_size (kind_of s))) (sym (rows_of-own s e))
    at (no e) =
        let none = rows_size-none (kind_of s) e in
        ap (λ (m : ℕ). take m (drop (directory_of s + 2 * net_count s) s)) none ∙ ap (λ (m : ℕ). take m (rows_of s)) (sym none)

-- ---- trailer_bytes

-- a list is built from its elements
build-elements : (k : ℕ) (t : List ℕ) → length t ≡ k → build k (λ j. get_or t j 0) ≡ t
build-elements k t e =
    let l = build-length k (λ j. get_or t j 0) in
    ext_get_or 0 (build k (λ j. get_or t j 0)) t (l ∙ sym e) (λ i h. build-at k (λ j. get_or t j 0) i 0 (omega arith))

module _ (s : List ℕ) (r : Readable s) (bytes : (k : ℕ) → get_or s k 0 < 256) where
  -- where the trailer starts
  abbrev at : ℕ
  at = length s - trailer_length

  -- the bytes of a u16 of the trailer
  field-bytes : (j x : ℕ) → u16_at s (at + j) ≡ x → u16_bytes x ≡ get_or (drop at s) j 0 ∷ get_or (drop at s) (j + 1) 0 ∷ []
  field-bytes j x e =
      ap u16_bytes (sym e ∙ sym (u16_at-drop s at j)) ∙ u16_bytes-read (drop at s) j (omega (arith, get_or-drop at s j 0, bytes (at + j)))

  -- the trailer is that of any nets, as many and with records as long together
  trailer-own : (ns : List Net) → length ns ≡ net_count s → start_at (mark_of s) ns (length ns) ≡ directory_of s → drop at s ≡ trailer_bytes (mark_of s) (fabric_of s) (width_of s) ns
  unfolding trailer_bytes trailer_of build
  trailer-own ns count start =
      let long = readable-length r in
      let sum = readable-directory r in
      let mark = marked-byte s r.mark in
      let whole : length (drop at s) ≡ trailer_length = omega (arith, length-drop at s) in
      let c : get_or (drop at s) 0 0 ≡ get_or s at 0 = get_or-drop at s 0 0 ∙ ap (λ (j : ℕ). get_or s j 0) (omega arith) in
      let n = field-bytes 4 (length ns) (sym count) in
      let d = field-bytes 6 (start_at (mark_of s) ns (length ns)) (sym start) in
      let field : at + 8 ≡ length s - 4 = omega arith in
      let l = field-bytes 8 (sheet_length (mark_of s) (fabric_of s) ns) (ap (u16_at s) field ∙ mark.2 ∙ omega arith) in
      let first : get_or (drop at s) 10 0 ≡ first_mark = get_or-drop at s 10 0 ∙ ap (λ (j : ℕ). get_or s j 0) (omega arith) ∙ mark.0 in
      let second : get_or (drop at s) 11 0 ≡ mark_byte (mark_of s) = get_or-drop at s 11 0 ∙ ap (λ (j : ℕ). get_or s j 0) (omega arith) ∙ mark.1 in
      sym (build-elements trailer_length (drop at s) whole)
      ∙ (λ i. c i ∷ get_or-drop at s 1 0 i ∷ get_or-drop at s 2 0 i ∷ get_or-drop at s 3 0 i ∷ (sym n i ++ (sym d i ++ (sym l i ++ (first i ∷ second i ∷ [])))))

  -- behind the directory stand the rows and the trailer of such nets
  pub trailer-kept : (ns : List Net) → length ns ≡ net_count s → start_at (mark_of s) ns (length ns) ≡ directory_of s
      → drop (directory_of s + 2 * net_count s) s ≡ row_bytes (fabric_of s) ++ trailer_bytes (mark_of s) (fabric_of s) (width_of s) ns
  trailer-kept ns count start =
      let k : ℕ = directory_of s + 2 * net_count s in
      let m : ℕ = rows_size (kind_of s) in
      let place : k + m ≡ at = omega (arith, readable-directory r) in
      sym (take-append-drop m (drop k s))
      ∙ ap₂ ◌++◌ (rows-kept s r) (drop-drop m k s ∙ ap (λ (j : ℕ). drop j s) place ∙ trailer-own ns count start)
