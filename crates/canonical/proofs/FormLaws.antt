-- The canonical form of a sheet (specs/Canonical.antt, `canonical_form`). Assumes nothing.
-- form-read: what it is read as. form-accepted, form-length, form-equivalent: it is accepted, as long as the sheet and equivalent
-- to it. form-order: its nets stand as 02 says. form-in-resp: equivalent sheets have one form with each mark.
-- form-resp: and one standard form, if they have one mark.
use mathlib.Core.Path.{◌≡◌, sym, subst, ap, ap₂, ◌∙◌}
use Prim.Native.Nat.{ℕ, zero, suc, ◌+◌, ◌*◌, ◌≤◌, ◌<◌}
use native.Mathlib.Omega.{arith}
use native.Mathlib.Numerals.{add-one}
use native.Mathlib.Decide.{dec_lt}
use native.Mathlib.Nat.{mul-zero, mul-suc}
use mathlib.Core.List.{List}
use mathlib.Core.Bool.{true}
use lib.ListN.{length}
use Rattle.switchbox.specs.declared.Fabric.{Fabric}
use Rattle.grid.specs.Grid.{meet}
use Rattle.grid.proofs.GridLaws.{meet-sym}
use Rattle.net.specs.Net.{Net, Mark, number_size, size, record_length, max_entries, channels_known, channels_differ, parents_right}
use Rattle.net.specs.Nets.{net_in}
use Rattle.netlist.specs.Netlist.{WellFormed, mark_of, fabric_of, grid_of, width_of, nets}
use Rattle.netlist.proofs.NetlistLaws.{fabric-grid, fabric-kind, well_formed-readable, readable-allowed, readable-width, rows-length}
use Rattle.rank.specs.Rank.{rising}
use Rattle.rank.proofs.OrderLaws.{rising-entries}
use Rattle.assignment.specs.Assignment.{first_byte}
use Rattle.assignment.proofs.AssignmentLaws.{first_byte-none, first_byte-more, first_byte-all}
use Rattle.encoding.specs.Encoding.{start_at, encode, ReadAs}
use Rattle.encoding.specs.Facts.{entry_length}
use Rattle.encoding.proofs.AcceptedLaws.{Listable, encode-accepted, accepted-listable}
use Rattle.encoding.proofs.SheetLaws.{sheet-length, fabric-rowed}
use Rattle.encoding.proofs.EncodingLaws.{start_at-none, start_at-more, encode-length, encode-read}
use Rattle.routing.specs.Equivalent.{SameNets, Equivalent}
use Rattle.routing.proofs.EquivalentLaws.{equivalent-fabric}
use Rattle.canonical.specs.Canonical.{canonical_nets, canonical_in, canonical_form}
use Rattle.canonical.specs.Standard.{InTreeOrder, InCanonicalOrder}
use Rattle.canonical.proofs.CanonicalLaws.{canonical-size}
use Rattle.canonical.proofs.SameNetLaws.{canonical-order}
use Rattle.canonical.proofs.NetsLaws.{accepted, low, canonical_nets-same, canonical_nets-resp, canonical_nets-length, entries-kept, each-canonical, each-listed, net-known, net-differing, net-rooted, canonical_nets-rising}

-- ---- canonical_form

-- where the directory starts, by the number of nets and of entries
start-sum : (mark : Mark) (ns : List Net) (k : ℕ) → k ≤ length ns → start_at mark ns k ≡ record_length (number_size mark) 0 * k + entry_length * first_byte ns k
start-sum mark ns zero h = omega (arith, start_at-none mark ns, first_byte-none ns, mul-zero (record_length (number_size mark) 0))
start-sum mark ns (suc k) h =
    ap (start_at mark ns) (sym (add-one k))
    ∙ omega (
      arith,
      start_at-more mark ns k,
      start-sum mark ns k (omega arith),
      mul-suc (record_length (number_size mark) 0) k,
      first_byte-more ns k (omega arith),
      ap (first_byte ns) (add-one k),
    )

-- it is as long as the sheet whose nets it has
sheet_length-kept : (mark : Mark) (s : List ℕ) → start_at mark (canonical_nets s) (length (canonical_nets s)) ≡ start_at mark (nets s) (length (nets s))
sheet_length-kept mark s =
    let e = canonical_nets-length s in
    omega (
      arith,
      start-sum mark (canonical_nets s) (length (canonical_nets s)) (omega arith),
      start-sum mark (nets s) (length (nets s)) (omega arith),
      ap (λ (k : ℕ). record_length (number_size mark) 0 * k) e,
      first_byte-all (canonical_nets s),
      first_byte-all (nets s),
      entries-kept (rising (nets s)),
      rising-entries (nets s),
    )

module _ (s : List ℕ) (A : WellFormed s) where
  -- the same grid, kind, rows and W, and the nets in canonical form
  pub form-read : ReadAs (canonical_form s) (mark_of s) (fabric_of s) (width_of s) (canonical_nets s)
  unfolding canonical_form
  form-read = encode-read (mark_of s) (fabric_of s) (width_of s) (canonical_nets s) (fabric-rowed (well_formed-readable s A))

  canonical-listable : Listable (grid_of s) (canonical_nets s)
  canonical-listable =
      let L = accepted-listable s A in
      record {
        few = omega (arith, canonical_nets-length s, L.few);
        filled = each-canonical s A (λ m. 1 ≤ size m) (λ n i. omega (arith, canonical-size n, (accepted s A n i).filled));
        short = each-canonical s A (λ m. size m ≤ max_entries) (λ n i. omega (arith, canonical-size n, each-listed s A (λ x. size x ≤ max_entries) L.short n i));
        known = each-canonical s A (λ m. channels_known (grid_of s) m ≡ true) (net-known s A);
        differing = each-canonical s A (λ m. channels_differ m ≡ true) (net-differing s A);
        rooted = each-canonical s A (λ m. parents_right (grid_of s) m ≡ true) (net-rooted s A);
        named = λ k l h o e. named k l h o e (dec_lt k l) (dec_lt l k);
      }
    where
      named : (k l : ℕ) → k < length (canonical_nets s) → l < length (canonical_nets s) → (net_in (canonical_nets s) k).number ≡ (net_in (canonical_nets s) l).number → Dec (k < l) → Dec (l < k) → k ≡ l
      named k l h o e (yes p) q = absurd (omega (arith, canonical_nets-rising s A k l p o))
      named k l h o e (no p) (yes q) = absurd (omega (arith, canonical_nets-rising s A l k q h))
      named k l h o e (no p) (no q) = omega arith

  -- what is written is accepted
  pub form-accepted : WellFormed (canonical_form s)
  unfolding canonical_form
  form-accepted =
      let r = well_formed-readable s A in
      encode-accepted (mark_of s) (fabric_of s) (width_of s) (canonical_nets s) (fabric-rowed r) (readable-allowed r) (readable-width r).0 (readable-width r).1 canonical-listable

  pub form-length : length (canonical_form s) ≡ length s
  unfolding canonical_form
  form-length =
      let r = well_formed-readable s A in
      encode-length (mark_of s) (fabric_of s) (width_of s) (canonical_nets s) (rows-length r)
      ∙ omega (arith, sheet_length-kept (mark_of s) s, canonical_nets-length s)
      ∙ sym (sheet-length s r)

  -- and a relisting
  pub form-equivalent : Equivalent s (canonical_form s)
  form-equivalent = record {
    accepted = A;
    accepted2 = form-accepted;
    grid = fabric-grid s (canonical_form s) (sym form-read.fabric);
    kind = fabric-kind s (canonical_form s) (sym form-read.fabric);
    width = sym form-read.width;
    same_nets = subst (SameNets (nets s)) (sym form-read.listed) (canonical_nets-same s A);
  }

  -- its nets stand as 02 says
  pub form-order : InCanonicalOrder (nets (canonical_form s))
  form-order = subst InCanonicalOrder (sym form-read.listed) (record {
    rising = canonical_nets-rising s A;
    trees = each-canonical s A InTreeOrder (λ n i. canonical-order (meet (grid_of s)) n (accepted s A n i) (low s A n i) (meet-sym (grid_of s)));
  })

-- relistings have one form with each mark
pub form-in-resp : (mark : Mark) (s t : List ℕ) → Equivalent s t → canonical_in mark s ≡ canonical_in mark t
unfolding canonical_in
form-in-resp mark s t E =
    ap₂ (λ (f : Fabric) (w : ℕ). encode mark f w (canonical_nets s)) (equivalent-fabric s t E) E.width
    ∙ ap (encode mark (fabric_of t) (width_of t)) (canonical_nets-resp s t E)

-- and one standard form, if they have one mark
pub form-resp : (s t : List ℕ) → Equivalent s t → mark_of s ≡ mark_of t → canonical_form s ≡ canonical_form t
unfolding canonical_form
form-resp s t E m = ap (λ (mark : Mark). canonical_in mark s) m ∙ form-in-resp (mark_of t) s t E
