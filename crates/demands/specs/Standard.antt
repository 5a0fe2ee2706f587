-- Promises of Standard, sheets in standard form (02, M-101); its numbers: Demand1.antt. Definitions only; that they hold: proofs/Standard.antt.
-- Assumes nothing.
use Rattle.std.specs.Prelude.{◌≡◌, ℕ, List, length}
use Rattle.switchbox.specs.declared.Fabric.{Fabric}
use Rattle.net.specs.Net.{Mark, Net}
use Rattle.netlist.specs.Netlist.{WellFormed, mark_of, nets}
use Rattle.routing.specs.Equivalent.{Equivalent}
use Rattle.encoding.specs.Encoding.{encode, Rowed, ReadAs}
use Rattle.canonical.specs.Canonical.{canonical_in, canonical_form}
use Rattle.canonical.specs.Standard.{standard_number, standard_output, StandardExactly, FormWritten, InCanonicalOrder, Bytes, SameFrame, SameExactly}

pub record Standard : Type 0 where
  -- ---- asked for

  -- "The output needs the sheet's own length, else 14."
  pub exactly : (s out : List ℕ) → StandardExactly s out (standard_number s out)
  -- "No refusal writes.", 01, and on success the standard form and no other byte
  pub writes : (s out : List ℕ) → FormWritten s out (standard_number s out) (standard_output s out)
  -- "Write any accepted sheet so that nets stand in rising number and each tree starts at the net's home. Each next entry is the lowest-numbered
  -- channel not yet written that has a joint to a written one, and that one is its parent."
  pub order : (s : List ℕ) → WellFormed s → InCanonicalOrder (nets (canonical_form s))
  -- "Two accepted sheets of the same chip, kind and W have the same nets, channels and joints exactly if their standard forms are equal bytes.";
  -- "equality is claimed between sheets of one mark", M-106
  pub same : (s t : List ℕ) → SameFrame s t → SameExactly s t (canonical_form s) (canonical_form t)
  -- "the standard form keeps the sheet's mark", M-106
  pub mark : (s : List ℕ) → WellFormed s → mark_of (canonical_form s) ≡ mark_of s
  -- ---- ours

  -- what is written is accepted, a relisting and as long as the sheet
  pub relisting : (s : List ℕ) → WellFormed s → Equivalent s (canonical_form s) × (length (canonical_form s) ≡ length s)
  -- the sentences of `order` fix the bytes: an accepted relisting in this order is the standard form, in its own mark
  pub only : (s t : List ℕ) → Equivalent s t → Bytes t → InCanonicalOrder (nets t) → t ≡ canonical_in (mark_of t) s
  -- a standard form is its own
  pub again : (s : List ℕ) → WellFormed s → canonical_form (canonical_form s) ≡ canonical_form s
  -- the bytes of a list of nets are read as these nets, on this fabric at this width, with this mark; `Rowed` since the rows of kinds 0 to 2 are in
  -- no byte
  pub read_back : (mark : Mark) (f : Fabric) (w : ℕ) (ns : List Net) → Rowed f → ReadAs (encode mark f w ns) mark f w ns
