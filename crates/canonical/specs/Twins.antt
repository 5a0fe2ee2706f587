-- A sheet marked 57 48 beside the sheet marked 57 49 that lists the same (02, M-106: "Sheets marked 57 48 are read as before, their numbers
-- widened."). Definitions only; laws: proofs/TwinTheorems.antt. Assumes nothing.
use Rattle.std.specs.Prelude.{◌≡◌, ℕ, ◌+◌, ◌*◌, List, ◌∷◌, ◌++◌, take, drop}
use Rattle.net.specs.Net.{short, long}
use Rattle.netlist.specs.declared.Part.{Part}
use Rattle.netlist.specs.Netlist.{mark_of, fabric_of, width_of, nets}
use Rattle.encoding.specs.Encoding.{encode}
use Rattle.routing.specs.Equivalent.{SameListing}

-- t is the sheet marked 57 49 with the records of s, which is marked 57 48: the same entries in the same order, the net numbers widened
pub record Twin (s t : List ℕ) : Type 0 where
  pub first : mark_of s ≡ short
  pub second : mark_of t ≡ long
  pub same : SameListing s t

-- the bytes of that sheet
unfoldable pub widened : List ℕ → List ℕ
unfolding encode nets
widened s = encode long (fabric_of s) (width_of s) (nets s)

-- a record's bytes with its net number widened: two bytes 0 behind the two that it has
abbrev pub widened_record : List ℕ → List ℕ
widened_record r = take 2 r ++ (0 ∷ 0 ∷ drop 2 r)

-- Record's parts at place k, p of s and q of t: "each record is 2 bytes longer" (02, M-106), and so are the k before it
pub record LaterPart (k : ℕ) (p q : Part) : Type 0 where
  pub offset : q.offset ≡ p.offset + 2 * k
  pub len : q.len ≡ p.len + 2
