-- Read and Record give what specs/Meanings.antt says. Assumes nothing.
-- read_of-number: Read's number is the sheet's. read-exactly, record-exactly: its counts, and Record's part.
use mathlib.Core.Path.{◌≡◌, refl, sym, ap, ◌∙◌}
use mathlib.Core.Logic.{◌⊎◌, inl, inr}
use Prim.Native.Nat.{ℕ, ◌≤◌}
use native.Mathlib.Omega.{arith}
use native.Mathlib.Decide.{dec_le}
use mathlib.Core.List.{List, []}
use lib.ListN.{length}
use Rattle.netlist.specs.Netlist.{net_count, record_bytes, part_bytes, refusal, WellFormed}
use Rattle.reader.specs.declared.Counts.{Counts}
use Rattle.reader.specs.Read.{read_of, part_of, record_of}
use Rattle.reader.specs.Meanings.{ReadExactly, RecordExactly}
use Rattle.reader.proofs.ReadLaws.{read_of-refused, read_of-accepted, part_of-refused, part_of-past, part_of-record, record_of-filled}

module _ (s : List ℕ) where
  pub read_of-number : (read_of s).number ≡ refusal s
  read_of-number = at (dec_le (refusal s) 0)
    where
      at : Dec (refusal s ≤ 0) → (read_of s).number ≡ refusal s
      at (yes l) = let z : refusal s ≡ 0 = omega arith in ap (λ (c : Counts). c.number) (read_of-accepted s z) ∙ sym z
      at (no l) = ap (λ (c : Counts). c.number) (read_of-refused s (refusal s) refl (λ z. l (omega arith)))

  pub read-exactly : ReadExactly s (read_of s)
  read-exactly = record {
    accepted = ((λ e. sym read_of-number ∙ e), (λ w. read_of-number ∙ w));
    counts = λ e.
        let a = read_of-accepted s (sym read_of-number ∙ e) in (ap (λ (c : Counts). c.nets) a, ap (λ (c : Counts). c.entries) a);
    refused = λ n.
        let a = read_of-refused s (refusal s) refl (λ z. n (read_of-number ∙ z)) in
        (ap (λ (c : Counts). c.nets) a, ap (λ (c : Counts). c.entries) a);
  }

  module _ (k : ℕ) where
    -- the empty part has no bytes
    nothing : part_of s k ≡ record { offset = 0; len = 0 } → record_of s k ≡ []
    unfolding record_of
    nothing e = ap (part_bytes s) e

    pub record-exactly : RecordExactly s k (record_of s k)
    unfolding record_of record_bytes
    record-exactly = record {
      own = λ w h. ap (part_bytes s) (part_of-record s k w h);
      empty = (λ e. there e (dec_le (refusal s) 0) (dec_le (net_count s) k), back);
    }
      where
        there : record_of s k ≡ [] → Dec (refusal s ≤ 0) → Dec (net_count s ≤ k) → (WellFormed s → ⊥) ⊎ (net_count s ≤ k)
        there e (no l) d = inl (λ w. l (omega arith))
        there e (yes l) (yes h) = inr h
        there e (yes l) (no h) =
            let w : WellFormed s = omega arith in absurd (omega (arith, record_of-filled s k w (omega arith), ap length e))

        back : (WellFormed s → ⊥) ⊎ (net_count s ≤ k) → record_of s k ≡ []
        back (inl n) = nothing (part_of-refused s k n)
        back (inr h) = past (dec_le (refusal s) 0)
          where
            past : Dec (refusal s ≤ 0) → record_of s k ≡ []
            past (yes l) = nothing (part_of-past s k (omega arith) h)
            past (no l) = nothing (part_of-refused s k (λ w. l (omega arith)))
