-- What Standard gives and writes (specs/Standard.antt; 02, M-101). Assumes nothing.
-- standard_number: of an accepted and of a refused sheet. standard_output: after 0 and after a refusal. standard-exactly: when success comes, and when
-- 14. standard-uses, standard-order: which numbers, in the order of the table. standard-writes: every byte of the output.
use mathlib.Core.Path.{◌≡◌, refl, sym, subst, ap, ◌∙◌}
use mathlib.Core.Logic.{◌≢◌}
use Prim.Native.Nat.{ℕ, zero, suc, ◌≤◌, ◌<◌}
use native.Mathlib.Omega.{arith}
use native.Mathlib.Decide.{dec_le}
use mathlib.Core.List.{List}
use mathlib.Core.Bool.{true, true≢false}
use lib.ListN.{length, take, drop}
use Rattle.bounded.specs.Lists.{memb, every_in}
use Rattle.numbers.specs.Numbers.{in_order_of, InTableOrder, first_number, space_no, space_conditions}
use Rattle.numbers.proofs.NumbersLaws.{first_number-before, first_number-rest, space-short, space-room}
use Rattle.netlist.specs.Netlist.{sheet_conditions, WellFormed, refusal}
use Rattle.routing.specs.Outcomes.{overwrite}
use Rattle.routing.specs.Results.{IsOneOf, read_numbers}
use Rattle.routing.proofs.OverwriteLaws.{overwrite-first, overwrite-later, overwrite-length}
use Rattle.routing.proofs.RefusalLaws.{first_number-passes, refusal-uses}
use Rattle.canonical.specs.Canonical.{canonical_form}
use Rattle.canonical.specs.Standard.{standard_conditions, standard_number, standard_output, standard_numbers, StandardExactly, FormWritten}
use Rattle.canonical.proofs.FormLaws.{form-length}

module _ (s out : List ℕ) where
  -- ---- standard_number

  pub standard_number-accepted : WellFormed s → standard_number s out ≡ first_number (space_conditions (length s) (length out))
  unfolding standard_number refusal
  standard_number-accepted a = first_number-rest (sheet_conditions s) (space_conditions (length s) (length out)) refl a

  pub standard_number-refused : refusal s ≢ 0 → standard_number s out ≡ refusal s
  unfolding standard_number refusal
  standard_number-refused = first_number-before (sheet_conditions s) (space_conditions (length s) (length out)) refl

  pub room-standard : WellFormed s → length s ≤ length out → standard_number s out ≡ 0
  room-standard a l = standard_number-accepted a ∙ space-room (length s) (length out) l

  pub short-standard : WellFormed s → length out < length s → standard_number s out ≡ space_no
  short-standard a l = standard_number-accepted a ∙ space-short (length s) (length out) l

  pub standard-exactly : StandardExactly s out (standard_number s out)
  unfolding memb
  standard-exactly = record {
    zero = (
      (λ e. let a = accepted 0 e (λ z. z) in (a, room e a (dec_le (length s) (length out)))),
      (λ h. room-standard h.0 h.1),
    );
    read = standard_number-refused;
    short = (
      (λ e.
          let a = accepted space_no e (λ z. absurd (true≢false (sym (subst (λ (x : ℕ). IsOneOf x read_numbers) z (refusal-uses s))))) in
          (a, tight e a (dec_le (length s) (length out)))),
      (λ h. short-standard h.0 h.1),
    );
  }
    where
      -- a number that no refused sheet has
      accepted : (k : ℕ) → standard_number s out ≡ k → (refusal s ≡ k → refusal s ≡ 0) → WellFormed s
      accepted k e h = at (dec_le (refusal s) 0)
        where
          at : Dec (refusal s ≤ 0) → refusal s ≡ 0
          at (yes l) = omega arith
          at (no l) = h (sym (standard_number-refused (λ z. l (omega arith))) ∙ e)

      room : standard_number s out ≡ 0 → WellFormed s → Dec (length s ≤ length out) → length s ≤ length out
      room e a (yes l) = l
      room e a (no l) = absurd (omega (arith, short-standard a (omega arith)))

      tight : standard_number s out ≡ space_no → WellFormed s → Dec (length s ≤ length out) → length out < length s
      tight e a (yes l) = absurd (omega (arith, room-standard a l))
      tight e a (no l) = omega arith

  pub standard-uses : IsOneOf (standard_number s out) standard_numbers
  unfolding standard_number every_in memb
  standard-uses = first_number-passes (λ x. memb x standard_numbers) refl (standard_conditions s out) refl

  pub standard-order : InTableOrder (standard_conditions s out)
  unfolding in_order_of
  standard-order = refl

  -- ---- standard_output

  pub standard_output-zero : standard_number s out ≡ 0 → standard_output s out ≡ overwrite (canonical_form s) out
  unfolding standard_output
  standard_output-zero e = rw (e, standard_output)

  pub standard_output-refused : standard_number s out ≢ 0 → standard_output s out ≡ out
  unfolding standard_output
  standard_output-refused n = at (standard_number s out) refl
    where
      at : (k : ℕ) → standard_number s out ≡ k → elim k [ zero ↦ overwrite (canonical_form s) out | suc m ↦ out ] ≡ out
      at zero e = absurd (n e)
      at (suc m) e = refl

  -- success writes exactly the sheet's length; a refusal nothing
  pub standard-writes : FormWritten s out (standard_number s out) (standard_output s out)
  standard-writes = at (dec_le (standard_number s out) 0)
    where
      at : Dec (standard_number s out ≤ 0) → FormWritten s out (standard_number s out) (standard_output s out)
      at (yes l) =
          let z : standard_number s out ≡ 0 = omega arith in
          let h = standard-exactly.zero.0 z in
          let e = standard_output-zero z in
          let n = form-length s h.0 in
          record {
            written = record {
              sized = ap length e ∙ overwrite-length (canonical_form s) out (omega (arith, h.1));
              refused = λ k. absurd (k z);
              later = ap (drop (length s)) e ∙ overwrite-later (canonical_form s) out (length s) n;
            };
            form = λ k. ap (take (length s)) e ∙ overwrite-first (canonical_form s) out (length s) n;
          }
      at (no l) =
          let k : standard_number s out ≢ 0 = λ z. l (omega arith) in
          let e = standard_output-refused k in
          record { written = record { sized = ap length e; refused = λ m. e; later = ap (drop (length s)) e }; form = λ z. absurd (k z) }
