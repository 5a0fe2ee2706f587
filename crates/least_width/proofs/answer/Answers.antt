-- The text is a part of its buffer, and what is written is the text.
use Rattle.std.proofs.Common.{◌≡◌, ℕ, List, Option, None, Some, Result, Ok, Err, IfSome, OnOk, take, length, ap, ◌∙◌, sym, subst, rules}
use lib.Seq.{take_at}
use Rattle.std.specs.Io.KnownBytes.{Appends}
use Rattle.decimal.specs.Put.{Put}
use Rattle.decimal.proofs.PutLaws.{put-counts, put-start}
use Rattle.lines.specs.Lines.{least_text}
use Rattle.least_width.proofs.answer.Goals as goal

pub slice_bounds-text-end : goal.slice_bounds-text-end
slice_bounds-text-end g c = (put-counts c.least_text-m.ensures).0

pub slice_bounds-write_all-end : goal.slice_bounds-write_all-end
slice_bounds-write_all-end g c = (put-counts c.least_text-m.ensures).1

text_of : {text before after : List ℕ} {end : ℕ} → Put text 0 before after end → take end after ≡ text
text_of {text} {end = end} p =
    let q = put-start p in
    ap (take end) q.1 ∙ take_at text _ end (sym q.0)

on_input : {E : Type 0} (r : Result Unit E) (xs a b : Option (List ℕ)) (s bs : List ℕ) (m n : ℕ) → OnOk r (Appends a b bs)
    → bs ≡ least_text s → IfSome xs (λ x. s ≡ take m x) → m ≡ n → OnOk r (IfSome xs (λ x. Appends a b (least_text (take n x))))
on_input (Err e) xs a b s bs m n p q h l = tt
on_input (Ok u) None a b s bs m n p q h l = tt
on_input (Ok u) (Some x) a b s bs m n p q h l = subst (Appends a b) (q ∙ ap least_text (h ∙ ap (λ k. take k x) l)) p

pub returns : goal.returns
returns g c = on_input _ _ _ _ _ _ (length c.read_full.new.buffer) 8729 c.write_all.ensures.bytes (text_of c.least_text-m.ensures) c.in_ok-n.ensures.bytes (search rules)
