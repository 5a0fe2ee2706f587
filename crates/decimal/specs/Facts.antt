-- What the code's contracts and the laws say of a text that grows in its buffer. Definitions only; laws: proofs/PutLaws.antt. Assumes nothing.
use Rattle.std.specs.Prelude.{◌≡◌, ℕ, ◌+◌, ◌≤◌, List, length}
use Rattle.decimal.specs.declared.Text.{Text}
use Rattle.decimal.specs.Put.{Put}

-- there is room for the text behind the one that is there
pub record Room (text : List ℕ) (t : Text) : Type 0 where
  pub fits : t.len + length text ≤ length t.out.now

-- `new` is `old` with the text behind it, in the same buffer
pub record Appended (text : List ℕ) (old new : Text) : Type 0 where
  pub put : Put text old.len old.out.now new.out.now new.len
  pub same : new.out.ghost_name ≡ old.out.ghost_name
