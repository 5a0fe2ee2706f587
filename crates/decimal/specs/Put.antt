-- A buffer with a text written at a place. Definitions only; laws: proofs/PutLaws.antt. Assumes nothing.
use Rattle.std.specs.Prelude.{◌≡◌, ℕ, ◌+◌, List, ◌++◌, length, take, drop}

-- `before` with the text from `at` on: the bytes before it and behind it stay
unfoldable pub put_at : List ℕ → ℕ → List ℕ → List ℕ
put_at text at before = take at before ++ (text ++ drop (at + length text) before)

-- the text is written at `at` over `before`, which gives `after`, and `end` is the place behind it
pub record Put (text : List ℕ) (at : ℕ) (before after : List ℕ) (end : ℕ) : Type 0 where
  pub bytes : after ≡ put_at text at before
  pub behind : end ≡ at + length text
