-- The text that the least-width program prints (01 "Sheets to try", end): the lines of an answer and its assignment, byte by byte.
-- Definitions only; laws: proofs/LinesLaws.antt, proofs/LengthLaws.antt. Assumes nothing.
use Rattle.std.specs.Prelude.{ℕ, ◌+◌, ◌*◌, List, [], ◌∷◌, ◌++◌, cond, eqb, length, get_or, replicate}
use Rattle.bounded.specs.Bounded.{joined}
use Rattle.decimal.specs.Decimal.{digits, field}
use Rattle.net.specs.Net.{Net, size, channel}
use Rattle.net.specs.Nets.{entry_count, net_in}
use Rattle.netlist.specs.Netlist.{nets}
use Rattle.assignment.specs.Assignment.{tracks_of}
use Rattle.routing.specs.declared.Answer.{Answer}
use Rattle.routing.specs.Outcomes.{Inputs, least, lent, answer_of, output_of}
use Rattle.routing.specs.Results.{assignment_in}

-- ---- words, in ASCII

-- "answer ", " width ", " trials "
abbrev pub answer_word : List ℕ
answer_word = 97 ∷ 110 ∷ 115 ∷ 119 ∷ 101 ∷ 114 ∷ 32 ∷ []

abbrev pub width_word : List ℕ
width_word = 32 ∷ 119 ∷ 105 ∷ 100 ∷ 116 ∷ 104 ∷ 32 ∷ []

abbrev pub trials_word : List ℕ
trials_word = 32 ∷ 116 ∷ 114 ∷ 105 ∷ 97 ∷ 108 ∷ 115 ∷ 32 ∷ []

-- a blank, a full stop, a line feed
abbrev pub blank : List ℕ
blank = 32 ∷ []

abbrev pub stop : List ℕ
stop = 46 ∷ []

abbrev pub line_feed : List ℕ
line_feed = 10 ∷ []

-- ---- lines

-- "prints the number, width and trials": the first line
unfoldable pub answer_line : Answer → List ℕ
unfolding field
answer_line a = field answer_word a.number ++ field width_word a.width ++ field trials_word a.trials ++ line_feed

-- "channel.track"
unfoldable pub entry_text : ℕ → ℕ → List ℕ
unfolding field
entry_text c t = field blank c ++ field stop t

-- "net number, then channel.track for each entry": the line of the net n with the tracks ts
unfoldable pub net_line : Net → List ℕ → List ℕ
unfolding joined entry_text
net_line n ts = digits n.number ++ joined (size n) (λ i. entry_text (channel n i) (get_or ts i 0)) ++ line_feed

-- "a line per net in sheet order"
unfoldable pub net_lines : List Net → List ℕ → List ℕ
unfolding joined net_line tracks_of
net_lines ns b = joined (length ns) (λ k. net_line (net_in ns k) (tracks_of ns b k))

-- "then on success a line per net"; "A refusal prints the first line only."
unfoldable pub text : List Net → Answer → List ℕ → List ℕ
unfolding answer_line net_lines
text ns a b = answer_line a ++ cond (eqb a.number 0) (net_lines ns b) []

-- "reads a sheet …, uses budget 1,000,000", "the least-width program's list is empty" (02, M-105): Least's answer, and the assignment in its output,
-- which is 2,048 zero bytes before
abbrev pub least_budget : ℕ
least_budget = 1000000

abbrev pub no_ticket : List ℕ
no_ticket = replicate 2048 0

abbrev pub least_inputs : List ℕ → Inputs
least_inputs s = lent s [] [] least_budget no_ticket

unfoldable pub least_text : List ℕ → List ℕ
unfolding text answer_of output_of nets entry_count
least_text s =
    let i = least_inputs s in text (nets s) (answer_of least i) (assignment_in i (output_of least i))

-- ---- the greatest length of a text

-- the first line: its words, a number and a width of two digits, trials of ten
abbrev pub answer_max : ℕ
answer_max = 7 + 2 + 7 + 2 + 8 + 10 + 1

-- a net's number, of 32 bits at most, and its line feed; a blank, a channel below 480, a full stop and a track below 32
abbrev pub net_max : ℕ
net_max = 10 + 1

abbrev pub entry_max : ℕ
entry_max = 1 + 3 + 1 + 2

-- 64 nets of 32 entries
abbrev pub text_max : ℕ
text_max = answer_max + 64 * net_max + 2048 * entry_max
