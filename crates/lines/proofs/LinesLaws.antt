-- Laws of the printed lines (specs/Lines.antt). Assumes nothing.
-- Grown: a text while a loop appends the texts of a list. answer_line-, entry_text-, net_line-, net_lines-length: the lengths of their parts.
-- pass-line: a net's line.
use mathlib.Core.Path.{◌≡◌, refl, sym, subst, ap, ap₂, ◌∙◌}
use Prim.Native.Nat.{ℕ, ◌+◌, ◌-◌, ◌<◌}
use native.Mathlib.Omega.{arith}
use mathlib.Core.List.{List, ◌++◌, append_assoc, append-nil}
use lib.ListN.{length, get_or, take, drop, length-append}
use Rattle.bounded.specs.Bounded.{joined}
use Rattle.bounded.proofs.BoundedLaws.{joined-more, joined-le}
use Rattle.decimal.specs.Decimal.{digits, field}
use Rattle.decimal.specs.declared.Text.{Text}
use Rattle.decimal.specs.Facts.{Room, Appended}
use Rattle.decimal.proofs.PutLaws.{room_after, appended_then}
use Rattle.net.specs.Net.{Net, net_of, size, channel}
use Rattle.net.specs.Nets.{net_in}
use Rattle.netlist.specs.Netlist.{nets}
use Rattle.assignment.specs.Assignment.{tracks_of}
use Rattle.assignment.proofs.AssignmentLaws.{Pass, pass-net, pass-tracks}
use Rattle.routing.specs.declared.Answer.{Answer}
use Rattle.lines.specs.Lines.{answer_word, width_word, trials_word, blank, stop}
use Rattle.lines.specs.Lines.{answer_line, entry_text, net_line, net_lines}

-- ---- Grown

-- a loop appends the texts f of a list behind p: the first i are there
pub record Grown (p : List ℕ) (f : ℕ → List ℕ) (i : ℕ) (old new : Text) : Type 0 where
  pub appended : Appended (p ++ joined i f) old new

pub grown-none : {p : List ℕ} {f : ℕ → List ℕ} {old new : Text} → Appended p old new → Grown p f 0 old new
unfolding joined
grown-none {p} {old = old} {new = new} a = record { appended = subst (λ (t : List ℕ). Appended t old new) (sym (append-nil p)) a }

module _ {p : List ℕ} {f : ℕ → List ℕ} {i : ℕ} {old middle : Text} (g : Grown p f i old middle) (n : ℕ) where
  pub grown-all : i ≡ n → Appended (p ++ joined n f) old middle
  grown-all e = subst (λ (k : ℕ). Appended (p ++ joined k f) old middle) e g.appended

  -- where there is room for n, there is for the next
  module _ (h : i < n) (room : Room (p ++ joined n f) old) {text : List ℕ} (e : text ≡ f i) where
    both : Room ((p ++ joined i f) ++ text) old
    both = record {
      fits =
          omega (
            arith,
            room.fits,
            joined-le n i f h,
            length-append (p ++ joined i f) text,
            length-append p (joined i f),
            length-append p (joined n f),
            ap length e,
          );
    }

    pub grown-room : Room text middle
    grown-room = room_after text g.appended both

    pub grown-more : {new : Text} → Appended text middle new → Grown p f (i + 1) old new
    grown-more {new} q = record {
      appended =
          subst (λ (t : List ℕ). Appended t old new)
          (append_assoc p (joined i f) text ∙ ap (λ (t : List ℕ). p ++ t) (ap (λ (t : List ℕ). joined i f ++ t) e ∙ sym (joined-more i f)))
          (appended_then both g.appended q);
    }

-- ---- the parts of a line

-- the texts of the entries of the net n with the tracks ts, and the lines of the nets ns with the assignment b
abbrev pub entry_in : Net → List ℕ → ℕ → List ℕ
entry_in n ts i = entry_text (channel n i) (get_or ts i 0)

abbrev pub line_in : List Net → List ℕ → ℕ → List ℕ
line_in ns b k = net_line (net_in ns k) (tracks_of ns b k)

pub answer_line-length : (a : Answer)
    → length (answer_line a)
    ≡ length (field answer_word a.number) + length (field width_word a.width) + length (field trials_word a.trials) + 1
unfolding answer_line
answer_line-length a = simp length-append

pub entry_text-length : (c t : ℕ) → length (entry_text c t) ≡ length (field blank c) + length (field stop t)
unfolding entry_text
entry_text-length c t = length-append (field blank c) (field stop t)

pub net_line-length : (n : Net) (ts : List ℕ)
    → length (net_line n ts) ≡ length (digits n.number) + length (joined (size n) (entry_in n ts)) + 1
unfolding net_line
net_line-length n ts = simp length-append

pub net_lines-length : (ns : List Net) (b : List ℕ) → length (net_lines ns b) ≡ length (joined (length ns) (line_in ns b))
unfolding net_lines
net_lines-length ns b = refl

-- the line of a record's net and its part of the assignment is that of net k
pub pass-line : {s b : List ℕ} {k at z : ℕ} {r : List ℕ} → Pass s b k at z r → (n : ℕ) → n ≡ size (net_of z r)
    → net_line (net_of z r) (take (at + n - at) (drop at b)) ≡ line_in (nets s) b k
pass-line u n e = ap₂ net_line (pass-net u) (pass-tracks u n e)
