-- What the canonical form promises of two sheets, and of itself (02, M-101). Assumes nothing.
-- standard-same: two sheets of one mark, chip, kind and W have the same nets exactly if their forms are equal bytes. standard-again: a form is its own.
use mathlib.Core.Path.{◌≡◌, sym, subst, ◌∙◌}
use Prim.Native.Nat.{ℕ}
use mathlib.Core.List.{List}
use Rattle.net.specs.Net.{Net}
use Rattle.netlist.specs.Netlist.{WellFormed, nets}
use Rattle.routing.specs.Equivalent.{SameNets}
use Rattle.routing.proofs.EquivalentLaws.{equivalent-sym}
use Rattle.canonical.specs.Canonical.{canonical_form}
use Rattle.canonical.specs.Standard.{SameFrame, SameExactly}
use Rattle.canonical.proofs.FormLaws.{form-read, form-equivalent, form-resp}

same_nets-trans : (ns ms ps : List Net) → SameNets ns ms → SameNets ms ps → SameNets ns ps
same_nets-trans ns ms ps a b = record {
  there = λ n i. let f = a.there n i in let g = b.there f.0 f.1 in (g.0, g.1, f.2 ∙ g.2);
  back = λ p i. let g = b.back p i in let f = a.back g.0 g.1 in (f.0, f.1, f.2 ∙ g.2);
  channels = λ n p i j e c. let f = a.there n i in a.channels n f.0 i f.1 f.2 c ∙ b.channels f.0 p f.1 j (sym f.2 ∙ e) c;
  edges = λ n p i j e c d. let f = a.there n i in a.edges n f.0 i f.1 f.2 c d ∙ b.edges f.0 p f.1 j (sym f.2 ∙ e) c d;
}

-- "Two accepted sheets of the same chip, kind and W have the same nets, channels and joints exactly if their standard forms are equal bytes.", if
-- they have one mark
pub standard-same : (s t : List ℕ) → SameFrame s t → SameExactly s t (canonical_form s) (canonical_form t)
standard-same s t F = (
  (λ S. form-resp s t (record { accepted = F.accepted; accepted2 = F.accepted2; grid = F.grid; kind = F.kind; width = F.width; same_nets = S }) F.mark),
  (λ e.
      same_nets-trans (nets s) (nets (canonical_form t)) (nets t)
      (subst (λ (b : List ℕ). SameNets (nets s) (nets b)) e (form-equivalent s F.accepted).same_nets)
      (equivalent-sym t (canonical_form t) (form-equivalent t F.accepted2)).same_nets),
)

-- it is its own standard form
pub standard-again : (s : List ℕ) → WellFormed s → canonical_form (canonical_form s) ≡ canonical_form s
standard-again s A = sym (form-resp s (canonical_form s) (form-equivalent s A) (sym (form-read s A).marked))
