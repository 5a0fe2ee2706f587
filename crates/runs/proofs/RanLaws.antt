-- The runs of a job (specs/Runs.antt). Assumes nothing.
-- got-finds: a run that found something. when_found-map: what follows from what was found. run_at: of a search under a budget, of a loop's searches.
-- Job: the number of nets, the width, the loads, a search can run on the tables.
-- Ran: of the same run by another name; of a run that found nothing; a loop of searches, by how the next one ended; of one search.
use mathlib.Core.Path.{◌≡◌, refl, sym, subst, ap, ap₂, ◌∙◌}
use mathlib.Core.Bool.{Bool, true, false}
use mathlib.Core.List.{List, []}
use Prim.Native.Nat.{ℕ, zero, suc, ◌+◌, ◌-◌, ◌≤◌, ◌<◌}
use native.Mathlib.Omega.{arith}
use native.Mathlib.Decide.{dec_le}
use lib.ListN.{length, get_or, take}
use lib.Seq.{get_or-take, length-take-le}
use Rattle.backtracking.specs.Search.{Outcome, found, not_found, after, or_next, first_of, backtrack}
use Rattle.backtracking.specs.Budget.{Run, got, nothing, spent, under_budget}
use Rattle.backtracking.proofs.AgreeLaws.{below_at}
use Rattle.backtracking.proofs.BudgetLaws.{under_budget-yes, under_budget-not}
use Rattle.backtracking.proofs.SearchLaws.{Finds, backtrack-valid}
use Rattle.marks.specs.Marks.{marked_in}
use Rattle.net.specs.Net.{Net}
use Rattle.netlist.specs.declared.Trailer.{Trailer}
use Rattle.netlist.specs.declared.Sheet.{Sheet}
use Rattle.netlist.specs.Netlist.{width_of, nets, connected_on, channels_of}
use Rattle.netlist.proofs.NetlistLaws.{readable-width, readable-trailer, nets-length}
use Rattle.rank.specs.Facts.{rising_nets}
use Rattle.rank.proofs.OrderLaws.{rising-length}
use Rattle.assignment.specs.Board.{board_with}
use Rattle.netsearch.specs.PlainSearch.{over_capacity, at_width, plain_search}
use Rattle.netsearch.proofs.ByteLaws.{valid-below}
use Rattle.netsearch.specs.declared.Search.{Search}
use Rattle.netsearch.specs.declared.Search.TheVariants.{Plain}
use Rattle.wires.specs.Wires.{tables_of}
use Rattle.tracksearch.specs.declared.Ended.{Ended}
use Rattle.tracksearch.specs.declared.Ended.TheVariants.{Found, Exhausted, Spent}
use Rattle.tracksearch.specs.Plan.{SearchTables, search_tables, move_from, moves_from, plan_fits, NetsFit}
use Rattle.tracksearch.specs.State.{run_of}
use Rattle.planner.specs.declared.Plan.{Plan}
use Rattle.planner.specs.Planned.{Mapped, Counted, PlanOf, plan_nets}
use Rattle.planner.proofs.DensityLaws.{counted-rising}
use Rattle.planner.proofs.FitsLaws.{AllNew, moves_from-none}
use Rattle.planner.proofs.PlacesLaws.{nets_at-length}
use Rattle.planner.proofs.PlannedLaws.{Prepares, planned-fits}
use Rattle.planner.proofs.RunLaws.{rising-small, plain_over, plain-within}
use Rattle.runs.specs.declared.Routed.{Routed}
use Rattle.runs.specs.declared.Job.{Job}
use Rattle.runs.specs.Runs.{WhenFound, found_in, plain_run, FoundOn, SearchedOn, FoundBy, Ran}
use Rattle.runs.proofs.RepeatedLaws.{Repeated, repeated-all, repeated-next, repeated-ends}

-- ---- what was found

-- a run under a budget that found something is of a search that finds it
pub got-finds : {A : Type 0} (a : A) (r b : ℕ) (o : Outcome A) → got a r ≡ under_budget o b → Finds o a
got-finds {A} a r b (found x c) e = at (dec_le c b)
  where
    at : Dec (c ≤ b) → Finds (found x c) a
    at (yes l) = let g = under_budget-yes (found x c) b l in (c, cc)
    at (no l) =
        let g = under_budget-not (found x c) b (omega arith) in
        let z : ◌≡◌ {A = ℕ} 0 1 = cc in
        absurd (omega arith)
got-finds {A} a r b (not_found c) e = at (dec_le c b)
  where
    at : Dec (c ≤ b) → Finds (not_found c) a
    at (yes l) =
        let g = under_budget-yes {A = A} (not_found c) b l in
        let z : ◌≡◌ {A = ℕ} 0 1 = cc in
        absurd (omega arith)
    at (no l) =
        let g = under_budget-not {A = A} (not_found c) b (omega arith) in
        let z : ◌≡◌ {A = ℕ} 0 1 = cc in
        absurd (omega arith)

-- n tracks found are below the width
found_below : (w n : ℕ) (fits : List ℕ → ℕ → Bool) (homes : List ℕ) → n ≤ length homes → Finds (backtrack w fits n []) (take n homes)
    → (k : ℕ) → k < n → get_or homes k 0 < w
found_below w n fits homes h f k l =
    let b = valid-below w fits n [] (take n homes) (backtrack-valid w fits n [] (take n homes) f) in
    let m = below_at w (take n homes) b k (omega (arith, length-take-le n homes h)) in
    rw (get_or-take n homes k 0 l) at m

-- ---- WhenFound

pub when_found-map : {T : Type 0} {A B : T → Type 0} (e : Ended T) → ((x : T) → A x → B x) → WhenFound e A → WhenFound e B
when_found-map (Found u x) f h = f x h
when_found-map (Exhausted u) f h = tt
when_found-map Spent f h = tt

-- ---- run_at

-- what was found, with the width
unfoldable pub run_at : ℕ → Run (List ℕ) → Run (ℕ × List ℕ)
run_at w (got hs r) = got (w, hs) r
run_at w (nothing r) = nothing r
run_at w spent = spent

pub run_at-budget : (w : ℕ) (o : Outcome (List ℕ)) (b : ℕ) → run_at w (under_budget o b) ≡ under_budget (at_width w o) b
unfolding run_at at_width
run_at-budget w (found hs c) b = at (dec_le c b)
  where
    at : Dec (c ≤ b) → run_at w (under_budget (found hs c) b) ≡ under_budget (found (w, hs) c) b
    at (yes h) = rw (under_budget-yes {A = List ℕ} (found hs c) b h, under_budget-yes {A = ℕ × List ℕ} (found (w, hs) c) b h)
    at (no h) =
        let l : b < c = omega arith in
        rw (under_budget-not {A = List ℕ} (found hs c) b l, under_budget-not {A = ℕ × List ℕ} (found (w, hs) c) b l)
run_at-budget w (not_found c) b = at (dec_le c b)
  where
    at : Dec (c ≤ b) → run_at w (under_budget {A = List ℕ} (not_found c) b) ≡ under_budget {A = ℕ × List ℕ} (not_found c) b
    at (yes h) = rw (under_budget-yes {A = List ℕ} (not_found c) b h, under_budget-yes {A = ℕ × List ℕ} (not_found c) b h)
    at (no h) = let l : b < c = omega arith in rw (under_budget-not {A = List ℕ} (not_found c) b l, under_budget-not {A = ℕ × List ℕ} (not_found c) b l)

-- one search after the other: the width can be added to each, or to what they find
pub at_width-first : (w : ℕ) (next : ℕ → Outcome (List ℕ)) (k t : ℕ) → first_of (λ d. at_width w (next d)) k t ≡ at_width w (first_of next k t)
unfolding first_of after or_next at_width
at_width-first w next zero t = refl
at_width-first w next (suc k) t = at (next t) (at_width-first w next k (suc t))
  where
    late : (n : ℕ) (o : Outcome (List ℕ)) → after n (at_width w o) ≡ at_width w (after n o)
    late n (found hs c) = refl
    late n (not_found c) = refl

    at : (o : Outcome (List ℕ)) → first_of (λ d. at_width w (next d)) k (suc t) ≡ at_width w (first_of next k (suc t))
        → or_next (at_width w o) (λ _. first_of (λ d. at_width w (next d)) k (suc t)) ≡ at_width w (or_next o (λ _. first_of next k (suc t)))
    at (found hs c) e = refl
    at (not_found c) e = ap (after c) e ∙ late c (first_of next k (suc t))

-- a search that finds something at a width finds it
finds-at : (w v : ℕ) (o : Outcome (List ℕ)) (hs : List ℕ) → Finds (at_width w o) (v, hs) → Finds o hs
unfolding at_width
finds-at w v (found xs c) hs f =
    let e = f.1 in
    let q : ◌≡◌ {A = ℕ × List ℕ} (w, xs) (v, hs) = cc e in
    (c, ap (λ (x : ℕ × List ℕ). found x.1 c) q)
finds-at w v (not_found c) hs f = let e = f.1 in let z : ◌≡◌ {A = ℕ} 0 1 = cc in absurd (omega arith)

-- ---- Job

-- the tables of all nets of a sheet have as many as it has
pub plan-count : (t : Sheet) {p : Plan} → PlanOf t.netlist.bytes.now (rising_nets t.netlist.bytes.now) p
    → (p.count ≡ length (nets t.netlist.bytes.now)) × (p.count ≡ t.netlist.trailer.nets) × (p.count ≤ 64)
plan-count t {p} P =
    let s = t.netlist.bytes.now in
    let f = readable-trailer t.netlist.readable t.netlist.trailer t.netlist.own in
    let c = sym (nets_at-length s p.order p.count) ∙ ap (λ (ns : List Net). length ns) P.nets ∙ rising-length (nets s) in
    let n = nets-length s in
    (c, c ∙ n ∙ sym f.0, omega (arith, f.3))

module _ (j : Job) where
  abbrev pub sheet_in : List ℕ
  sheet_in = j.sheet.netlist.bytes.now

  abbrev s : List ℕ
  s = j.sheet.netlist.bytes.now

  abbrev p : Plan
  p = j.plan.now

  pub job-count : (p.count ≡ length (nets s)) × (p.count ≤ 64)
  job-count = let c = plan-count j.sheet j.ready in (c.0, c.2)

  pub job-width : (j.sheet.netlist.trailer.width ≡ width_of s) × (1 ≤ j.sheet.netlist.trailer.width) × (j.sheet.netlist.trailer.width ≤ 32)
  job-width =
      let w = readable-width j.sheet.netlist.readable in
      let q = ap (λ (x : Trailer). x.width) j.sheet.netlist.own in
      (q, omega arith, omega arith)

  -- what the test of the loads says
  pub job-over : (w : ℕ) {channels : ℕ} {r : Bool} → channels ≡ channels_of s
      → ((s : List ℕ) (ns : List Net) → channels ≡ channels_of s → Counted ns p.load → r ≡ over_capacity (board_with s (marked_in p.dead)) w ns)
      → r ≡ over_capacity (board_with s (marked_in p.dead)) w (nets s)
  job-over w e g = g s (nets s) e (counted-rising j.ready.loads)

  module _ (w : ℕ) (maps : List ℕ) (T : Mapped (connected_on s w) w (plan_nets s p) p.start maps) where
    pub job-mapped : Mapped (connected_on s w) w (rising_nets s) p.start maps
    job-mapped = subst (λ (ns : List Net). Mapped (connected_on s w) w ns p.start maps) j.ready.nets T

    pub job-prepared : Prepares (connected_on s w) (rising_nets s) (tables_of p.start p.chan maps w)
    job-prepared = record { planned = j.ready.entries; mapped = job-mapped }

    -- a search can run on the tables
    pub job-fits : w ≤ 32 → NetsFit (tables_of p.start p.chan maps w) p.count
    job-fits h =
        subst (NetsFit (tables_of p.start p.chan maps w)) (rising-length (nets s) ∙ sym job-count.0)
        (planned-fits job-prepared (rising-small s j.sheet.accepted) h)

-- ---- Ran

module _ {s : List ℕ} {p : Plan} {budget left : ℕ} where
  -- the same run by another name
  pub ran-as : {o o2 : Outcome (ℕ × List ℕ)} {f g : List ℕ → ℕ} {e : Ended Routed} → o ≡ o2
      → ((hs : List ℕ) → length hs ≡ p.count → f hs ≡ g hs) → Ran s p budget left o f e → Ran s p budget left o2 g e
  ran-as {o} {o2} {f} {g} {e} h q D = record {
    within = D.within;
    same = D.same ∙ ap (λ (x : Outcome (ℕ × List ℕ)). under_budget x left) h;
    found =
        when_found-map e
        (λ r F. record {
          writable = F.writable;
          moved = F.moved ∙ q (take p.count r.homes) (length-take-le p.count r.homes F.writable.long);
          few = F.few;
        })
        D.found;
  }

  -- a run that found nothing
  pub ran-nothing : {o : Outcome (ℕ × List ℕ)} {f : List ℕ → ℕ} {u : ℕ} → u ≤ budget
      → nothing (budget - u) ≡ under_budget o left → Ran s p budget left o f (Exhausted u)
  unfolding run_of
  ran-nothing h q = record { within = h; same = q; found = tt }

-- no trial is made where a channel is over capacity
module _ {s : List ℕ} {p : Plan} {budget left : ℕ} (w u : ℕ) {f : List ℕ → ℕ} (h : u ≤ budget) (e : left ≡ budget - u) where
  pub ran-stopped : (o : Outcome (List ℕ)) → o ≡ not_found 0 → Ran s p budget left (at_width w o) f (Exhausted u)
  unfolding at_width
  ran-stopped o z =
      ran-nothing h (sym (rw z (under_budget-yes {A = ℕ × List ℕ} (not_found 0) left (omega arith) ∙ ap nothing (omega arith))))

  pub ran_over : (by : Search) → over_capacity (board_with s (marked_in p.dead)) w (nets s) ≡ true
      → Ran s p budget left (plain_run by s (marked_in p.dead) w) f (Exhausted u)
  ran_over by over = ran-stopped (plain_search by (board_with s (marked_in p.dead)) w (nets s)) (plain_over (board_with s (marked_in p.dead)) w (nets s) over by)

-- a search that did not end with nothing
ended_some : {A : Type 0} (read : Routed → A) (budget : ℕ) (e : Ended Routed) → ((u : ℕ) → e ≡ Exhausted u → ⊥)
    → (r : ℕ) → run_of read budget e ≡ nothing r → ⊥
unfolding run_of
ended_some read budget (Found u x) n r q = let z : ◌≡◌ {A = ℕ} 0 1 = cc in omega arith
ended_some read budget (Exhausted u) n r q = n u refl
ended_some read budget Spent n r q = let z : ◌≡◌ {A = ℕ} 0 1 = cc in omega arith

-- a loop of searches, where e is what the next one gave
module _ {next : ℕ → Outcome (ℕ × List ℕ)} {first end budget k used : ℕ} (L : Repeated next first end budget k used)
    {s : List ℕ} {p : Plan} {f : List ℕ → ℕ} where
  pub ran-next : k < end → {e : Ended Routed} → Ran s p budget (budget - used) (next k) f e
      → (u : ℕ) → e ≡ Exhausted u → Repeated next first end budget (k + 1) u
  unfolding run_of
  ran-next h {e} D u q =
      repeated-next L h u (rw q at D.within) (sym (ap (run_of (found_in p.count) budget) q) ∙ D.same)

  pub ran_ends : k < end → {e : Ended Routed} → Ran s p budget (budget - used) (next k) f e
      → ((u : ℕ) → e ≡ Exhausted u → ⊥) → Ran s p budget budget (first_of next (end - first) first) f e
  ran_ends h {e} D n = record {
    within = D.within;
    same =
        repeated-ends L h (run_of (found_in p.count) budget e) (ended_some (found_in p.count) budget e n) D.same;
    found = D.found;
  }

  pub ran-all : end ≤ k → Ran s p budget budget (first_of next (end - first) first) f (Exhausted used)
  ran-all h = ran-nothing L.within (repeated-all L h)

-- ---- one search on the tables

-- what the search gave, with the width
pub searched-same : (p : SearchTables) (n budget left : ℕ) (e : Ended (List ℕ)) (f : Ended Routed)
    → run_at p.nets.width (run_of (take n) budget e) ≡ run_of (found_in n) budget f
    → run_of (take n) budget e ≡ under_budget (backtrack p.nets.width (plan_fits p) n []) left
    → run_of (found_in n) budget f ≡ under_budget (at_width p.nets.width (backtrack p.nets.width (plan_fits p) n [])) left
searched-same p n budget left e f h q =
    sym h ∙ ap (run_at p.nets.width) q ∙ run_at-budget p.nets.width (backtrack p.nets.width (plan_fits p) n []) left

-- the moves of the first n nets are those of the first n home tracks
moves_from-take : (old hs : List ℕ) (n k : ℕ) → k ≤ n → moves_from old hs k ≡ moves_from old (take n hs) k
unfolding moves_from
moves_from-take old hs n zero h = refl
moves_from-take old hs n (suc k) h =
    ap₂ ◌+◌ (moves_from-take old hs n k (omega arith)) (ap (move_from old k) (sym (get_or-take n hs k 0 (omega arith))))

module _ (j : Job) (w : ℕ) (maps old : List ℕ) (limit : ℕ)
    (T : Mapped (connected_on (sheet_in j) w) w (plan_nets (sheet_in j) j.plan.now) j.plan.now.start maps) (low : w ≤ 32)
    {left : ℕ} {e : Ended Routed}
    (S : SearchedOn (search_tables (tables_of j.plan.now.start j.plan.now.chan maps w) j.plan.now.dead old limit) j.plan.now.count j.budget left e) where
  abbrev s2 : List ℕ
  s2 = sheet_in j

  abbrev q : Plan
  q = j.plan.now

  abbrev search_to : ℕ → Outcome (List ℕ)
  search_to n = backtrack w (plan_fits (search_tables (tables_of q.start q.chan maps w) q.dead old limit)) n []

  found-by : (e : Ended Routed) → run_of (found_in q.count) j.budget e ≡ under_budget (at_width w (search_to q.count)) left
      → WhenFound e (FoundOn (search_tables (tables_of q.start q.chan maps w) q.dead old limit) q.count)
      → WhenFound e (FoundBy s2 q (λ hs. moves_from old hs q.count))
  unfolding run_of
  found-by (Found u r) same F =
      let few = (job-count j).1 in
      let finds = finds-at w r.width (search_to q.count) (take q.count r.homes) (got-finds _ _ left (at_width w (search_to q.count)) same) in
      record {
        writable = record {
          width = rw F.width low;
          mapped = rw (F.width, F.maps) (job-mapped j w maps T);
          long = F.long;
          below = rw F.width (found_below w q.count _ r.homes F.long finds);
        };
        moved = F.moved ∙ moves_from-take old r.homes q.count q.count (omega arith);
        few = omega (arith, F.few);
      }
  found-by (Exhausted u) same F = tt
  found-by Spent same F = tt

  pub ran-search : Ran s2 q j.budget left (at_width w (search_to q.count)) (λ hs. moves_from old hs q.count) e
  ran-search = record { within = S.within; same = S.same; found = found-by e S.same S.found }

  -- without old home tracks it is 01's plain search
  pub ran-plain : (by : Search) → over_capacity (board_with s2 (marked_in q.dead)) w (nets s2) ≡ false → AllNew 64 old
      → Ran s2 q j.budget left (plain_run by s2 (marked_in q.dead) w) (λ hs. 0) e
  ran-plain Plain within new =
      let n = job-count j in
      ran-as
      (ap (at_width w)
      (ap search_to n.0
      ∙ sym
      (plain-within (board_with s2 (marked_in q.dead)) w (nets s2) q.dead within q.start q.chan maps old (job-prepared j w maps T) limit
      (λ k l. new k (omega arith)))))
      (λ hs l. moves_from-none (nets s2) old (λ k m. new k (omega arith)) hs q.count (omega arith))
      ran-search
