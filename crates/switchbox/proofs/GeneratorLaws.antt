-- Laws of the generator (specs/Generator.antt). Assumes nothing.
-- generated: refused, and made.
-- Made: the bounds of its table, its partners. What is promised: partners, the generator's table, its number.
-- switches: the constant table, as a list of each kind's signs and shifts, is the generator's output. The table of each kind.
use mathlib.Core.Path.{◌≡◌, refl, sym, subst, ap, ◌∙◌}
use mathlib.Core.Bool.{Bool, true, false, true≢false}
use mathlib.Core.Logic.{◌↔◌, ◌≢◌}
use mathlib.Core.List.{List, [], ◌∷◌}
use Prim.Native.Nat.{ℕ, zero, suc, ◌+◌, ◌*◌, ◌≤◌, ◌<◌}
use native.Mathlib.Omega.{arith}
use lib.ListN.{get_or}
use Rattle.numbers.specs.Numbers.{parameter_no}
use Rattle.switchbox.specs.declared.Fabric.{Fabric}
use Rattle.switchbox.specs.declared.Table.{Table}
use Rattle.switchbox.specs.declared.Boxes.{Boxes}
use Rattle.switchbox.specs.SwitchBox.{rows_kind, side_pair, takes, rows_allowed, switch_track}
use Rattle.switchbox.specs.Generator.{table_from, table_track, Generated, no_table, generated, published_rows, published, rows_of_kind}
use Rattle.switchbox.specs.Facts.{AllowedRows, Allowed, boxes_of, Made, Undone}
use Rattle.switchbox.proofs.RowLaws.{published-allowed, published-rows, own-rows}
use Rattle.switchbox.proofs.PairLaws.{pair_at-opposite, pair_at-sign, table-sign, table-shift}
use Rattle.switchbox.proofs.SwitchBoxLaws.{switch_track-table, switch_track-lt, switch_track-inverse}

-- ---- generated

pub generated-made : (rows : List ℕ) → rows_allowed rows ≡ true → generated rows ≡ record { number = 0; table = table_from rows }
unfolding generated
generated-made rows e = rw (e, generated)

pub generated-refused : (rows : List ℕ) → rows_allowed rows ≡ false
    → generated rows ≡ record { number = parameter_no; table = no_table }
unfolding generated
generated-refused rows e = rw (e, generated)

-- ---- switches: the constant table of the code

unfoldable pub switches : List (List ℕ)
switches =
    -- 0 subset
    (0 ∷ 0 ∷ 0 ∷ 0 ∷ 0 ∷ 0 ∷ 0 ∷ 0 ∷ 0 ∷ 0 ∷ 0 ∷ 0 ∷ 0 ∷ 0 ∷ 0 ∷ 0 ∷ []) ∷
    (0 ∷ 0 ∷ 0 ∷ 0 ∷ 0 ∷ 0 ∷ 0 ∷ 0 ∷ 0 ∷ 0 ∷ 0 ∷ 0 ∷ 0 ∷ 0 ∷ 0 ∷ 0 ∷ []) ∷
    -- 1 Wilton
    (0 ∷ 1 ∷ 0 ∷ 0 ∷ 1 ∷ 0 ∷ 0 ∷ 0 ∷ 0 ∷ 0 ∷ 0 ∷ 1 ∷ 0 ∷ 0 ∷ 1 ∷ 0 ∷ []) ∷
    (0 ∷ 0 ∷ 0 ∷ 255 ∷ 0 ∷ 0 ∷ 1 ∷ 0 ∷ 0 ∷ 255 ∷ 0 ∷ 254 ∷ 1 ∷ 0 ∷ 254 ∷ 0 ∷ []) ∷
    -- 2 universal
    (0 ∷ 1 ∷ 0 ∷ 0 ∷ 1 ∷ 0 ∷ 0 ∷ 0 ∷ 0 ∷ 0 ∷ 0 ∷ 1 ∷ 0 ∷ 0 ∷ 1 ∷ 0 ∷ []) ∷
    (0 ∷ 255 ∷ 0 ∷ 0 ∷ 255 ∷ 0 ∷ 0 ∷ 0 ∷ 0 ∷ 0 ∷ 0 ∷ 255 ∷ 0 ∷ 0 ∷ 255 ∷ 0 ∷ []) ∷
    []

-- "the built-in table is its output"
pub switches-generated : (kind : ℕ) → kind < 3
    → record { signs = get_or switches (2 * kind) []; shifts = get_or switches (2 * kind + 1) [] } ≡ (generated (published kind)).table
unfolding switches generated published_rows
switches-generated zero h = refl
switches-generated (suc zero) h = refl
switches-generated (suc (suc zero)) h = refl
switches-generated (suc (suc (suc kind))) h = absurd (omega arith)

-- ---- the table of each kind

pub published-made : (kind : ℕ) (rows : List ℕ) → kind < 3 → (generated (published kind)).table ≡ table_from (rows_of_kind kind rows)
published-made kind rows h =
    ap (λ (g : Generated). g.table) (generated-made (published kind) (published-allowed kind h)) ∙ ap table_from (sym (published-rows kind rows h))

pub own-made : (f : Fabric) → Allowed f → 3 ≤ f.kind → generated f.rows ≡ record { number = 0; table = table_from (rows_of_kind f.kind f.rows) }
own-made f a n =
    let e : f.kind ≡ 3 = omega (arith, a.rows.0) in
    let own : rows_of_kind f.kind f.rows ≡ f.rows = ap (λ (k : ℕ). rows_of_kind k f.rows) e ∙ own-rows f.rows in
    generated-made f.rows (sym (ap rows_allowed own) ∙ a.rows.1) ∙ ap (λ (r : List ℕ). record { number = 0; table = table_from r }) (sym own)

pub ruleset kind_tables = (published-made, own-made)

-- ---- a fabric with the table of its inner boxes

module _ {b : Boxes} (M : Made b) where
  abbrev own : List ℕ
  own = rows_of_kind b.fabric.kind b.fabric.rows

  made_table : b.table ≡ table_from own
  made_table = ap (λ (x : Boxes). x.table) M.own

  abbrev allowed : rows_allowed own ≡ true
  allowed = M.allowed.rows.1

  module _ (from to : ℕ) (h : from < 4) (k : to < 4) where
    pub made-bounds : (get_or b.table.signs (side_pair from to) 0 ≤ 1) × (takes (get_or b.table.shifts (side_pair from to) 0) ≤ 32)
    made-bounds =
        let shift = ap (λ (t : Table). get_or t.shifts (side_pair from to) 0) made_table ∙ table-shift own from to h k in (
          omega (arith, ap (λ (t : Table). get_or t.signs (side_pair from to) 0) made_table, table-sign own from to h k, pair_at-sign own allowed from to h k),
          omega (arith, ap takes shift, (pair_at-opposite own allowed from to h k).0.low),
        )

    pub made-track : (w i : ℕ) → i < w → table_track b.table w from to i ≡ switch_track b.fabric.kind b.fabric.rows w from to i
    made-track w i l =
        ap (λ (t : Table). table_track t w from to i) made_table
        ∙ switch_track-table b.fabric.kind b.fabric.rows M.allowed.rows w from to i h k l

pub made-own : {b : Boxes} {f : Fabric} → b ≡ boxes_of f → Allowed f → Made b
made-own {b} {f} e a = let g : b.fabric ≡ f = ap (λ (x : Boxes). x.fabric) e in record {
  allowed = subst Allowed (sym g) a;
  own = e ∙ sym (ap boxes_of g);
}

-- ---- what is promised

module _ (kind : ℕ) (rows : List ℕ) where
  pub table-partners : AllowedRows kind rows → (w from to i : ℕ) → from < 4 → to < 4 → i < w
      → (switch_track kind rows w from to i < w) × (switch_track kind rows w to from (switch_track kind rows w from to i) ≡ i)
  table-partners a w from to i h k l = (switch_track-lt kind rows a w from to i h k l, switch_track-inverse kind rows a w from to i h k l)

  pub generated-table : AllowedRows kind rows → (w from to i : ℕ) → from < 4 → to < 4 → i < w
      → table_track (generated (rows_of_kind kind rows)).table w from to i ≡ switch_track kind rows w from to i
  generated-table a w from to i h k l =
      ap (λ (g : Generated). table_track g.table w from to i) (generated-made (rows_of_kind kind rows) a.1)
      ∙ switch_track-table kind rows a w from to i h k l

  pub published-twin : kind < rows_kind → (w from to i : ℕ) → from < 4 → to < 4 → i < w
      → switch_track rows_kind (published kind) w from to i ≡ switch_track kind rows w from to i
  published-twin n w from to i h k l =
      let own = own-rows (published kind) in
      let same = published-rows kind rows n in
      sym (switch_track-table rows_kind (published kind) (omega arith, ap rows_allowed own ∙ published-allowed kind n) w from to i h k l)
      ∙ ap (λ (r : List ℕ). table_track (table_from r) w from to i) (own ∙ sym same)
      ∙ switch_track-table kind rows (omega arith, ap rows_allowed same ∙ published-allowed kind n) w from to i h k l

-- "its inverse rule proved once over the table", 01: what the built-in table of a kind connects, it undoes from the other end
pub built-in-inverse : (kind : ℕ) → kind < 3 → Undone (generated (published kind)).table
built-in-inverse kind n w from to i h k l =
    let same = published-rows kind [] n in
    let a : AllowedRows kind [] = (omega arith, ap rows_allowed same ∙ published-allowed kind n) in
    let t = ap (λ (r : List ℕ). (generated r).table) same in
    subst (λ (t : Table). table_track t w to from (table_track t w from to i) ≡ i) t
    (generated-table kind [] a w to from _ k h (rw (generated-table kind [] a w from to i h k l) (switch_track-lt kind [] a w from to i h k l))
    ∙ ap (switch_track kind [] w to from) (generated-table kind [] a w from to i h k l)
    ∙ switch_track-inverse kind [] a w from to i h k l)

module _ (rows : List ℕ) where
  generated-cases : (P : Generated → Type 0)
      → (rows_allowed rows ≡ true → P (record { number = 0; table = table_from rows }))
      → (rows_allowed rows ≡ false → P (record { number = parameter_no; table = no_table }))
      → P (generated rows)
  generated-cases P f g = at (rows_allowed rows) refl
    where
      at : (b : Bool) → rows_allowed rows ≡ b → P (generated rows)
      at true e = subst P (sym (generated-made rows e)) (f e)
      at false e = subst P (sym (generated-refused rows e)) (g e)

  pub generated-number : ((generated rows).number ≡ 0) ↔ (rows_allowed rows ≡ true)
  generated-number =
      generated-cases (λ g. (g.number ≡ 0) ↔ (rows_allowed rows ≡ true))
      (λ e. ((λ z. e), (λ z. refl)))
      (λ e. ((λ z. absurd (omega arith)), (λ z. absurd (true≢false (sym z ∙ e)))))

  pub generated-nothing : (generated rows).number ≢ 0
      → ((generated rows).number ≡ parameter_no) × ((generated rows).table ≡ no_table)
  generated-nothing =
      generated-cases (λ g. g.number ≢ 0 → (g.number ≡ parameter_no) × (g.table ≡ no_table))
      (λ e n. absurd (n refl))
      (λ e n. (refl, refl))
