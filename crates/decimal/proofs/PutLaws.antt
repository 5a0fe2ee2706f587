-- Laws of a text written at a place (specs/Put.antt). Assumes nothing.
-- put-none, put_byte: nothing, one byte. put_then: a text behind another is both. put-length: the length stays. put-start: a text at the start, and
-- what stays behind it. put-counts: its bytes are a part of the buffer. appended-none, room_before, room_after, appended_then: a text that grows.
use mathlib.Core.Path.{◌≡◌, refl, sym, ap, ap₂, ◌∙◌}
use Prim.Native.Nat.{ℕ, ◌+◌, ◌≤◌, ◌<◌}
use native.Mathlib.Omega.{arith}
use native.Mathlib.Numerals.{add-one}
use mathlib.Core.List.{List, [], ◌∷◌, ◌++◌, append_assoc}
use lib.ListN.{length, take, drop, set, length-append, length-drop, take-append-drop}
use lib.Seq.{length-take-le, set_split, drop-drop, take_at, drop_at}
use Rattle.decimal.specs.declared.Text.{Text}
use Rattle.decimal.specs.Put.{put_at, Put}
use Rattle.decimal.specs.Facts.{Room, Appended}

pub put-none : {before : List ℕ} {at : ℕ} → Put [] at before before at
unfolding put_at
put-none {before} {at} =
    let e : at ≡ at + 0 = omega arith in
    record { bytes = sym (take-append-drop at before) ∙ ap (λ (k : ℕ). take at before ++ drop k before) e; behind = e }

pub put_byte : {before : List ℕ} {at x : ℕ} → at < length before → Put (x ∷ []) at before (set before at x) (at + 1)
unfolding put_at
put_byte {before} {at} {x} h = record {
  bytes = set_split before at x h ∙ ap (λ (k : ℕ). take at before ++ (x ∷ drop k before)) (sym (add-one at));
  behind = refl;
}

-- the bytes before the place behind the text, and those from it on
put-parts : {text before after : List ℕ} {at end : ℕ} → Put text at before after end → at ≤ length before
    → (take end after ≡ take at before ++ text) × (drop end after ≡ drop end before)
unfolding put_at
put-parts {text} {before} {after} {at} {end} p h = (
  ap (take end) split ∙ take_at (take at before ++ text) (drop end before) end count,
  ap (drop end) split ∙ drop_at (take at before ++ text) (drop end before) end count,
)
  where
    split : after ≡ (take at before ++ text) ++ drop end before
    split =
        p.bytes
        ∙ ap (λ (k : ℕ). take at before ++ (text ++ drop k before)) (sym p.behind)
        ∙ sym (append_assoc (take at before) text (drop end before))

    count : length (take at before ++ text) ≡ end
    count = omega (arith, length-append (take at before) text, length-take-le at before h, p.behind)

pub put_then : {a b before middle after : List ℕ} {at m end : ℕ} → Put a at before middle m → at ≤ length before → Put b m middle after end
    → Put (a ++ b) at before after end
unfolding put_at
put_then {a} {b} {before} {middle} {after} {at} {m} {end} p h q = record {
  bytes =
      q.bytes
      ∙ ap₂ (λ (x y : List ℕ). x ++ (b ++ y)) (put-parts p h).0 rest
      ∙ append_assoc (take at before) a (b ++ drop (at + length (a ++ b)) before)
      ∙ ap (λ (x : List ℕ). take at before ++ x) (sym (append_assoc a b (drop (at + length (a ++ b)) before)));
  behind = omega (arith, q.behind, p.behind, length-append a b);
}
  where
    rest : drop (m + length b) middle ≡ drop (at + length (a ++ b)) before
    rest =
        let e : m + length b ≡ at + length (a ++ b) = omega (arith, p.behind, length-append a b) in
        sym (drop-drop (length b) m middle)
        ∙ ap (drop (length b)) (put-parts p h).1
        ∙ drop-drop (length b) m before
        ∙ ap (λ (k : ℕ). drop k before) e

pub put-length : {text before after : List ℕ} {at end : ℕ} → Put text at before after end → at + length text ≤ length before
    → length after ≡ length before
unfolding put_at
put-length {text} {before} {after} {at} p h =
    let l : at ≤ length before = omega arith in
    let d = length-drop (at + length text) before in
    ap length p.bytes
    ∙ length-append (take at before) (text ++ drop (at + length text) before)
    ∙ omega (arith, length-take-le at before l, length-append text (drop (at + length text) before))

-- ---- a text at the start

pub put-start : {text before after : List ℕ} {end : ℕ} → Put text 0 before after end → (end ≡ length text) × (after ≡ text ++ drop end before)
unfolding put_at
put-start {text} {before} p = (omega (arith, p.behind), p.bytes ∙ ap (λ (k : ℕ). text ++ drop k before) (sym p.behind))

-- the first `end` bytes can be handed on
pub put-counts : {text before after : List ℕ} {end : ℕ} → Put text 0 before after end → (end ≤ length after) × (end ≡ length (take end after))
put-counts {text} {before} {after} {end} p =
    let q = put-start p in
    let h : end ≤ length after = omega (arith, q.0, ap length q.1, length-append text (drop end before)) in
    (h, sym (length-take-le end after h))

-- ---- a text that grows

pub appended-none : {t : Text} → Appended [] t t
appended-none = record { put = put-none; same = refl }

-- the buffer keeps its length
appended-length : {text : List ℕ} {old new : Text} → Appended text old new → Room text old → length new.out.now ≡ length old.out.now
appended-length p h = put-length p.put h.fits

-- where there is room for two texts, there is for the first, and behind it for the second
pub room_before : {a : List ℕ} (b : List ℕ) {t : Text} → Room (a ++ b) t → Room a t
room_before {a} b h = record { fits = omega (arith, h.fits, length-append a b) }

pub room_after : {a : List ℕ} (b : List ℕ) {old new : Text} → Appended a old new → Room (a ++ b) old → Room b new
room_after {a} b p h = record { fits = omega (arith, h.fits, length-append a b, p.put.behind, appended-length p (room_before b h)) }

-- a text behind another
pub appended_then : {a b : List ℕ} {old middle new : Text} → Room (a ++ b) old → Appended a old middle → Appended b middle new
    → Appended (a ++ b) old new
appended_then {b = b} h p q = let l = (room_before b h).fits in record { put = put_then p.put (omega arith) q.put; same = q.same ∙ p.same }
