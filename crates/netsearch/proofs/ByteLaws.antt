-- The bytes of an assignment: how many, and the byte of each net number and channel. Assumes nothing.
-- bytes_from, assignment_from: length and bytes. valid-below: valid home tracks are below the width.
use mathlib.Core.Path.{◌≡◌, refl, sym, subst, ap, ap₂, ◌∙◌}
use mathlib.Core.Logic.{inl, inr}
use Prim.Native.Nat.{ℕ, zero, suc, ◌+◌}
use mathlib.Core.List.{List, [], ◌∷◌, ◌++◌, map}
use mathlib.Core.Bool.{Bool, true, false, ◌||◌, true≢false}
use lib.Dec.{eqb}
use lib.ListN.{length, get_or, length-append, length-map}
use lib.Seq.{drop_at}
use borrow.Author.Tests.{eqb-true, eq-eqb, ne_eqb}
use Rattle.bounded.specs.Lists.{memb, place}
use Rattle.backtracking.proofs.AgreeLaws.{Below}
use Rattle.backtracking.proofs.SearchLaws.{Valid}
use Rattle.net.specs.Net.{Entry, Net, channels, size, has}
use Rattle.net.specs.Nets.{entry_count, In}
use Rattle.net.specs.Facts.{Apart}
use Rattle.rank.specs.Rank.{rising}
use Rattle.netsearch.specs.HomeTrack.{track, byte_of, home_track_of, bytes_from, assignment_from}

-- an image at the place of what it is the image of
image-place : (f : ℕ → ℕ) (c : ℕ) (xs r : List ℕ) → memb c xs ≡ true → get_or (map f xs ++ r) (place c xs) 0 ≡ f c
unfolding memb place
image-place f c [] r h = absurd (true≢false (sym h))
image-place f c (x ∷ xs) r h = at (eqb c x) refl (image-place f c xs r) h
  where
    at : (b : Bool) → eqb c x ≡ b → (memb c xs ≡ true → get_or (map f xs ++ r) (place c xs) 0 ≡ f c) → (b || memb c xs) ≡ true
        → get_or (f x ∷ (map f xs ++ r)) (elim b [ true ↦ 0 | false ↦ suc (place c xs) ]) 0 ≡ f c
    at true e rec k = ap f (sym (eqb-true c x e))
    at false e rec k = rec k

module _ (partner : ℕ → ℕ → ℕ → ℕ) where
  bytes-length : (n : Net) (t : ℕ) → length (map (track partner n t) (channels n)) ≡ size n
  bytes-length n t = length-map (channels n) (track partner n t) ∙ length-map n.entries (λ (e : Entry). e.channel)

  bytes_from-length : (ns : List Net) (f : ℕ → ℕ) → length (bytes_from partner ns f) ≡ entry_count ns
  unfolding bytes_from entry_count
  bytes_from-length [] f = refl
  bytes_from-length (n ∷ ns) f = length-append (map (track partner n (f n.number)) (channels n)) (bytes_from partner ns f) ∙ ap₂ ◌+◌ (bytes-length n (f n.number)) (bytes_from-length ns f)

  pub assignment_from-length : (ns : List Net) (hs : List ℕ) → length (assignment_from partner ns hs) ≡ entry_count ns
  unfolding assignment_from
  assignment_from-length ns hs = bytes_from-length ns (home_track_of (rising ns) hs)

  -- what the assignment says of a net and its channel
  pub bytes_from-byte : (ns : List Net) (f : ℕ → ℕ) (n : Net) (c : ℕ) → Apart ns → In n ns → has n c ≡ true → byte_of ns (bytes_from partner ns f) n.number c ≡ track partner n (f n.number) c
  unfolding bytes_from byte_of
  bytes_from-byte [] f n c a i h = absurd i
  bytes_from-byte (m ∷ ms) f n c a (inl e) h = subst (λ (x : Net). has x c ≡ true → byte_of (m ∷ ms) (bytes_from partner (m ∷ ms) f) x.number c ≡ track partner x (f x.number) c) (sym e) at h
    where
      at : has m c ≡ true → byte_of (m ∷ ms) (bytes_from partner (m ∷ ms) f) m.number c ≡ track partner m (f m.number) c
      at k = rw (eq-eqb m.number m.number refl, byte_of) (image-place (track partner m (f m.number)) c (channels m) (bytes_from partner ms f) k)
  bytes_from-byte (m ∷ ms) f n c a (inr i) h =
      rw (ne_eqb m.number n.number (a.0 n i), byte_of)
      (ap (λ (b : List ℕ). byte_of ms b n.number c) (drop_at (map (track partner m (f m.number)) (channels m)) (bytes_from partner ms f) (size m) (bytes-length m (f m.number)))
      ∙ bytes_from-byte ms f n c a.1 i h)

pub valid-below : (w : ℕ) (fit : List ℕ → ℕ → Bool) (n : ℕ) (p l : List ℕ) → Valid w fit n p l → Below w l
valid-below w fit zero p [] v = tt
valid-below w fit zero p (t ∷ l) v = absurd v
valid-below w fit (suc n) p [] v = absurd v
valid-below w fit (suc n) p (t ∷ l) v = (v.0, valid-below w fit n (p ++ (t ∷ [])) l v.2)
