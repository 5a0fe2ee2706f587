-- Laws of one net (specs/Net.antt). Assumes nothing.
-- u16_at: of a part of a list, of bytes. count_at: of a part of a list. number_size, number_in: by the mark, by the size, of bytes. net_of: its number, its size, its channels and parents, an entry lies within its record.
-- parent_right: of the first entry, and of a later one whose parent is not earlier, or is. parents_right: a later entry's parent. AcceptedNet: of a net that passes. passes: entry by entry.
use mathlib.Core.Path.{◌≡◌, refl, sym, ap, ap₂, ◌∙◌}
use mathlib.Core.Logic.{◌⊎◌, inl, inr}
use mathlib.Core.Bool.{Bool, true, false, ◌&&◌, true≢false}
use Prim.Native.Nat.{ℕ, zero, suc, ◌+◌, ◌*◌, ◌≤◌, ◌<◌}
use native.Mathlib.Omega.{arith}
use native.Mathlib.Decide.{dec_lt}
use mathlib.Core.List.{List, [], ◌∷◌, map}
use borrow.Author.Tests.{lt-ltb, le-ltb, eqb-true}
use lib.Dec.{eqb}
use lib.ListN.{length, get_or, take, drop, length-map}
use lib.Seq.{get_or-take, get_or-drop}
use Rattle.bounded.specs.Bounded.{every, differ}
use Rattle.bounded.proofs.BoundedLaws.{every-at, differ-once, build-length, build-at}
use Rattle.bounded.proofs.ListsLaws.{map_at, memb-place, memb-at}
use Rattle.grid.specs.declared.Grid.{Grid}
use Rattle.grid.specs.Grid.{meet}
use Rattle.net.specs.Net.{u16_at, max_entries, Mark, short, long, number_size, number_place, count_place, channel_place, parent_place, number_in, count_at, net_of, Net, Entry, size, channel, parent, no_parent, parent_right, parents_right, entry_of, channels, has, low_first, channels_known, channels_differ}
use Rattle.net.specs.declared.Record.{Record}
use Rattle.net.specs.declared.Test.{Test}
use Rattle.net.specs.declared.Test.TheVariants.{Channels, Repeats, Edges}
use Rattle.net.specs.Facts.{passes_at, passes, AcceptedNet}

-- ---- u16_at

pub u16_at-part : (s : List ℕ) (o m k : ℕ) → k + 1 < m → u16_at (take m (drop o s)) k ≡ u16_at s (o + k)
unfolding u16_at
u16_at-part s o m k h = ap₂ (λ (a b : ℕ). a + b * 256) (byte k (omega arith)) (byte (k + 1) h ∙ ap (λ (j : ℕ). get_or s j 0) (omega arith))
  where
    byte : (j : ℕ) → j < m → get_or (take m (drop o s)) j 0 ≡ get_or s (o + j) 0
    byte j l = get_or-take m (drop o s) j 0 l ∙ get_or-drop o s j 0

-- of bytes
pub u16_at-lt : (s : List ℕ) → ((k : ℕ) → get_or s k 0 < 256) → (k : ℕ) → u16_at s k < 65536
unfolding u16_at
u16_at-lt s bytes k = omega (arith, bytes k, bytes (k + 1))

-- the entry count of a record that is a part of a list
pub count_at-part : (z : ℕ) (s : List ℕ) (o m : ℕ) → count_place z + 1 < m → count_at z (take m (drop o s)) 0 ≡ count_at z s o
count_at-part z s o m h = u16_at-part s o m (0 + count_place z) (omega arith) ∙ ap (u16_at s) (omega arith)

-- ---- number_size

pub number_size-le : (m : Mark) → number_size m ≤ 4
unfolding number_size
number_size-le short = omega arith
number_size-le long = omega arith

pub number_size-short : number_size short ≡ 2
unfolding number_size
number_size-short = refl

pub number_size-long : number_size long ≡ 4
unfolding number_size
number_size-long = refl

pub number_size-cases : (m : Mark) → (number_size m ≡ 2) ⊎ (number_size m ≡ 4)
number_size-cases short = inl number_size-short
number_size-cases long = inr number_size-long

-- ---- number_in: of 2 bytes and of 4

first-2 : (r : List ℕ) → low_first (take 2 r) ≡ u16_at r 0
unfolding low_first u16_at
first-2 [] = refl
first-2 (a ∷ []) = refl
first-2 (a ∷ b ∷ r) = omega arith

first-4 : (r : List ℕ) → low_first (take 4 r) ≡ u16_at r 0 + u16_at r 2 * 65536
unfolding low_first u16_at
first-4 [] = refl
first-4 (a ∷ []) = omega arith
first-4 (a ∷ b ∷ []) = omega arith
first-4 (a ∷ b ∷ c ∷ []) = omega arith
first-4 (a ∷ b ∷ c ∷ d ∷ r) = omega arith

pub number_in-short : (z : ℕ) (r : List ℕ) → z ≡ 2 → number_in z r ≡ u16_at r number_place
unfolding number_in
number_in-short z r e = ap (λ (k : ℕ). low_first (take k r)) e ∙ first-2 r

pub number_in-long : (z : ℕ) (r : List ℕ) → z ≡ 4 → number_in z r ≡ u16_at r number_place + u16_at r (number_place + 2) * 65536
unfolding number_in
number_in-long z r e = ap (λ (k : ℕ). low_first (take k r)) e ∙ first-4 r

-- of bytes
pub number_in-lt : (z : ℕ) (r : List ℕ) → (z ≡ 2) ⊎ (z ≡ 4) → u16_at r 0 < 65536 → u16_at r 2 < 65536 → number_in z r < 4294967296
number_in-lt z r (inl e) low high = omega (arith, number_in-short z r e)
number_in-lt z r (inr e) low high = omega (arith, number_in-long z r e)

-- ---- net_of

module _ (z : ℕ) (r : List ℕ) where
  pub net_of-number : (net_of z r).number ≡ number_in z r
  unfolding net_of
  net_of-number = refl

  pub net_of-size : size (net_of z r) ≡ count_at z r 0
  unfolding net_of
  net_of-size = build-length (count_at z r 0) _

  -- what f reads off entry i
  net_of-entry : (f : Entry → ℕ) (i : ℕ) → i < count_at z r 0
      → get_or (map f (net_of z r).entries) i 0 ≡ f (record { channel = u16_at r (channel_place z i); parent = u16_at r (parent_place z i) })
  unfolding net_of
  net_of-entry f i h = map_at f (net_of z r).entries no_entry i (omega (arith, net_of-size)) ∙ ap f (build-at (count_at z r 0) _ i no_entry h)
    where
      no_entry : Entry
      no_entry = record { channel = 0; parent = 0 }

  pub net_of-channel : (i : ℕ) → i < count_at z r 0 → channel (net_of z r) i ≡ u16_at r (channel_place z i)
  unfolding net_of
  net_of-channel i h = net_of-entry (λ (e : Entry). e.channel) i h

  pub net_of-parent : (i : ℕ) → i < count_at z r 0 → parent (net_of z r) i ≡ u16_at r (parent_place z i)
  unfolding net_of
  net_of-parent i h = net_of-entry (λ (e : Entry). e.parent) i h

-- the four bytes of entry i lie within the record
pub entry-within : (r : Record) (i : ℕ) → i < size (net_of r.z r.bytes.now) → (parent_place r.z i + 2 ≤ length r.bytes.now) × (i < max_entries) × (r.z ≤ 4)
entry-within r i h = let e = net_of-size r.z r.bytes.now in let w = r.whole in (omega arith, omega arith, omega arith)

-- ---- parent_right

module _ (g : Grid) (n : Net) where
  pub parent_right-first : (i : ℕ) → i ≡ 0 → parent_right g n i ≡ eqb (parent n i) no_parent
  unfolding parent_right
  parent_right-first zero h = refl
  parent_right-first (suc i) h = absurd (omega arith)

  pub parent_right-late : (i : ℕ) → 0 < i → i ≤ parent n i → parent_right g n i ≡ false
  unfolding parent_right
  parent_right-late zero h l = absurd (omega arith)
  parent_right-late (suc i) h l = ap (λ (b : Bool). b && meet g (channel n (parent n (suc i))) (channel n (suc i))) (le-ltb (parent n (suc i)) (suc i) l)

  pub parent_right-earlier : (i : ℕ) → 0 < i → parent n i < i → parent_right g n i ≡ meet g (channel n (parent n i)) (channel n i)
  unfolding parent_right
  parent_right-earlier zero h l = absurd (omega arith)
  parent_right-earlier (suc i) h l = ap (λ (b : Bool). b && meet g (channel n (parent n (suc i))) (channel n (suc i))) (lt-ltb (parent n (suc i)) (suc i) l)

-- ---- parents_right

-- the first entry's parent
pub parents_right-first : (g : Grid) (n : Net) → parents_right g n ≡ true → 0 < size n → parent n 0 ≡ no_parent
unfolding parents_right
parents_right-first g n h l = eqb-true _ _ (sym (parent_right-first g n 0 refl) ∙ every-at (size n) (parent_right g n) h 0 l)

-- a later entry's parent is earlier, and their channels meet
pub parents_right-at : (g : Grid) (n : Net) → parents_right g n ≡ true → (i : ℕ) → 0 < i → i < size n
    → (parent n i < i) × (meet g (channel n (parent n i)) (channel n i) ≡ true)
unfolding parents_right
parents_right-at g n h i l m = at (dec_lt (parent n i) i)
  where
    right : parent_right g n i ≡ true
    right = every-at (size n) (parent_right g n) h i m

    at : Dec (parent n i < i) → (parent n i < i) × (meet g (channel n (parent n i)) (channel n i) ≡ true)
    at (yes e) = (e, sym (parent_right-earlier g n i l e) ∙ right)
    at (no e) = absurd (true≢false (sym right ∙ parent_right-late g n i l (omega arith)))

-- ---- AcceptedNet

-- what the tests 7 and 8 say of one net
pub net-accepted : (g : Grid) (n : Net) → 0 < size n → channels_differ n ≡ true → parents_right g n ≡ true → AcceptedNet (meet g) n
unfolding channels_differ
net-accepted g n z d p = record {
  filled = z;
  earlier = λ i l h. (parents_right-at g n p i l h).0;
  meets = λ i l h. (parents_right-at g n p i l h).1;
  once = differ-once (size n) (channel n) d;
}

-- ---- has

pub channels-length : (n : Net) → length (channels n) ≡ size n
channels-length n = length-map n.entries (λ (e : Entry). e.channel)

pub has-at : (n : Net) (i : ℕ) → i < size n → has n (channel n i) ≡ true
has-at n i h = memb-at (channels n) i (omega (arith, channels-length n))

pub has-entry : (n : Net) (c : ℕ) → has n c ≡ true → (entry_of n c < size n) × (channel n (entry_of n c) ≡ c)
has-entry n c h = let r = memb-place c (channels n) h in (omega (arith, channels-length n), r.1)

-- ---- passes

pub passes-every : (g : Grid) (test : Test) (n : Net) → passes g test n ≡ every (size n) (passes_at g test n)
unfolding passes channels_known channels_differ parents_right differ passes_at
passes-every g Channels n = refl
passes-every g Repeats n = refl
passes-every g Edges n = refl
