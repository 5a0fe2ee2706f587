-- Laws of the bytes of one net's record (specs/Encoding.antt): they are read back. Assumes nothing.
-- u16_at: of a list behind or before another, of one of many lists, of a list without its first elements.
-- u16_bytes, number_bytes: their length, and the number that they are read as. record_from: its length, its fields, and the net that it is read as.
use mathlib.Core.Path.{◌≡◌, refl, sym, ap, ap₂, ◌∙◌}
use mathlib.Core.List.{List, [], ◌∷◌, ◌++◌, append_assoc}
use Prim.Native.Nat.{ℕ, ◌+◌, ◌*◌, ◌/◌, ◌%◌, ◌<◌}
use native.Mathlib.Omega.{arith}
use lib.ListN.{length, get_or, drop, length-append, get_or-append}
use lib.Seq.{get_or_at, get_or-drop, get_or-append-add, ext_get_or}
use Rattle.bounded.specs.Bounded.{joined}
use Rattle.bounded.proofs.BoundedLaws.{joined-part, joined-even}
use Rattle.bounded.proofs.ListsLaws.{map_at}
use Rattle.net.proofs.NetLaws.{u16_at-part, number_size-short, number_size-long, number_in-short, number_in-long, net_of-number, net_of-size, net_of-channel, net_of-parent}
use Rattle.net.specs.Net.{Entry, Net, Mark, short, long, u16_at, number_size, number_place, count_place, channel_place, parent_place, record_length, number_in, count_at, net_of, size, channel, parent}
use Rattle.encoding.specs.Encoding.{u16_bytes, number_bytes, head_bytes, entry_bytes, record_from}
use Rattle.encoding.specs.Facts.{entry_length}

-- ---- u16_at

-- in a list that stands behind another
pub u16_at-behind : (a b : List ℕ) (k : ℕ) → u16_at (a ++ b) (length a + k) ≡ u16_at b k
unfolding u16_at
u16_at-behind a b k =
    let e : length a + k + 1 ≡ length a + (k + 1) = omega arith in
    ap₂ (λ (x y : ℕ). x + y * 256) (get_or-append-add a b k 0) (ap (λ (j : ℕ). get_or (a ++ b) j 0) e ∙ get_or-append-add a b (k + 1) 0)

-- in a list that stands before another
pub u16_at-before : (a b : List ℕ) (k : ℕ) → k + 1 < length a → u16_at (a ++ b) k ≡ u16_at a k
unfolding u16_at
u16_at-before a b k h =
    let l : k < length a = omega arith in
    ap₂ (λ (x y : ℕ). x + y * 256) (get_or-append a b 0 k l) (get_or-append a b 0 (k + 1) h)

-- behind the first o of a list
pub u16_at-drop : (s : List ℕ) (o k : ℕ) → u16_at (drop o s) k ≡ u16_at s (o + k)
unfolding u16_at
u16_at-drop s o k =
    let e : o + (k + 1) ≡ o + k + 1 = omega arith in
    ap₂ (λ (x y : ℕ). x + y * 256) (get_or-drop o s k 0) (get_or-drop o s (k + 1) 0 ∙ ap (λ (j : ℕ). get_or s j 0) e)

-- in one of many lists, one behind the other
pub u16_at-joined : (k : ℕ) (f : ℕ → List ℕ) (i j : ℕ) → i < k → j + 1 < length (f i) → u16_at (joined k f) (length (joined i f) + j) ≡ u16_at (f i) j
u16_at-joined k f i j l h =
    sym (u16_at-part (joined k f) (length (joined i f)) (length (f i)) j h) ∙ ap (λ (b : List ℕ). u16_at b j) (joined-part k f i l)

-- ---- u16_bytes

pub u16_bytes-length : (x : ℕ) → length (u16_bytes x) ≡ 2
unfolding u16_bytes
u16_bytes-length x = refl

-- the u16 whose bytes stand at place k
pub u16_at-place : (a b : List ℕ) (x k : ℕ) → length a ≡ k → u16_at (a ++ (u16_bytes x ++ b)) k ≡ x
unfolding u16_at u16_bytes
u16_at-place a b x k e =
    let first = get_or_at a (x % 256) (x / 256 ∷ b) 0 k e in
    let second = ap (λ (j : ℕ). get_or (a ++ (x % 256 ∷ x / 256 ∷ b)) (j + 1) 0) (sym e) ∙ get_or-append-add a (x % 256 ∷ x / 256 ∷ b) 1 0 in
    omega (arith, first, second)

-- the bytes of a u16 that is read are the bytes that it is read from
pub u16_bytes-read : (s : List ℕ) (k : ℕ) → get_or s k 0 < 256 → u16_bytes (u16_at s k) ≡ get_or s k 0 ∷ get_or s (k + 1) 0 ∷ []
unfolding u16_at u16_bytes
u16_bytes-read s k h =
    let low : u16_at s k % 256 ≡ get_or s k 0 = omega arith in
    let high : u16_at s k / 256 ≡ get_or s (k + 1) 0 = omega arith in
    ap₂ (λ (x y : ℕ). x ∷ y ∷ []) low high

-- ---- number_bytes

pub number_bytes-length : (mark : Mark) (x : ℕ) → length (number_bytes mark x) ≡ number_size mark
unfolding number_bytes number_size u16_bytes
number_bytes-length short x = refl
number_bytes-length long x = refl

-- the net number whose bytes stand first in a record is read back
number_in-first : (mark : Mark) (x : ℕ) (b : List ℕ) → number_in (number_size mark) (number_bytes mark x ++ b) ≡ x
unfolding number_bytes
number_in-first short x b = number_in-short (number_size short) _ number_size-short ∙ u16_at-place [] b x number_place refl
number_in-first long x b =
    let e = number_in-long (number_size long) (number_bytes long x ++ b) number_size-long in
    let low = u16_at-place [] (u16_bytes (x / 65536) ++ b) (x % 65536) 0 refl in
    let high = u16_at-place (u16_bytes (x % 65536)) b (x / 65536) 2 (u16_bytes-length (x % 65536)) in
    omega (arith, low, high)

-- ---- record_from

pub entry_bytes-length : (n : Net) (i : ℕ) → length (entry_bytes n i) ≡ entry_length
unfolding entry_bytes u16_bytes
entry_bytes-length n i = refl

head_bytes-length : (mark : Mark) (n : Net) → length (head_bytes mark n) ≡ record_length (number_size mark) 0
unfolding head_bytes
head_bytes-length mark n =
    omega (arith, length-append (number_bytes mark n.number) (u16_bytes (size n)), number_bytes-length mark n.number, u16_bytes-length (size n))

pub record_from-length : (mark : Mark) (n : Net) → length (record_from mark n) ≡ record_length (number_size mark) (size n)
unfolding record_from
record_from-length mark n =
    omega
    (arith, length-append (head_bytes mark n) (joined (size n) (entry_bytes n)), head_bytes-length mark n, joined-even 4 (size n) (entry_bytes n) (entry_bytes-length n))

module _ (mark : Mark) (n : Net) where
  -- how many bytes a net number has
  abbrev z : ℕ
  z = number_size mark

  -- number, count and entries, one behind the other
  record-parts : record_from mark n ≡ number_bytes mark n.number ++ (u16_bytes (size n) ++ joined (size n) (entry_bytes n))
  unfolding record_from head_bytes
  record-parts = append_assoc (number_bytes mark n.number) (u16_bytes (size n)) (joined (size n) (entry_bytes n))

  record_from-number : number_in z (record_from mark n) ≡ n.number
  record_from-number = ap (number_in z) record-parts ∙ number_in-first mark n.number (u16_bytes (size n) ++ joined (size n) (entry_bytes n))

  pub record_from-count : count_at z (record_from mark n) 0 ≡ size n
  record_from-count =
      ap (λ (r : List ℕ). count_at z r 0) record-parts
      ∙ u16_at-place (number_bytes mark n.number) (joined (size n) (entry_bytes n)) (size n) (0 + count_place z) (number_bytes-length mark n.number ∙ omega arith)

  -- a field of entry i, from the record's first byte and from the entry's
  entry_at : (i j k : ℕ) → i < size n → j + 1 < 4 → k ≡ channel_place z i + j → u16_at (record_from mark n) k ≡ u16_at (entry_bytes n i) j
  unfolding record_from
  entry_at i j k l h e =
      let entries : List ℕ = joined (size n) (entry_bytes n) in
      let before = joined-even 4 i (entry_bytes n) (entry_bytes-length n) in
      let p : k ≡ length (head_bytes mark n) + (length (joined i (entry_bytes n)) + j) = omega (arith, before, head_bytes-length mark n) in
      ap (u16_at (head_bytes mark n ++ entries)) p
      ∙ u16_at-behind (head_bytes mark n) entries (length (joined i (entry_bytes n)) + j)
      ∙ u16_at-joined (size n) (entry_bytes n) i j l (omega (arith, entry_bytes-length n i))

  record_from-channel : (i : ℕ) → i < size n → u16_at (record_from mark n) (channel_place z i) ≡ channel n i
  unfolding entry_bytes
  record_from-channel i l = entry_at i 0 (channel_place z i) l (omega arith) (omega arith) ∙ u16_at-place [] (u16_bytes (parent n i)) (channel n i) 0 refl

  record_from-parent : (i : ℕ) → i < size n → u16_at (record_from mark n) (parent_place z i) ≡ parent n i
  unfolding entry_bytes u16_bytes
  record_from-parent i l = entry_at i 2 (parent_place z i) l (omega arith) (omega arith) ∙ u16_at-place (u16_bytes (channel n i)) [] (parent n i) 2 refl

no_entry : Entry
no_entry = record { channel = 0; parent = 0 }

-- nets are equal by their entries
pub net-ext : (n m : Net) → n.number ≡ m.number → size n ≡ size m → ((i : ℕ) → i < size n → channel n i ≡ channel m i)
    → ((i : ℕ) → i < size n → parent n i ≡ parent m i) → n ≡ m
net-ext n m x z c p =
    ap₂ (λ (y : ℕ) (es : List Entry). record { number = y; entries = es }) x
    (ext_get_or no_entry n.entries m.entries z (λ i h.
    ap₂ (λ (a b : ℕ). record { channel = a; parent = b })
    (sym (map_at (λ (e : Entry). e.channel) n.entries no_entry i h) ∙ c i h ∙ map_at (λ (e : Entry). e.channel) m.entries no_entry i (omega arith))
    (sym (map_at (λ (e : Entry). e.parent) n.entries no_entry i h) ∙ p i h ∙ map_at (λ (e : Entry). e.parent) m.entries no_entry i (omega arith))))

-- the record of a net is read back
pub net_of-record_from : (mark : Mark) (n : Net) → net_of (number_size mark) (record_from mark n) ≡ n
net_of-record_from mark n =
    let z = number_size mark in
    let r = record_from mark n in
    let l = net_of-size z r in
    let k = record_from-count mark n in
    net-ext (net_of z r) n (net_of-number z r ∙ record_from-number mark n) (l ∙ k)
    (λ i h. net_of-channel z r i (omega arith) ∙ record_from-channel mark n i (omega arith))
    (λ i h. net_of-parent z r i (omega arith) ∙ record_from-parent mark n i (omega arith))
