-- Laws of what the writer writes (specs/Written.antt). Assumes nothing.
-- tracks_from: of a net's track maps, its tracks. bytes_from: one net more.
use mathlib.Core.Path.{◌≡◌, sym, ap, ◌∙◌}
use Prim.Native.Nat.{ℕ, ◌+◌, ◌<◌}
use native.Mathlib.Omega.{arith}
use native.Mathlib.Numerals.{add-one}
use mathlib.Core.List.{List, [], ◌∷◌, ◌++◌, map, append_assoc, append-nil}
use lib.ListN.{length, take, length-map}
use lib.Seq.{take-suc, ext_get_or}
use Rattle.bounded.proofs.ListsLaws.{map_at}
use Rattle.net.specs.Net.{Entry, Net, size, channels}
use Rattle.net.specs.Nets.{net_in}
use Rattle.netsearch.specs.HomeTrack.{track, bytes_from}
use Rattle.wires.specs.Wires.{mapped_by}
use Rattle.trackmaps.specs.TrackMaps.{MapsAre}
use Rattle.writer.specs.Written.{tracks_from}

-- ---- tracks_from

-- a net's track maps give its tracks
pub tracks_from-tracks : (partner : ℕ → ℕ → ℕ → ℕ) (w h : ℕ) (n : Net) (ts : List ℕ) → MapsAre partner w n ts → length ts ≡ size n → h < w
    → tracks_from w h ts ≡ map (track partner n h) (channels n)
tracks_from-tracks partner w h n ts r l below =
    let e = length-map n.entries (λ (x : Entry). x.channel) in
    ext_get_or 0 (tracks_from w h ts) (map (track partner n h) (channels n))
    (length-map ts (λ c. mapped_by w c h) ∙ l ∙ sym (length-map (channels n) (track partner n h) ∙ e))
    (λ i k.
    let a : i < length ts = omega (arith, length-map ts (λ c. mapped_by w c h)) in
    map_at (λ c. mapped_by w c h) ts 0 i a ∙ r.same i h (omega arith) below ∙ sym (map_at (track partner n h) (channels n) 0 i (omega arith)))

-- ---- bytes_from

module _ (partner : ℕ → ℕ → ℕ → ℕ) (f : ℕ → ℕ) where
  -- the bytes of one net
  abbrev pub net_bytes : Net → List ℕ
  net_bytes n = map (track partner n (f n.number)) (channels n)

  bytes_from-append : (ns : List Net) (n : Net) → bytes_from partner (ns ++ (n ∷ [])) f ≡ bytes_from partner ns f ++ net_bytes n
  unfolding bytes_from
  bytes_from-append [] n = append-nil _
  bytes_from-append (m ∷ ms) n =
      ap (λ (r : List ℕ). net_bytes m ++ r) (bytes_from-append ms n) ∙ sym (append_assoc (net_bytes m) (bytes_from partner ms f) (net_bytes n))

  -- one net more
  pub bytes_from-more : (ns : List Net) (j : ℕ) → j < length ns
      → bytes_from partner (take (j + 1) ns) f ≡ bytes_from partner (take j ns) f ++ net_bytes (net_in ns j)
  bytes_from-more ns j h =
      ap (λ (i : ℕ). bytes_from partner (take i ns) f) (add-one j)
      ∙ ap (λ (l : List Net). bytes_from partner l f) (take-suc ns j _ h)
      ∙ bytes_from-append (take j ns) (net_in ns j)
