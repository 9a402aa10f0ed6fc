-- The edge part of words: as many records as the header counts, and what is loaded from them.
use Prim.Native.Nat.{ℕ, zero, suc}
use mathlib.Core.Path.{◌≡◌, refl, ap}
use mathlib.Core.Bool.{true}
use mathlib.Core.List.{List}
use lib.ListN.{length, drop}
use Rattle.image.specs.Image.{record_size, sound_header, part, edge_count, edge_part, edges_from, load}

pub from_length : (k : ℕ) (ws : List ℕ) → length (edges_from k ws) ≡ k
unfolding edges_from
from_length zero ws = refl
from_length (suc k) ws = ap suc (from_length k (drop 6 ws))

module _ (ws : List ℕ) where
  pub part_two : sound_header ws ≡ true → part 2 ws ≡ edge_part (record_size ws) ws
  unfolding part
  part_two h = rw h

  pub load_edges : (load ws).eseq ≡ edges_from (edge_count ws) (edge_part (record_size ws) ws)
  unfolding load
  load_edges = refl

  pub eseq_count : length (load ws).eseq ≡ edge_count ws
  unfolding load
  eseq_count = from_length (edge_count ws) (edge_part (record_size ws) ws)
