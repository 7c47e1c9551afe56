-- The steps of a record, and hashes of which a record raises no counter.
use Rattle.std.specs.Prelude.{ℕ, ◌+◌, ◌<◌, ◌≤◌, List, slice_index}
use Rattle.tc_sketch.specs.Sketch.{Sketch, place0, place1, place2, place3, raised, freq}

-- the four places of a hash are raised
abbrev pub counted_in : ℕ → Sketch → Sketch
counted_in h s = record s {
  row0 = raised s.row0 (place0 s h);
  row1 = raised s.row1 (place1 s h);
  row2 = raised s.row2 (place2 s h);
  row3 = raised s.row3 (place3 s h);
}

-- one record more
abbrev pub one_more : Sketch → Sketch
one_more s = record s { count = s.count + 1 }

-- each hash noted, which is not 0, has four counters that no record raises
abbrev pub AreSaturated : List ℕ → Sketch → Type 0
AreSaturated hashes s = (k : ℕ) → 0 < slice_index hashes k → 15 ≤ freq s (slice_index hashes k)
