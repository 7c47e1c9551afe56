-- Hashes whose four counters no record raises.
use Rattle.std.proofs.Common.{◌≡◌, ◌≢◌, ℕ, ◌+◌, ◌<◌, ◌≤◌, List, get_or, refl, sym, subst, inl, inr, arith}
use Rattle.std.proofs.Common.{get_or-set_other}
use Rattle.std.proofs.lemmas.Bool.{cases_lt}
use Rattle.tc_sketch.specs.Sketch.{Sketch, place0, place1, place2, place3, raised, aged, recorded, freq}
use Rattle.tc_sketch.specs.Steps.{AreSaturated, counted_in, one_more}
use Rattle.tc_sketch.proofs.Packed.{raised-below, raised-full}

-- each counter of a hash holds the most
record IsFull (s : Sketch) (h : ℕ) : Type 0 where
  first : 15 ≤ get_or s.row0 (place0 s h) 0
  second : 15 ≤ get_or s.row1 (place1 s h) 0
  third : 15 ≤ get_or s.row2 (place2 s h) 0
  fourth : 15 ≤ get_or s.row3 (place3 s h) 0

full_of : (s : Sketch) (h : ℕ) → 15 ≤ freq s h → IsFull s h
unfolding freq
full_of s h full = record {
  first = omega (arith, full);
  second = omega (arith, full);
  third = omega (arith, full);
  fourth = omega (arith, full);
}

frequent : (s : Sketch) (h : ℕ) → IsFull s h → 15 ≤ freq s h
unfolding freq
frequent s h full = omega (arith, full.first, full.second, full.third, full.fourth)

-- a record raises none of them
pub counted_in-full : (s : Sketch) (h : ℕ) → 15 ≤ freq s h → counted_in h s ≡ s
counted_in-full s h frequent =
    let full = full_of s h frequent in
    rw (
      raised-full s.row0 (place0 s h) full.first,
      raised-full s.row1 (place1 s h) full.second,
      raised-full s.row2 (place2 s h) full.third,
      raised-full s.row3 (place3 s h) full.fourth,
    ) refl

-- a counter that holds the most does so after another is raised
full_still : (row : List ℕ) (at p : ℕ) → 15 ≤ get_or row p 0 → 15 ≤ get_or (raised row at) p 0
full_still row at p full = elim (cases_lt (get_or row at 0) 15) [
  | inl l ↦
      let n : p ≢ at = λ e. less row at p l full e in
      rw (raised-below row at l, get_or-set_other row at p (get_or row at 0 + 1) 0 n) full
  | inr l ↦ rw (raised-full row at l) full
]
  where
    less : (row : List ℕ) (at p : ℕ) → get_or row at 0 < 15 → 15 ≤ get_or row p 0 → p ≢ at
    less row at p l full e = omega (arith, l, subst (λ q. 15 ≤ get_or row q 0) e full)

pub saturated_counted_in : (hashes : List ℕ) (s : Sketch) (h : ℕ) → AreSaturated hashes s → AreSaturated hashes (counted_in h s)
saturated_counted_in hashes s h saturated k some =
    let g = get_or hashes k 0 in
    let full = full_of s g (saturated k some) in
    frequent (counted_in h s) g (record {
      first = full_still s.row0 (place0 s h) (place0 s g) full.first;
      second = full_still s.row1 (place1 s h) (place1 s g) full.second;
      third = full_still s.row2 (place2 s h) (place2 s g) full.third;
      fourth = full_still s.row3 (place3 s h) (place3 s g) full.fourth;
    })

-- one that is found noted is saturated
pub found_full : (hashes : List ℕ) (s : Sketch) (h k : ℕ) → AreSaturated hashes s → 0 < h → get_or hashes k 0 ≡ h → 15 ≤ freq s h
found_full hashes s h k saturated some e = subst (λ g. 15 ≤ freq s g) e (saturated k (subst (λ g. 0 < g) (sym e) some))

-- a record, in two steps
pub recorded_by_steps : (s : Sketch) (h : ℕ) → aged (one_more (counted_in h s)) ≡ recorded s h
unfolding recorded
recorded_by_steps s h = refl

-- how many records there were is nothing to them
pub saturated_one_more : (hashes : List ℕ) (s : Sketch) → AreSaturated hashes s → AreSaturated hashes (one_more s)
unfolding freq
saturated_one_more hashes s saturated = saturated

-- nothing is noted
pub saturated_none : (hashes : List ℕ) (s : Sketch) → ((k : ℕ) → get_or hashes k 0 ≡ 0) → AreSaturated hashes s
saturated_none hashes s none k some = absurd (omega (arith, some, none k))
