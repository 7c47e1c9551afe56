-- The sketch never changes its width.
use Rattle.std.specs.Prelude.{◌*◌, ◌/◌, ◌^◌, ◌==◌, if◌then◌else◌}
use Rattle.std.specs.Prelude.{ℕ, ◌+◌, Bool, true, false, cond, List, [], ◌∷◌, Option, Some, None}
use Rattle.std.proofs.Common.{◌≡◌, refl, ◌∙◌}
use Rattle.tc_item.specs.KeyHash.{hash}
use Rattle.tc_sketch.specs.Sketch.{Sketch, empty_sketch, aged, recorded, halved, raised, place0, place1, place2, place3}
use Rattle.tc_item.specs.declared.item.Item.{Item}
use Rattle.tc_plain.specs.declared.shared.entry.Entry.{Entry}
use Rattle.tc_plain.specs.Entries.{lives}
use Rattle.tc_plain.specs.EvictionState.{EvictionState, held, filtered, no_entries, is_flush_due, at_moment}
use Rattle.tc_plain.specs.Doing.{looked_up, all_looked_up}

pub empty_width : (n : ℕ) → (empty_sketch n).width ≡ n
unfolding empty_sketch
empty_width n = refl

aged_width : (s : Sketch) → (aged s).width ≡ s.width
unfolding aged
aged_width s = go (s.count == 10 * 2 ^ s.width)
  where
    go : (b : Bool) → (if b
        then record s {
          row0 = halved s.row0;
          row1 = halved s.row1;
          row2 = halved s.row2;
          row3 = halved s.row3;
          count = s.count / 2;
        }
        else s).width ≡ s.width
    go true = refl
    go false = refl

pub recorded_width : (s : Sketch) (h : ℕ) → (recorded s h).width ≡ s.width
unfolding recorded
recorded_width s h = aged_width (record s {
  row0 = raised s.row0 (place0 s h);
  row1 = raised s.row1 (place1 s h);
  row2 = raised s.row2 (place2 s h);
  row3 = raised s.row3 (place3 s h);
  count = s.count + 1;
})

pub width-at_moment : (m : ℕ) (l : EvictionState) → (at_moment m l).sketch.width ≡ l.sketch.width
width-at_moment m l = go (is_flush_due l.flush m)
  where
    go : (b : Bool)
        → (cond b (let n : EvictionState = record l { areas = no_entries; flush = None; moment = m } in n)
        (record l { areas = filtered (lives m) l.areas; moment = m })).sketch.width ≡ l.sketch.width
    go true = refl
    go false = refl

pub width-looked_up : (change : Item → Item) (key : List ℕ) (o : Option Entry) (l : EvictionState)
    → (looked_up change key o l).1.sketch.width ≡ l.sketch.width
width-looked_up change key None l = recorded_width l.sketch (hash key)
width-looked_up change key (Some e) l = recorded_width l.sketch (hash e.key)

pub width-all_looked_up : (change : Item → Item) (keys : List (List ℕ)) (l : EvictionState)
    → (all_looked_up change keys l).1.sketch.width ≡ l.sketch.width
width-all_looked_up change [] l = refl
width-all_looked_up change (key ∷ keys) l =
    width-all_looked_up change keys (looked_up change key (held key l.areas) l).1
    ∙ width-looked_up change key (held key l.areas) l
