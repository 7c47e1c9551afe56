use Rattle.std.proofs.Common.{◌≡◌, [], ◌∷◌, Option, Some, None, length, take, refl, ◌∙◌, ap, arith, subst}
use Rattle.std.proofs.Math.Seq.{take-length}
use Rattle.std.proofs.lemmas.List.{length-append}
use Rattle.tc_item.specs.declared.slot.Slot.{Slot}
use Rattle.tc_plain.specs.AreaLists.{change_of}
use Rattle.tc_plain.specs.Doing.{all_looked_up}
use Rattle.tc_plain.specs.EvictionState.{at_moment}
use Rattle.tc_plain.proofs.Asked.{hits_found, hits_none}
use Rattle.tc_partition.specs.LiveSlots.{live_of}
use Rattle.tc_partition.specs.Seeking.{SeekSlots}
use Rattle.tc_partition.specs.WaitingSlots.{SeeksSlot}
use Rattle.tc_partition.proofs.OneLook.{found_next, hashed_long}
use Rattle.tc_partition.proofs.looking.seek_many.Goals as goal
use Rattle.tc_partition.proofs.looking.seek_many.Goals.{in-Some+in_ok-add_next-in-Some, in-None}

pub next_hint-hint-requires : goal.next_hint-hint-requires
next_hint-hint-requires c =
    omega (arith, hashed_long c.args.keys.now c.args.hashes.now c.requires.hashed, c.loop-i-test.true)

pub push_reserved-requires : goal.push_reserved-requires
push_reserved-requires c = omega (arith, c.loop-i.invariant.place_room, c.loop-i-test.true)

pub push_reserved-requires-in-None : goal.push_reserved-requires-in-None
push_reserved-requires-in-None c = omega (arith, c.loop-i.invariant.place_room, c.loop-i-test.true)

pub add_next-requires : goal.add_next-requires
add_next-requires c = omega (arith, c.loop-i.invariant.hit_room, c.loop-i-test.true)

pub loop-i-preserved : goal.loop-i-preserved
loop-i-preserved c =
    let keys = c.args.keys.now in
    let m = c.args.moment in
    let live = c.args.live.now in
    let i = c.loop-i.i in
    let key = c.index-keys-i.result in
    let before = c.loop-i.places.items in
    elim c.match-seek_entry.branch [
      | in-Some+in_ok-add_next-in-Some w ↦
          let place : Option Slot = Some w.in-Some.slot in
          let at : SeeksSlot place m key live =
          (w.in-Some.entry.now, w.in-Some.ensures.0.0, w.in-Some.ensures.0.1, w.in-Some.ensures.1) in
          rw (w.hits-is, w.places-is) (record {
            shown =
                hits_found c.args.due m keys i key key _ c.is_due-gone.result (live_of live) w.in-Some.entry.now
                c.loop-i.hits.items _ c.loop-i-test.true c.requires.sound c.is_due-gone.ensures refl c.index-keys-i.is
                c.loop-i.invariant.shown w.in-Some.ensures.1 w.in_ok-add_next-in-Some.ensures.hits;
            found =
                found_next m keys i key key before _ live place c.loop-i-test.true c.index-keys-i.is c.loop-i.invariant.found at
                w.push_reserved.ensures.items;
            hit_room =
                omega (
                  arith,
                  c.loop-i.invariant.hit_room,
                  w.in_ok-add_next-in-Some.ensures.long,
                  w.in_ok-add_next-in-Some.ensures.capacity,
                );
            place_room =
                omega (
                  arith,
                  c.loop-i.invariant.place_room,
                  w.push_reserved.ensures.capacity,
                  ap length w.push_reserved.ensures.items,
                  length-append before (place ∷ []),
                );
          })
      | in-None w ↦
          let place : Option Slot = None in
          rw (w.hits-is, w.places-is) (record {
            shown =
                hits_none c.args.due m keys i key key (live_of live) c.loop-i.hits.items c.loop-i-test.true c.requires.sound
                c.index-keys-i.is c.loop-i.invariant.shown w.in-None.ensures;
            found =
                found_next m keys i key key before _ live place c.loop-i-test.true c.index-keys-i.is c.loop-i.invariant.found
                w.in-None.ensures w.push_reserved-in-None.ensures.items;
            hit_room = omega (arith, c.loop-i.invariant.hit_room);
            place_room =
                omega (
                  arith,
                  c.loop-i.invariant.place_room,
                  w.push_reserved-in-None.ensures.capacity,
                  ap length w.push_reserved-in-None.ensures.items,
                  length-append before (place ∷ []),
                );
          })
    ]

pub returns-clause-hits : goal.returns-clause-hits
returns-clause-hits c =
    let keys = c.args.keys.now in
    let live = c.args.live.now in
    let end : c.loop-i.i ≡ length keys = omega arith in
    c.in_ok-hits-2.ensures ∙ c.loop-i.invariant.shown
    ∙ ap (λ i. (all_looked_up (change_of c.args.due) (take i keys) (at_moment c.args.moment (live_of live))).0) end
    ∙ ap (λ ks. (all_looked_up (change_of c.args.due) ks (at_moment c.args.moment (live_of live))).0) (take-length keys)

pub returns-clause-seen : goal.returns-clause-seen
returns-clause-seen c =
    let keys = c.args.keys.now in
    let live = c.args.live.now in
    let end : c.loop-i.i ≡ length keys = omega arith in
    subst (λ ks. SeekSlots c.args.moment ks c.loop-i.places.items live) (ap (λ i. take i keys) end ∙ take-length keys)
    c.loop-i.invariant.found
