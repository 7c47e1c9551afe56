use Rattle.std.proofs.Common.{◌≡◌, length, take, refl, sym, ◌∙◌, ap, arith}
use Rattle.std.proofs.Math.Seq.{take-length}
use Rattle.std.proofs.lemmas.Result.{IfOk-weaker}
use Rattle.tc_plain.specs.EvictionState.{held, at_moment}
use Rattle.tc_plain.specs.Doing.{all_looked_up}
use Rattle.tc_plain.specs.AreaLists.{live_of, change_of}
use Rattle.tc_plain.proofs.Asked.{hits_found, hits_none}
use Rattle.tc_plain.proofs.reference.eviction_state.EvictionState.look_up.Goals as goal
use Rattle.tc_plain.proofs.reference.eviction_state.EvictionState.look_up.Goals.{in-Some+in_ok-add_next, in_default}

pub add_next-requires : goal.add_next-requires
add_next-requires c = omega (arith, c.loop-i.invariant.room, c.loop-i-test.true)

pub loop-i-preserved : goal.loop-i-preserved
loop-i-preserved c =
    let keys = c.args.keys.now in
    let m = c.args.moment in
    let l = live_of c.args.self.now in
    let i = c.loop-i.i in
    let key = c.index-keys-i.result in
    let same = ap (λ q. held q (at_moment m l).areas) c.as_bytes.ensures.bytes in
    elim c.match-peek.branch [
      | in-Some+in_ok-add_next w ↦ rw w.hits-is (record {
        shown =
            hits_found c.args.due m keys i key key _ c.is_due-gone.result l w.in-Some.entry.now c.loop-i.hits.items _
            c.loop-i-test.true c.requires c.is_due-gone.ensures refl c.index-keys-i.is c.loop-i.invariant.shown
            (sym same ∙ w.in-Some.ensures) w.in_ok-add_next.ensures.hits;
        room =
            omega (arith, c.loop-i.invariant.room, w.in_ok-add_next.ensures.long, w.in_ok-add_next.ensures.capacity);
      })
      | in_default w ↦ rw w.hits-is (record {
        shown =
            hits_none c.args.due m keys i key key l c.loop-i.hits.items c.loop-i-test.true c.requires c.index-keys-i.is
            c.loop-i.invariant.shown (sym same ∙ w.in_default.ensures);
        room = omega (arith, c.loop-i.invariant.room);
      })
    ]

pub returns : goal.returns
returns c =
    let keys = c.args.keys.now in
    let end : c.loop-i.i ≡ length keys = omega arith in
    IfOk-weaker c.from_vec.result _ _ (λ hits h. h ∙ c.loop-i.invariant.shown
    ∙ ap (λ i. (all_looked_up (change_of c.args.due) (take i keys) (at_moment c.args.moment (live_of c.args.self.now))).0) end
    ∙ ap (λ ks. (all_looked_up (change_of c.args.due) ks (at_moment c.args.moment (live_of c.args.self.now))).0)
    (take-length keys)) c.from_vec.ensures
