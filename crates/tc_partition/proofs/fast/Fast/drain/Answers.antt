use Rattle.std.specs.Prelude.{drop, map}
use Rattle.std.proofs.Common.{[], refl, ◌∙◌, ap, sym, subst}
use Rattle.std.proofs.lemmas.List.{append-nil}
use Rattle.tc_plain.specs.Doing.{with_live}
use Rattle.tc_partition.specs.WaitingSlots.{MayWait, waiting_of}
use Rattle.tc_partition.specs.SlotCaches.{cache_of}
use Rattle.tc_partition.specs.FastState.{FastState, settled_in}
use Rattle.tc_partition.proofs.Limited.{both_small}
use Rattle.tc_partition.proofs.Draining.{all_stand}
use Rattle.tc_partition.proofs.Joined.{drained_sound}
use Rattle.tc_partition.proofs.fast.Fast.drain.Goals as goal

pub drain-requires-clause-light : goal.drain-requires-clause-light
drain-requires-clause-light c = both_small (cache_of c.self.inside.cache) c.self.invariant.sound

pub drain-requires-clause-first : goal.drain-requires-clause-first
drain-requires-clause-first c =
    let i = c.self.inside in
    record {
      after = [];
      moment = i.moment;
      both =
          subst (λ xs. MayWait i.cache.live xs i.moment) (sym (append-nil i.waiting))
          (record { lazy = c.self.invariant.lazy; placed = c.self.invariant.placed });
    }

pub invariant_of-self : goal.invariant_of-self
invariant_of-self c =
    let i = c.self.inside in
    let d = c.drain.ensures.drained in
    let left = (all_stand i.cache.live i.waiting i.moment c.drain.new.live c.drain.new.waiting
    (record { lazy = c.self.invariant.lazy; placed = c.self.invariant.placed }) d).0 in
    record {
      sound =
          drained_sound (cache_of i.cache) i.cache.live i.waiting c.drain.new.live c.drain.new.waiting i.moment refl
          c.self.invariant.sound d left.lazy;
      lazy = left.lazy;
      placed = left.placed;
    }

pub returns-clause-settled : goal.returns-clause-settled
returns-clause-settled c =
    let i = c.self.inside in
    ap (with_live (cache_of i.cache))
    (all_stand i.cache.live i.waiting i.moment c.drain.new.live c.drain.new.waiting
    (record { lazy = c.self.invariant.lazy; placed = c.self.invariant.placed }) c.drain.ensures.drained).1
    ∙ ap settled_in c.self.view_is

pub returns-clause-rest : goal.returns-clause-rest
returns-clause-rest c = c.drain.ensures.rest ∙ ap (λ (z : FastState). drop c.args.limit z.waiting) c.self.view_is

pub returns-clause-none : goal.returns-clause-none
returns-clause-none c = λ big. ap (map (waiting_of c.drain.new.live.held.slots)) (c.drain.ensures.none big)
