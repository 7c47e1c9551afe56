use Rattle.std.specs.Prelude.{map}
use Rattle.std.proofs.Common.{◌≡◌, ◌≤◌, sym, ◌∙◌, ap, subst, arith}
use Rattle.tc_plain.specs.UserCache.{UserCache}
use Rattle.tc_plain.specs.Soundness.{IsSound}
use Rattle.tc_partition.specs.WaitingSlots.{waiting_of}
use Rattle.tc_partition.specs.SlotCaches.{cache_of}
use Rattle.tc_partition.specs.FastState.{FastState, state_of, settled_in}
use Rattle.tc_partition.proofs.Joined.{no_map, idle_lazy, idle_placed, idle_settled, before}
use Rattle.tc_partition.proofs.fast.Fast.renew.Goals as goal

pub invariant_of-self : goal.invariant_of-self
invariant_of-self c =
    let i = c.self.inside in
    let none = no_map (waiting_of i.cache.live.held.slots) i.waiting
    (ap (λ (z : FastState). z.waiting) c.self.view_is ∙ c.requires) in
    let same : cache_of c.renew.new.self ≡ cache_of i.cache = c.renew.ensures.cache in
    let sound : IsSound (cache_of c.renew.new.self) = subst IsSound (sym same) c.self.invariant.sound in
    let le : c.renew.new.self.live.moment ≤ i.moment =
    omega (arith, ap (λ (k : UserCache). k.live.moment) same, before (state_of i) c.self.invariant.lazy) in
    record {
      sound = sound;
      lazy = idle_lazy c.renew.new.self.live i.waiting i.moment none sound.areas le;
      placed = idle_placed c.renew.new.self.live i.waiting none;
    }

pub returns-clause-state : goal.returns-clause-state
returns-clause-state c =
    let i = c.self.inside in
    let none = no_map (waiting_of i.cache.live.held.slots) i.waiting
    (ap (λ (z : FastState). z.waiting) c.self.view_is ∙ c.requires) in
    idle_settled i.cache.live.held.slots c.renew.new.self.live.held.slots i.waiting i.moment (cache_of i.cache)
    (cache_of c.renew.new.self) none c.renew.ensures.cache
    ∙ ap settled_in c.self.view_is

pub returns-clause-waits : goal.returns-clause-waits
returns-clause-waits c =
    let i = c.self.inside in
    ap (map (waiting_of c.renew.new.self.live.held.slots))
    (no_map (waiting_of i.cache.live.held.slots) i.waiting (ap (λ (z : FastState). z.waiting) c.self.view_is ∙ c.requires))
