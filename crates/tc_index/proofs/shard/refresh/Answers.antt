use Rattle.std.specs.Prelude.{nat_eq, not, OnOk}
use Rattle.std.proofs.Common.{Some, subst, rules}
use Rattle.indexmap.specs.IndexMap.{Updates}
use Rattle.indexmap.proofs.CallerLemmas.{filter-RetainsPairs}
use Rattle.tc_index.proofs.Again.{put_again}
use Rattle.tc_index.proofs.shard.refresh.Goals as goal

pub returns : goal.returns
returns c = λ q.
    let tag = c.in-Some.tag.now in
    let slot = c.in-Some.slot.now in
    put_again tag slot q c.args.map.now.entries c.retain.new.self.entries _ c.in-Some.ensures.value
    (filter-RetainsPairs _ (λ e. not (nat_eq e.0 tag)) _ (λ k v b w g call. search rules) _ _ c.retain.ensures.filtered)
    ((subst (λ r. OnOk r (Updates nat_eq c.retain.new.self c.insert.new.self tag (Some slot))) c.unwrap.ensures
    c.insert.ensures.updates).0 q)
