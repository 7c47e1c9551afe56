use Rattle.std.proofs.Common.{◌≡◌, ℕ, true, false, sym, ◌∙◌, ap, subst, arith}
use Rattle.std.specs.Prelude.{nat_eq, count_by}
use Rattle.std.specs.Map.{lookup}
use Rattle.tc_index.specs.Tags.{TaggedShard, IsRight, is_first, is_place, stands_in}
use Rattle.tc_index.proofs.Sought.{behind, first_is}
use Rattle.tc_index.proofs.shard.Shard.find.Goals as goal
use Rattle.tc_index.proofs.shard.Shard.find.Goals.{in-Some+else-is_right, in_default}

pub returns : goal.returns
returns g c = λ right tells.
    let i = c.self.inside in
    let missed : (slot : ℕ) → is_first (lookup (nat_eq c.args.tag.0) i.first.entries) slot ≡ true → right slot ≡ false =
    elim c.match-get.branch [
      | in-Some+else-is_right w ↦ λ slot own.
          first_is right w.in-Some.slot.now
          (sym (tells w.in-Some.slot.now w.is_right.result (omega arith) w.is_right.ensures) ∙ w.if-is_right.false) slot
          (ap (λ o. is_first o slot) w.in-Some.ensures.value ∙ own)
      | in_default w ↦ λ slot own. absurd (cc (ap (λ o. is_first o slot) w.in_default.ensures.value ∙ own))
    ] in
    subst (λ (p : TaggedShard). IsRight c.find_more.result right (stands_in p c.args.tag.0)) c.self.view_is
    (behind c.find_more.result right (lookup (nat_eq c.args.tag.0) i.first.entries)
    (λ slot. count_by (is_place c.args.tag.0 slot) i.more.items) missed
    (subst (λ xs. IsRight c.find_more.result right (λ slot. count_by (is_place c.args.tag.0 slot) xs)) c.deref.ensures.value
    (c.find_more.ensures right tells)))
