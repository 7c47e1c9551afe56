use Rattle.std.proofs.Common.{◌≡◌, length, ap, sym, ◌∙◌, arith}
use Rattle.std.proofs.lemmas.Grind.{common_steps}
use Rattle.std.proofs.lemmas.List.{length-map}
use Rattle.tc_fresh.specs.Beginning.{fresh_cache}
use Rattle.tc_locked.proofs.opening.count_users.Goals as goal

pub returns-clause-caches : goal.returns-clause-caches
returns-clause-caches g c =
    let same : length c.args.users.now ≡ length c.args.caches.now.items =
    sym (length-map c.args.users.now fresh_cache) ∙ sym (ap length c.requires.caches)
    ∙ length-map c.args.caches.now.items g.C.Cache.settled in
    let count = c.len.ensures.count in
    grind (arith, common_steps)

pub returns-clause-few : goal.returns-clause-few
returns-clause-few g c =
    let same : length c.args.users.now ≡ length c.args.caches.now.items =
    sym (length-map c.args.users.now fresh_cache) ∙ sym (ap length c.requires.caches)
    ∙ length-map c.args.caches.now.items g.C.Cache.settled in
    let most = c.len.ensures.most in
    omega arith
