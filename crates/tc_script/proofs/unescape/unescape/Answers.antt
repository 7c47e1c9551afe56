use Rattle.std.proofs.Common.{◌≡◌, ◌<◌, [], length, Some, sym, ◌∙◌, ap, arith}
use Rattle.std.proofs.lemmas.Grind.{common_steps}
use Rattle.std.proofs.lemmas.Bool.Decides.{nat_tests}
use Rattle.tc_script.proofs.Unescaping.{unescaped-step, unescaped-stuck, unescaped-end}
use Rattle.tc_script.proofs.unescape.unescape.Goals as goal

pub returns-in_default : goal.returns-in_default
returns-in_default c =
    let some : 0 < length c.loop-rest.rest.now = grind (arith, common_steps, nat_tests) in
    sym (unescaped-stuck c.args.text.now c.loop-rest.rest.now c.loop-rest.bytes.items some c.loop-rest.invariant
    c.in_default.ensures.front)

pub loop-rest-preserved : goal.loop-rest-preserved
loop-rest-preserved c =
    let some : 0 < length c.loop-rest.rest.now = grind (arith, common_steps, nat_tests) in
    rw c.in_ok-push.ensures.items
    (unescaped-step c.args.text.now c.loop-rest.rest.now c.loop-rest.bytes.items c.in-Some.byte c.in-Some.behind.now some
    c.loop-rest.invariant c.in-Some.ensures.front)

pub returns : goal.returns
returns c =
    let none : c.loop-rest.rest.now ≡ [] = grind (arith, common_steps, nat_tests) in
    ap Some c.new.ensures ∙ unescaped-end c.args.text.now c.loop-rest.rest.now c.loop-rest.bytes.items none c.loop-rest.invariant
