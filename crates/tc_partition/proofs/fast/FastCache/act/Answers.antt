use Rattle.std.specs.Prelude.{IfOk, OnOk, length}
use Rattle.std.proofs.Common.{◌≡◌, sym, ◌∙◌, ap, subst}
use Rattle.tc_grammar.specs.declared.command.Command.TheVariants.{Get}
use Rattle.tc_plain.specs.UserCache.{advance}
use Rattle.tc_plain.specs.Doing.{done, with_note}
use Rattle.tc_plain.specs.Keeping.{IsActed}
use Rattle.tc_partition.specs.FastState.{settled_in, waits_by}
use Rattle.tc_partition.proofs.fast.FastCache.act.Goals as goal

pub returns-in-Get-clause-acted : goal.returns-in-Get-clause-acted
returns-in-Get-clause-acted c =
    let asked : c.args.command.now ≡ Get c.in-Get.form c.as_slice.result.now =
    c.in-Get.is ∙ ap (Get c.in-Get.form) (sym c.as_slice.ensures) in
    subst
    (λ d. IfOk c.get.result (λ r. IsActed c.args.keep (with_note c.args.command.now d) r (settled_in c.get.new.self)))
    (sym (ap (done (advance (settled_in c.args.self.now) c.args.now)) asked)) c.get.ensures.acted

pub returns-in-Get-clause-waits : goal.returns-in-Get-clause-waits
returns-in-Get-clause-waits c =
    let asked : c.args.command.now ≡ Get c.in-Get.form c.as_slice.result.now =
    c.in-Get.is ∙ ap (Get c.in-Get.form) (sym c.as_slice.ensures) in
    subst
    (λ k. OnOk c.get.result (length c.get.new.self.waiting ≡ waits_by k (length c.args.self.now.waiting)))
    (sym asked) c.get.ensures.waits
