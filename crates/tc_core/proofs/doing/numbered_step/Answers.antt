use Rattle.std.specs.Option.{option_copied_mut}
use Rattle.std.specs.Ordering.{nat_cmp}
use Rattle.std.specs.Map.{lookup}
use Rattle.std.specs.BTreeMap.{BTreeMap, is_at, insert_entry}
use Rattle.std.proofs.Common.{◌≡◌, ℕ, Some, None, sym, ◌∙◌, ap}
use Rattle.std.proofs.lemmas.Result.{on_ok_weaker, on_err_weaker}
use Rattle.tc_session.specs.SessionView.{SessionView}
use Rattle.tc_core.proofs.Table.{there-caches, there-connections, there-refused, opened-connections, absent-caches}
use Rattle.tc_core.proofs.Table.{absent-connections}
use Rattle.tc_core.specs.Steps.{happening_of}
use Rattle.tc_core.proofs.doing.numbered_step.Goals as goal

pub returns-in-Some-clause-caches : goal.returns-in-Some-clause-caches
returns-in-Some-clause-caches g c =
    let at : lookup (is_at (nat_cmp c.args.number)) c.args.sessions.now.entries ≡ Some c.in-Some.session.now =
    sym (sym (ap option_copied_mut c.in-Some.is) ∙ c.get_mut.ensures.value) in
    on_ok_weaker c.opened_step.result
    (there-caches c.args.users.now c.args.clock c.args.number _ c.args.sessions.now.entries c.in-Some.session.now
    (happening_of c.args.happening) c.get_mut.ensures.ordered at _) c.opened_step.ensures.caches

pub returns-in-Some-clause-connections : goal.returns-in-Some-clause-connections
returns-in-Some-clause-connections g c =
    let at : lookup (is_at (nat_cmp c.args.number)) c.args.sessions.now.entries ≡ Some c.in-Some.session.now =
    sym (sym (ap option_copied_mut c.in-Some.is) ∙ c.get_mut.ensures.value) in
    on_ok_weaker c.opened_step.result
    (there-connections c.args.users.now c.args.clock c.args.number _ c.args.sessions.now.entries c.in-Some.session.now
    (happening_of c.args.happening) c.get_mut.ensures.ordered at c.opened_step.new.session _
    (c.get_mut.follows.holds c.opened_step.new.session).0) c.opened_step.ensures.connection

pub returns-in-Some-clause-refused : goal.returns-in-Some-clause-refused
returns-in-Some-clause-refused g c =
    let at : lookup (is_at (nat_cmp c.args.number)) c.args.sessions.now.entries ≡ Some c.in-Some.session.now =
    sym (sym (ap option_copied_mut c.in-Some.is) ∙ c.get_mut.ensures.value) in
    on_err_weaker c.opened_step.result
    (there-refused c.args.users.now c.args.clock c.args.number _ c.args.sessions.now.entries c.in-Some.session.now
    (happening_of c.args.happening) c.get_mut.ensures.ordered at c.opened_step.new.session _ _
    (c.get_mut.follows.holds c.opened_step.new.session).0) c.opened_step.ensures.refused

pub returns-in_ok-insert-in-None-clause-connections : goal.returns-in_ok-insert-in-None-clause-connections
returns-in_ok-insert-in-None-clause-connections g c =
    let none : lookup (is_at (nat_cmp c.args.number)) c.args.sessions.now.entries ≡ None =
    sym (sym (ap option_copied_mut c.in-None.is) ∙ c.get_mut.ensures.value) in
    let same : c.get_mut.follows.lender-at-none.entries ≡ c.args.sessions.now.entries =
    ap (λ (m : BTreeMap ℕ SessionView). m.entries) c.get_mut.follows.holds-at-none in
    rw c.in-Open.is
    (opened-connections c.args.users.now c.args.clock c.args.number _ c.args.sessions.now.entries none c.new.result
    c.insert.new.self.entries
    (c.in_ok-insert-in-None.ensures.entries ∙ ap (λ es. insert_entry nat_cmp es c.args.number c.new.result) same)
    c.new.ensures.endpoint c.new.ensures.out)

pub returns-in_default : goal.returns-in_default
returns-in_default g c =
    let none : lookup (is_at (nat_cmp c.args.number)) c.args.sessions.now.entries ≡ None =
    sym (sym (ap option_copied_mut c.in-None.is) ∙ c.get_mut.ensures.value) in
    let same : c.get_mut.follows.lender-at-none.entries ≡ c.args.sessions.now.entries =
    ap (λ (m : BTreeMap ℕ SessionView). m.entries) c.get_mut.follows.holds-at-none in
    record {
      caches =
          absent-caches c.args.users.now c.args.clock c.args.number _ c.args.sessions.now.entries none c.args.happening
          c.in_default.not-Open;
      connections =
          absent-connections c.args.users.now c.args.clock c.args.number _ c.args.sessions.now.entries none c.args.happening
          c.get_mut.follows.lender-at-none.entries same c.in_default.not-Open;
      refused = tt;
    }
