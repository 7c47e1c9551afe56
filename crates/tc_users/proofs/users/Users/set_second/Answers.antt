use Rattle.std.proofs.Common.{◌≡◌, ◌-◌, ◌≤◌, ap, Some, None, List, length, subst, sym, ◌∙◌, arith}
use Rattle.tc_users.proofs.ChangedRows.{second-fault, second-good, second-set}
use Rattle.tc_users.specs.declared.users.UserSpec.{UserSpec}
use Rattle.tc_users.specs.Faults.{second_fault}
use Rattle.tc_users.proofs.users.Users.set_second.Goals as goal

pub invariant_of-self-2 : goal.invariant_of-self-2
invariant_of-self-2 c =
    second-good c.self.inside.rows.items c.args.user (c.number.result - 1) c.index_mut-row.result.now
    (ap (λ n. n - 1) c.number.ensures) c.requires.known.0
    (subst (λ (rows : List UserSpec). c.args.user ≤ length rows) (sym c.self.view_is) c.requires.known.1)
    c.index_mut-row.ensures.value c.self.invariant c.args.second
    (sym (rw (c.as_bytes.ensures, c.as_bytes-2.ensures, c.number-2.ensures) at c.in_ok-check_other_token.ensures))

pub returns-clause-set : goal.returns-clause-set
returns-clause-set c =
    rw (← c.self.view_is)
    (second-set c.self.inside.rows.items c.args.user (c.number.result - 1) c.index_mut-row.result.now
    (ap (λ n. n - 1) c.number.ensures) c.requires.known.0
    (subst (λ (rows : List UserSpec). c.args.user ≤ length rows) (sym c.self.view_is) c.requires.known.1)
    c.index_mut-row.ensures.value c.self.invariant c.args.second)

pub returns-clause-fault : goal.returns-clause-fault
returns-clause-fault c =
    rw (← c.self.view_is)
    ((rw (c.as_bytes.ensures, c.as_bytes-2.ensures, c.number-2.ensures) at c.in_ok-check_other_token.ensures)
    ∙ sym (second-fault c.self.inside.rows.items c.args.user (c.number.result - 1) c.index_mut-row.result.now
    (ap (λ n. n - 1) c.number.ensures) c.requires.known.0
    (subst (λ (rows : List UserSpec). c.args.user ≤ length rows) (sym c.self.view_is) c.requires.known.1)
    c.index_mut-row.ensures.value c.self.invariant c.args.second))
