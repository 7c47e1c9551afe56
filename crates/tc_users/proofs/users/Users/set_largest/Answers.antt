use Rattle.std.proofs.Common.{◌≡◌, ◌-◌, ◌≤◌, ap, Some, None, pos, List, length, subst, sym, arith}
use Rattle.tc_users.proofs.ChangedRows.{largest-good, largest-set}
use Rattle.tc_users.specs.declared.users.UserSpec.{UserSpec}
use Rattle.tc_users.specs.Faults.{largest_fault}
use Rattle.tc_users.proofs.users.Users.set_largest.Goals as goal

pub invariant_of-self-2 : goal.invariant_of-self-2
invariant_of-self-2 c =
    largest-good c.self.inside.rows.items c.args.user (c.number.result - 1) c.index_mut-row.result.now
    (ap (λ n. n - 1) c.number.ensures) c.requires.known.0
    (subst (λ (rows : List UserSpec). c.args.user ≤ length rows) (sym c.self.view_is) c.requires.known.1)
    c.index_mut-row.ensures.value c.self.invariant c.args.largest
    (subst (λ n. largest_fault n (pos c.args.largest) ≡ None) c.number-2.ensures (sym c.in_ok-check_largest_item.ensures))

pub returns-clause-set : goal.returns-clause-set
returns-clause-set c =
    rw (← c.self.view_is)
    (largest-set c.self.inside.rows.items c.args.user (c.number.result - 1) c.index_mut-row.result.now
    (ap (λ n. n - 1) c.number.ensures) c.requires.known.0
    (subst (λ (rows : List UserSpec). c.args.user ≤ length rows) (sym c.self.view_is) c.requires.known.1)
    c.index_mut-row.ensures.value c.self.invariant c.args.largest)
