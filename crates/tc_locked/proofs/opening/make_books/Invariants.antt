use Rattle.std.proofs.Common.{◌≡◌, ◌+◌, ◌≤◌, [], length, vec_len}
use Rattle.std.specs.Prelude.{vec_capacity}
use Rattle.tc_locked.specs.Views.{first_view}
use Rattle.tc_locked.proofs.opening.make_books.Given as goal

abbrev pub invariant-loop-cache : goal.invariant-loop-cache
invariant-loop-cache g l =
    (l.first.table_id ≡ g.N.Naming.table) × (l.first.me ≡ (first_view l.number g.N.Naming.terms.seats, []))
    × (l.number ≡ length l.yielded + 1) × (vec_len l.out ≡ length l.yielded) × (vec_len l.fn.caches ≤ vec_capacity l.out)
    × (goal.iterator-loop-cache g).can_next l.cache-iterator × (goal.iterator-loop-cache g).is_finite l.cache-iterator
