use Rattle.std.specs.Prelude.{filter, find}
use Rattle.std.proofs.Common.{sym, ◌∙◌, ap}
use Rattle.tc_plain.specs.Entries.{lives, has_key}
use Rattle.tc_plain.specs.EvictionState.{filtered}
use Rattle.tc_plain.specs.AreaLists.{areas_of, live_of}
use Rattle.tc_plain.proofs.TakenOut.{held_in_window, held_in_probation, held_in_protected, held_nowhere}
use Rattle.tc_plain.proofs.Used.{held_later}
use Rattle.tc_plain.proofs.reference.eviction_state.EvictionState.peek.Goals as goal

pub returns-in-Some : goal.returns-in-Some
returns-in-Some c =
    let a = filtered (lives c.args.moment) (areas_of c.args.self.now.areas) in
    let at = ap (λ xs. find (has_key c.args.key.now) (filter (lives c.args.moment) xs)) (sym c.deref.ensures.value)
    ∙ c.in-Some.ensures in
    held_later c.args.key.now c.args.moment (live_of c.args.self.now) _ (sym c.if-is_flush_due.ensures)
    (held_in_window c.args.key.now a c.in-Some.entry.now at).0

pub returns-in-Some-find_alive : goal.returns-in-Some-find_alive
returns-in-Some-find_alive c =
    let a = filtered (lives c.args.moment) (areas_of c.args.self.now.areas) in
    let off = ap (λ xs. find (has_key c.args.key.now) (filter (lives c.args.moment) xs)) (sym c.deref.ensures.value)
    ∙ c.in_default.ensures in
    let at = ap (λ xs. find (has_key c.args.key.now) (filter (lives c.args.moment) xs)) (sym c.deref-2.ensures.value)
    ∙ c.in-Some-find_alive.ensures in
    held_later c.args.key.now c.args.moment (live_of c.args.self.now) _ (sym c.if-is_flush_due.ensures)
    (held_in_probation c.args.key.now a c.in-Some-find_alive.entry.now off at).0

pub returns-in-Some-find_alive-2 : goal.returns-in-Some-find_alive-2
returns-in-Some-find_alive-2 c =
    let a = filtered (lives c.args.moment) (areas_of c.args.self.now.areas) in
    let off = ap (λ xs. find (has_key c.args.key.now) (filter (lives c.args.moment) xs)) (sym c.deref.ensures.value)
    ∙ c.in_default.ensures in
    let out = ap (λ xs. find (has_key c.args.key.now) (filter (lives c.args.moment) xs)) (sym c.deref-2.ensures.value)
    ∙ c.in_default-find_alive.ensures in
    let at = ap (λ xs. find (has_key c.args.key.now) (filter (lives c.args.moment) xs)) (sym c.deref-3.ensures.value)
    ∙ c.in-Some-find_alive-2.ensures in
    held_later c.args.key.now c.args.moment (live_of c.args.self.now) _ (sym c.if-is_flush_due.ensures)
    (held_in_protected c.args.key.now a c.in-Some-find_alive-2.entry.now off out at).0

pub returns : goal.returns
returns c =
    let a = filtered (lives c.args.moment) (areas_of c.args.self.now.areas) in
    let off = ap (λ xs. find (has_key c.args.key.now) (filter (lives c.args.moment) xs)) (sym c.deref.ensures.value)
    ∙ c.in_default.ensures in
    let out = ap (λ xs. find (has_key c.args.key.now) (filter (lives c.args.moment) xs)) (sym c.deref-2.ensures.value)
    ∙ c.in_default-find_alive.ensures in
    let away = ap (λ xs. find (has_key c.args.key.now) (filter (lives c.args.moment) xs)) (sym c.deref-3.ensures.value)
    ∙ c.in_default-find_alive-2.ensures in
    held_later c.args.key.now c.args.moment (live_of c.args.self.now) _ (sym c.if-is_flush_due.ensures)
    (held_nowhere c.args.key.now a off out away)
