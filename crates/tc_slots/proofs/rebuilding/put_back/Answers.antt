use Rattle.std.proofs.Common.{◌≡◌, ◌-◌, ◌≤◌, ◌++◌, [], take, refl, sym, ap, subst, ◌∙◌}
use Rattle.tc_model.specs.Areas.{Limits}
use Rattle.tc_plain.specs.Entries.{weight}
use Rattle.tc_slots.specs.Rebuilt.{Fit, put_back}
use Rattle.tc_slots.proofs.Rebuilt.{fit_same, last_free, last_light, last_sum, rest_fit, put_back-nil, put_back-last}
use Rattle.tc_slots.proofs.rebuilding.put_back.Goals as goal

pub loop-entry-init : goal.loop-entry-init
loop-entry-init c = (refl, c.requires, refl)

pub returns-in_err-make_room-clause-limits : goal.returns-in_err-make_room-clause-limits
returns-in_err-make_room-clause-limits c = c.make_room.ensures.limits ∙ c.loop-entry.invariant.0

pub fill-requires-clause-free : goal.fill-requires-clause-free
fill-requires-clause-free c =
    last_free _ c.pop.new.self.items c.in-Some.entry c.make_room.new.self.areas
    (fit_same _ _ _ _ _ c.in-Some.ensures.items c.make_room.ensures.areas c.loop-entry.invariant.1)

pub fill-requires-clause-light : goal.fill-requires-clause-light
fill-requires-clause-light c =
    subst (λ (l : Limits). weight c.in-Some.entry ≤ l.main) (sym (c.make_room.ensures.limits ∙ c.loop-entry.invariant.0))
    (last_light _ c.pop.new.self.items c.in-Some.entry c.make_room.new.self.areas
    (fit_same _ _ _ _ _ c.in-Some.ensures.items c.make_room.ensures.areas c.loop-entry.invariant.1))

pub fill-requires-clause-fits : goal.fill-requires-clause-fits
fill-requires-clause-fits c =
    last_sum _ c.pop.new.self.items c.in-Some.entry c.make_room.new.self.areas
    (fit_same _ _ _ _ _ c.in-Some.ensures.items c.make_room.ensures.areas c.loop-entry.invariant.1)

pub loop-entry-preserved : goal.loop-entry-preserved
loop-entry-preserved c =
    let es = c.pop.new.self.items in
    let e = c.in-Some.entry in
    let room = c.make_room.new.self.areas in
    let fit = fit_same _ _ _ _ _ c.in-Some.ensures.items c.make_room.ensures.areas c.loop-entry.invariant.1 in (
      c.fill.ensures.limits ∙ c.make_room.ensures.limits ∙ c.loop-entry.invariant.0,
      subst (Fit _ es) (sym c.fill.ensures.areas) (rest_fit _ es e room fit c.args.area),
      ap (put_back c.args.area es) c.fill.ensures.areas
          ∙ put_back-last c.args.area es e room
          ∙ ap (λ xs. put_back c.args.area xs room) (sym c.in-Some.ensures.items)
          ∙ ap (put_back c.args.area c.loop-entry.entries.items) c.make_room.ensures.areas
          ∙ c.loop-entry.invariant.2,
    )

pub returns-clause-areas : goal.returns-clause-areas
returns-clause-areas c =
    let xs = c.loop-entry.entries.items in
    let none : xs ≡ [] =
    c.in_default.ensures.items
    ∙ ap (λ ys. ys ++ []) (c.in_default.ensures.rest ∙ ap (λ n. take (n - 1) xs) c.in_default.ensures.cases.0) in
    sym (put_back-nil c.args.area c.loop-entry.slots.areas)
    ∙ ap (λ ys. put_back c.args.area ys c.loop-entry.slots.areas) (sym none)
    ∙ c.loop-entry.invariant.2

pub returns-clause-limits : goal.returns-clause-limits
returns-clause-limits c = c.loop-entry.invariant.0
