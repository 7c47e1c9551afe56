use Rattle.std.proofs.Common.{refl, ap, ◌∙◌}
use Rattle.tc_slru.specs.declared.area.Area.TheVariants.{Window, Probation}
use Rattle.tc_plain.specs.AreaLists.{areas_of}
use Rattle.tc_slots.specs.Rebuilt.{put_back}
use Rattle.tc_slots.proofs.Rebuilt.{fit_there, fit_window, fit_protected}
use Rattle.tc_slots.proofs.rebuilding.put_all_back.Goals as goal

pub put_back-requires : goal.put_back-requires
put_back-requires c =
    fit_there _ _ _ _ _ refl c.requires.none (fit_window _ (areas_of c.before.args.areas) c.requires.sound c.requires.sum)

pub put_back-requires-3 : goal.put_back-requires-3
put_back-requires-3 c =
    let a = areas_of c.before.before.before.before.before.before.before.before.before.args.areas in
    fit_there _ _ _ _ _ (c.put_back-2.ensures.limits ∙ c.put_back.ensures.limits)
    (c.in_ok-put_back-2.ensures.areas
    ∙ ap (put_back Probation a.probation) (c.in_ok-put_back.ensures.areas ∙ ap (put_back Window a.window) c.requires.none))
    (fit_protected _ a c.requires.sound c.requires.sum)
