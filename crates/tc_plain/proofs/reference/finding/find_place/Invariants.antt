use Rattle.std.specs.Prelude.{◌&&◌}
use Rattle.std.proofs.Common.{◌≡◌, take, None}
use Rattle.tc_model.specs.Place.{first_place}
use Rattle.tc_plain.specs.Entries.{lives, has_key}
use Rattle.tc_plain.proofs.reference.finding.find_place.Given as goal

abbrev pub invariant-loop-i : goal.invariant-loop-i
invariant-loop-i l = first_place (λ e. lives l.moment e && has_key l.key e) (take l.i l.items) ≡ None
