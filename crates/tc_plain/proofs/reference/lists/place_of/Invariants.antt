use Rattle.std.proofs.Common.{◌≡◌, take, None}
use Rattle.tc_model.specs.Place.{first_place}
use Rattle.tc_plain.specs.Entries.{has_key}
use Rattle.tc_plain.proofs.reference.lists.place_of.Given as goal

abbrev pub invariant-loop-i : goal.invariant-loop-i
invariant-loop-i l = first_place (has_key l.key) (take l.i l.items) ≡ None
