use Rattle.std.specs.Prelude.{◌==◌}
use Rattle.std.specs.List.{list_any}
use Rattle.std.proofs.Common.{◌≡◌, true, sym, ◌∙◌, ap}
use Rattle.tc_model.specs.Connection.{user_at}
use Rattle.tc_script.proofs.TakenLines.{user_at-known, largest-sized}
use Rattle.tc_script.proofs.script.Script.take_largest.Goals as goal

pub set_largest-requires : goal.set_largest-requires
set_largest-requires c = record {
  known = user_at-known c.self.inside.users c.new-number.result c.in-Some.field-0.now c.in-Some.ensures.row;
}

pub returns-then-is_sized : goal.returns-then-is_sized
returns-then-is_sized c =
    let at = c.in-Some.ensures.row ∙ ap (user_at c.self.inside.users) c.new-number.ensures in
    let sized : list_any (λ u. u == c.args.user) c.self.inside.sized.items ≡ true =
    ap (list_any (λ u. u == c.args.user)) (sym c.deref.ensures.value) ∙ (sym c.is_sized.ensures ∙ c.if-is_sized.true) in
    rw (← c.self.view_is)
    (largest-sized (record {
      users = c.self.inside.users;
      sized = c.self.inside.sized.items;
      actions = c.self.inside.actions.items;
    }) c.args.user c.args.most c.in-Some.field-0.now at sized)
