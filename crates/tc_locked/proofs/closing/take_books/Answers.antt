use Rattle.std.proofs.Common.{◌≡◌, ◌≤◌, ◌+◌, refl, ap, ◌∙◌, arith, vec_len, [], ◌∷◌, ◌++◌}
use Rattle.std.specs.Prelude.{vec_capacity}
use Rattle.std.proofs.lemmas.Grind.{common_steps}
use Rattle.tc_locked.proofs.ClosedHalls.{took_none, took_more}
use Rattle.tc_locked.proofs.closing.take_books.Goals as goal

pub loop-lock-init : goal.loop-lock-init
loop-lock-init g c = (
  c.requires.all,
  refl,
  took_none g.N.Naming.terms c.args.all.now.me.0 c.args.out.now.items c.requires.room.1,
  (let z = c.requires.room.0 in omega arith),
  c.requires.room.2,
)

pub loop-lock-preserved : goal.loop-lock-preserved
loop-lock-preserved g c =
    let i = c.loop-lock.invariant in
    let t = c.take_book.ensures in
    let count : vec_len c.push_reserved.new.self + vec_len c.pop.new.self ≡ vec_len c.args.locks = grind (arith, common_steps) in
    let room : vec_len c.args.locks ≤ vec_capacity c.push_reserved.new.self = grind (arith, common_steps) in (
      t.all.0,
      ap (λ m. m.1) t.all.1 ∙ i.1,
      took_more g.N.Naming.terms c.args.all.now.me.0 c.loop-lock.all.me.0 c.take_book.new.all.me.0 c.loop-lock.out.items
          c.push_reserved.new.self.items c.into_inner.result i.2 t.kept
          (c.push_reserved.ensures.items ∙ ap (λ r. c.loop-lock.out.items ++ r ∷ []) t.shut)
          (ap (λ m. m.0) t.all.1),
      count,
      room,
    )
