use Rattle.std.proofs.Common.{◌≡◌, [], ◌∷◌, ◌++◌, reverse, sym, ◌∙◌, ap, arith}
use Rattle.std.proofs.lemmas.List.{nil_from_length}
use Rattle.tc_workers.specs.Crews.{numbers_in, numbers_of, promised_by}
use Rattle.tc_links.specs.Turns.{WorkerState}
use Rattle.tc_workers.proofs.Numbering.{map-last, map-moved}
use Rattle.tc_workers.proofs.crew.Post.start_all.Goals as goal

pub loop-worker-preserved : goal.loop-worker-preserved
loop-worker-preserved g c =
    let was = c.loop-worker.invariant in
    let rest = c.pop.new.self.items in
    let behind = reverse (promised_by c.loop-worker.handles.items) in
    record {
      len = omega (arith, was.len, c.in-Some.ensures.len, c.push_reserved.ensures.len);
      empty = was.empty;
      room = (omega (arith, was.room.0, c.push_reserved.ensures.capacity), was.room.1);
      numbers =
          ap (λ hs. numbers_in rest ++ reverse (promised_by hs)) c.push_reserved.ensures.items
          ∙ sym (map-moved (λ m. m.0.desk.seat.number) (λ h. h.promise.worker.value.desk.seat.number) rest
          (c.in-Some.worker, c.in-Some.inlet) c.loop-worker.handles.items c.in-Ok.handle
          (ap (λ (w : WorkerState). w.desk.seat.number) (sym c.in-Ok.ensures.ok)))
          ∙ ap (λ ms. numbers_in ms ++ behind) (sym c.in-Some.ensures.items)
          ∙ was.numbers;
    }

pub returns-in-Err-clause-all : goal.returns-in-Err-clause-all
returns-in-Err-clause-all g c =
    let was = c.loop-worker.invariant in
    let rest = c.pop.new.self.items in
    let behind = reverse (promised_by c.loop-worker.handles.items) in
    let none : c.loop-worker.seats.items ≡ [] = nil_from_length c.loop-worker.seats.items (sym c.loop-worker.seats.ok.0
    ∙ was.empty) in
    ap (λ ss. numbers_in rest ++ (numbers_of ss ++ behind)) (c.push_reserved-in-Err.ensures.items
    ∙ ap (λ ss. ss ++ c.in-Err.seat ∷ []) none)
    ∙ sym (map-last (λ m. m.0.desk.seat.number) rest (c.in-Some.worker, c.in-Some.inlet) c.in-Err.seat.number behind
    (sym c.in-Err.ensures.err))
    ∙ ap (λ ms. numbers_in ms ++ behind) (sym c.in-Some.ensures.items)
    ∙ was.numbers
