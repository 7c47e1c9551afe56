use Rattle.std.proofs.Common.{[], ap, drop, refl, ◌∙◌}
use Rattle.tc_links.proofs.Talking.{appends-same, appends-kept}
use Rattle.tc_links.proofs.SingleMoves.{carries-still, carries-wrote}
use Rattle.tc_links.proofs.link.Link.put.Goals as goal

pub returns-in-Wrote : goal.returns-in-Wrote
returns-in-Wrote g c =
    rw (← c.self.view_is)
    (record {
      sends =
          carries-wrote c.in-Wrote.n c.parts.result (c.parts.ensures.whole c.settle.ensures.written ∙ c.settle.ensures.out)
          (c.sent.ensures.out ∙ ap (drop c.in-Wrote.n) c.settle.ensures.out)
          (c.sent.ensures.endpoint ∙ c.settle.ensures.endpoint) refl refl
          c.write.ensures.gives_nothing c.in-Wrote.ensures.takes;
    })

pub returns-in-Later : goal.returns-in-Later
returns-in-Later g c =
    rw (← c.self.view_is)
    (record {
      sends =
          let took = appends-kept _ _ c.in-Later.ensures.takes in
          ([], carries-still c.settle.ensures.endpoint c.settle.ensures.out refl refl (appends-same c.write.ensures.gives_nothing) took);
    })

pub returns-in-Failed : goal.returns-in-Failed
returns-in-Failed g c =
    rw (← c.self.view_is)
    (record {
      sends =
          let took = appends-kept _ _ c.in-Failed.ensures.takes in
          ([], carries-still c.settle.ensures.endpoint c.settle.ensures.out refl refl (appends-same c.write.ensures.gives_nothing) took);
    })
