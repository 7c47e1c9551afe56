use Rattle.std.proofs.Common.{[], refl, ◌∙◌, take}
use Rattle.tc_links.proofs.Talking.{appends-same, appends-kept, appends-zero, appends-as}
use Rattle.tc_links.proofs.SingleMoves.{carries-still, carries-came, carries-ended}
use Rattle.tc_links.proofs.link.Link.read.Goals as goal

pub returns-in-Bytes-eq0 : goal.returns-in-Bytes-eq0
returns-in-Bytes-eq0 g c =
    let d = c.in-Bytes-eq0 in
    rw (← c.self.view_is)
    (record {
      moved = (
        [],
        carries-still refl refl refl refl (appends-zero _ _ d.field-0 c.read.new.into d.field-0-test d.ensures.gives)
            (appends-same c.read.ensures.takes_nothing),
        λ yes. refl,
      );
    })

pub returns-in-Bytes : goal.returns-in-Bytes
returns-in-Bytes g c =
    let d = c.take.ensures in
    rw (← c.self.view_is)
    (record {
      moved =
          carries-came (take c.in-Bytes.n c.read.new.into) c.take.result d.came d.refused d.out d.conn d.last
          (appends-as _ _ _ _ d.gave c.in-Bytes.ensures.gives) (d.took ∙ c.read.ensures.takes_nothing);
    })

pub returns-in-Later : goal.returns-in-Later
returns-in-Later g c =
    rw (← c.self.view_is)
    (record {
      moved = (
        [],
        carries-still refl refl refl refl (appends-kept _ _ c.in-Later.ensures.gives) (appends-same c.read.ensures.takes_nothing),
        λ yes. refl,
      );
    })

pub returns-in-Ended : goal.returns-in-Ended
returns-in-Ended g c =
    rw (← c.self.view_is)
    (record {
      moved = (
        [],
        carries-ended c.shut.ensures.endpoint c.shut.ensures.out refl refl c.in-Ended.ensures.gives c.read.ensures.takes_nothing,
        λ yes. refl,
      );
    })

pub returns-in-Failed : goal.returns-in-Failed
returns-in-Failed g c =
    rw (← c.self.view_is)
    (record {
      moved = (
        [],
        carries-still refl refl refl refl (appends-kept _ _ c.in-Failed.ensures.gives)
            (appends-same c.read.ensures.takes_nothing),
        λ yes. refl,
      );
    })
