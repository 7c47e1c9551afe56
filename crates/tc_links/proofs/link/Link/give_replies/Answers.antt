use Rattle.std.proofs.Common.{refl}
use Rattle.tc_links.proofs.Talking.{carries-on}
use Rattle.tc_links.proofs.link.Link.give_replies.Goals as goal

pub returns-in_default : goal.returns-in_default
returns-in_default g c =
    let went = carries-on c.send.ensures.sends c.look_again-2.ensures.moved.1 in
    record { moved = (went.0, c.look_again-2.ensures.moved.0, went.1, λ goes_on. absurd (goes_on refl)) }

pub returns-then-not-has_out : goal.returns-then-not-has_out
returns-then-not-has_out g c =
    let went = carries-on c.send.ensures.sends c.look_again-2.ensures.moved.1 in
    record { moved = (went.0, c.look_again-2.ensures.moved.0, went.1, λ goes_on. absurd (goes_on refl)) }

pub returns : goal.returns
returns g c =
    let went = carries-on c.send.ensures.sends c.in-Some.ensures.moved.1 in
    record { moved = (went.0, c.in-Some.ensures.moved.0, went.1, λ goes_on. c.in-Some.ensures.moved.2 refl) }
