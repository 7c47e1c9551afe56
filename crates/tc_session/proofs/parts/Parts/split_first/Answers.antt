use Rattle.std.proofs.Common.{◌-◌, ◌+◌, drop}
use Rattle.std.proofs.lemmas.List.{take_rest}
use Rattle.tc_session.proofs.Waiting.{own_split, data_split, data_behind}
use Rattle.tc_session.proofs.parts.Parts.split_first.Goals as goal

pub returns-then-self-piece-clause-split : goal.returns-then-self-piece-clause-split
returns-then-self-piece-clause-split c =
    let o = c.self.inside in
    let ps = drop o.at o.chain.now in
    let rest = drop (o.at + 1) o.chain.now in
    rw (← c.self.view_is)
    (own_split o.passed o.own.now ps rest c.in-Some.piece.now c.in-Some.ensures.found c.if-self-piece.true c.self.invariant.0)

pub returns-clause-split : goal.returns-clause-split
returns-clause-split c =
    let o = c.self.inside in
    let ps = drop o.at o.chain.now in
    let rest = drop (o.at + 1) o.chain.now in
    let p = c.in-Some.piece.now in
    rw (← c.self.view_is, c.as_slice.ensures, take_rest p.blob (o.passed - p.before), take_rest o.own.now p.before)
    (data_split o.passed o.own.now ps rest p c.in-Some.ensures.found c.if-self-piece.false c.self.invariant.1
    c.self.invariant.0)

pub invariant_of-behind-2 : goal.invariant_of-behind-2
invariant_of-behind-2 c =
    let o = c.self.inside in
    let ps = drop o.at o.chain.now in
    let rest = drop (o.at + 1) o.chain.now in
    data_behind o.passed o.len o.own.now c.as_slice.result.now ps rest c.in-Some.piece.now c.as_slice.ensures
    c.in-Some.ensures.found c.if-self-piece.false c.self.invariant.1 c.self.invariant.0 c.self.invariant.2
    c.in-Some.ensures.behind
