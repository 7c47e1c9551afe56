use Rattle.tc_workers.proofs.Staying.{turn-open, opening-open, taking-open, passing-open, dropping-open}
use Rattle.tc_workers.proofs.laws.staying_open.Goals as goal

pub returns : goal.returns
returns c = record {
  turn = turn-open;
  opening = opening-open;
  taking = taking-open;
  passing = passing-open;
  dropping = dropping-open;
}
