use Rattle.std.proofs.Common.{◌≡◌, ◌<◌, ◌≤◌, ◌^◌, drop}
use Rattle.tc_counter.specs.CounterText.{number_in}
use Rattle.tc_counter.proofs.Scanning.{number_after}
use Rattle.tc_counter.proofs.scan.Given as goal

abbrev pub invariant-loop-i : goal.invariant-loop-i
invariant-loop-i l = record {
  number : number_after l.value l.i (drop l.i l.text) ≡ number_in l.text;
  few : l.i ≤ 20;
  fits : l.value < 2 ^ 64;
}
