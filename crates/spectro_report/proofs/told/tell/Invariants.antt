use Rattle.std.proofs.Common.{◌≡◌, ◌+◌, drop, length, map, take}
use Rattle.spectro_report.specs.Firsts.{AreTold, firsts_of, prices_found}
use Rattle.spectro_report.specs.Verdicts.{verdict_of}
use Rattle.spectro_report.proofs.told.tell.Given as goal

abbrev pub invariant-loop-first : goal.invariant-loop-first
invariant-loop-first l = record {
  told : AreTold l.sheet (firsts_of (take l.first-index l.firsts)) (take l.next l.numbers) (map verdict_of l.verdicts.items);
  left : l.next + length (prices_found (firsts_of (drop l.first-index l.firsts))) ≡ length l.numbers;
}
