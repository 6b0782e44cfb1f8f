use Rattle.std.proofs.Common.{◌≡◌, ℕ, ◌-◌, List, true}
use Rattle.spectro_io.specs.Limits.{read_limit}
use Rattle.spectro_io.specs.LineReaders.{has_line_feed, Holds, Takes, KeepsLine}
use Rattle.spectro_io.proofs.line_reader.LineReader.next.Given as goal

abbrev pub invariant-taking : goal.invariant-taking
invariant-taking g l = record {
  takes : Takes l.initial.self l.self (g.S.Source.left l.initial.source) (g.S.Source.left l.source) (Holds l.self);
  kept : KeepsLine l.initial.self l.self;
  ready : (held : List ℕ) → Holds l.initial.self held → has_line_feed held ≡ true → (l.source ≡ l.initial.source) × (has_line_feed l.self.ahead ≡ true);
  texts : g.S.Source.texts l.source ≡ g.S.Source.texts l.initial.source;
  faults : g.S.Source.faults l.source ≡ g.S.Source.faults l.initial.source;
}

abbrev pub decreases-taking : goal.decreases-taking
decreases-taking g l = read_limit - l.self.taken
