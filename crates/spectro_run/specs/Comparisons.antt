-- The stages of a comparison of two systems: its pairs, and the report on it.
use Rattle.std.specs.Prelude.{ℕ, ◌≡◌, ◌<◌, ◌≤◌, List}
use Rattle.spectro_spec.specs.System.{System}
use Rattle.spectro_spec.specs.Weighing.{Weighing}
use Rattle.spectro_spec.specs.Notion.{Notion}
use Rattle.spectro_game.specs.Pairs as game
use Rattle.spectro_game.specs.Pairs.{Pair}
use Rattle.spectro_report.specs.Compared.{AreCompared}
use Rattle.spectro_report.specs.Reports.{Report, IsReport}
use Rattle.spectro_run.specs.Stages.{Stage}
use Rattle.spectro_run.specs.declared.status.Status.{Status}
use Rattle.spectro_run.specs.declared.status.Status.TheVariants.{TooLarge}

-- the comparison has more positions than the limit, and the status says so
abbrev pub RefusesSize : System → System → ℕ → Status → Type 0
RefusesSize left right limit status = (status ≡ TooLarge limit) × ((pairs : List Pair) × AreCompared left right pairs × (limit < game.size pairs))

-- the pairs of the comparison, which are refused where they have more positions than the limit
abbrev pub pairs_of : System → System → ℕ → Stage (List Pair)
pairs_of left right limit = record {
  Refuses = RefusesSize left right limit;
  Gives = λ pairs. AreCompared left right pairs × (game.size pairs ≤ limit);
}

-- the report on the systems, by the weights and for the notions, which is refused where the comparison has more positions than the limit
abbrev pub report_of : System → System → Weighing → List Notion → ℕ → Stage Report
report_of left right weighing table limit = record {
  Refuses = RefusesSize left right limit;
  Gives = λ report. IsReport weighing left right table report × (report.size ≤ limit);
}
