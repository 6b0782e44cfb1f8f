-- What comes of `demo`, of its number.
use Rattle.std.specs.Prelude.{ℕ, List, [], ◌++◌, codes}
use Rattle.std.specs.Fmt.{decimal}
use Rattle.spectro_spec.specs.Spectrum.{notions}
use Rattle.spectro_demo.specs.Systems.{demo_left, demo_right}
use Rattle.spectro_report.specs.Reports.{Report}
use Rattle.spectro_report.specs.Summaries.{summary_text}
use Rattle.spectro_run.specs.Comparisons.{report_of}
use Rattle.spectro_run.specs.Stages.{Outcome, After, Writes}
use Rattle.spectro_words.specs.declared.limit.TheConstants.{DEFAULT_LIMIT}

-- a line of the number
abbrev pub number_line : ℕ → List ℕ
number_line number = codes "demo " ++ decimal number ++ codes "\n"

-- this line, and then the summary of the report
abbrev pub demo_text : ℕ → Report → List ℕ
demo_text number report = number_line number ++ summary_text report

-- the report on the two systems of the number, where every label weighs 1, for the thirteen notions and within the limit that holds where none is asked for,
-- and then its text
abbrev pub demo_outcome : ℕ → Outcome
demo_outcome number = After (report_of (demo_left number) (demo_right number) [] notions DEFAULT_LIMIT) (λ report. Writes (demo_text number report))
