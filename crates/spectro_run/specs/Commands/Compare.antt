-- What comes of `compare`, of what two files hold, and those of weights and of notions, if they are asked for, and a limit.
use Rattle.std.specs.Prelude.{ℕ, List, Option}
use Rattle.spectro_report.specs.Texts.{report_text}
use Rattle.spectro_run.specs.Comparisons.{report_of}
use Rattle.spectro_run.specs.Refusals.{system_of, weighing_of, table_of}
use Rattle.spectro_run.specs.Stages.{Outcome, After, Writes}
use Rattle.spectro_run.specs.Weighted.{parts_shown}
use Rattle.spectro_words.specs.Words.{Word}
use Rattle.spectro_run.specs.declared.status.Which.TheVariants.{Left, Right}

-- the left system, the right one, the weights, the notions, the report on them, and then its text
abbrev pub compare_outcome : Option (List ℕ) → Option (List ℕ) → Option Word → Option (List ℕ) → Option Word → Option (List ℕ) → ℕ → Outcome
compare_outcome left right weights weights_file notions notions_file limit =
    After (system_of Left left)
    (λ first. After (system_of Right right) (λ second. After (weighing_of weights weights_file) (λ weighing. After (table_of notions notions_file)
    (λ table. After (report_of first second weighing table limit) (λ report. Writes (report_text table (parts_shown weights) report))))))
