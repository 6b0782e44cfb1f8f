use Rattle.spectro_report.proofs.comparison.found.Given as goal

abbrev pub ghosts-solved : goal.ghosts-solved
ghosts-solved a = record { name = a.blank.name; parts = a.blank.parts }
