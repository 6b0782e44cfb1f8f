use Rattle.spectro_tests.proofs.built.built.Given as goal

abbrev pub ghosts-table : goal.ghosts-table
ghosts-table a = record { name = a.blank.name; parts = a.blank.parts }
