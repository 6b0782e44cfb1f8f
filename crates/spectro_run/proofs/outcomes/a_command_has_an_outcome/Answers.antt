-- Each stage has an outcome, and so has each chain of stages.
use Rattle.spectro_run.proofs.SomeOutcome.{some_of_command}
use Rattle.spectro_run.proofs.outcomes.a_command_has_an_outcome.Goals as goal

pub returns : goal.returns
returns c =
    some_of_command c.a_text_has_a_system_or_a_fault.ensures c.a_text_has_a_formula_or_a_fault.ensures c.a_text_has_a_weighing_or_a_fault.ensures
    c.a_text_has_a_table_or_a_fault.ensures c.reports_exist.ensures
