-- Each stage has at most one outcome, and so has each chain of stages.
use Rattle.spectro_run.proofs.OneOutcome.{one_of_command}
use Rattle.spectro_run.proofs.outcomes.a_command_has_at_most_one_outcome.Goals as goal

pub returns : goal.returns
returns c =
    one_of_command c.a_text_has_at_most_one_system.ensures c.a_text_has_at_most_one_first_fault.ensures c.texts_of_systems_have_no_fault.ensures
    c.a_text_has_at_most_one_formula.ensures
    c.a_text_has_at_most_one_first_fault-2.ensures c.texts_of_formulas_have_no_fault.ensures c.a_text_has_at_most_one_weighing.ensures
    c.a_text_has_at_most_one_first_fault-3.ensures
    c.texts_of_weighings_have_no_fault.ensures c.a_text_has_at_most_one_table.ensures c.a_text_has_at_most_one_first_fault-4.ensures
    c.texts_of_tables_have_no_fault.ensures c.reached_pairs_are_one.ensures c.reports_are_one.ensures
