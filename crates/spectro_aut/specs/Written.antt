-- The text that is written of a system.
use Rattle.std.specs.Prelude.{ℕ, List, ◌++◌, length, codes}
use Rattle.std.specs.Fmt.{decimal}
use Rattle.std.specs.List.{flat_map}
use Rattle.spectro_spec.specs.System.{System, Step}

-- des (INITIAL, TRANSITIONS, STATES) and LF
abbrev pub header_text : System → List ℕ
header_text system =
    codes "des (" ++ decimal system.initial ++ codes ", " ++ decimal (length system.steps) ++ codes ", " ++ decimal system.states ++ codes ")\n"

-- (SOURCE, "LABEL", TARGET) and LF; in the label nothing is escaped
abbrev pub step_text : Step → List ℕ
step_text step = codes "(" ++ decimal step.source ++ codes ", \"" ++ step.label ++ codes "\", " ++ decimal step.target ++ codes ")\n"

-- the header, and behind it the steps in order
abbrev pub text_of : System → List ℕ
text_of system = header_text system ++ flat_map step_text system.steps
