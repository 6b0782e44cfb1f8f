-- Which calls of a device in memory fail.
use Rattle.std.specs.Prelude.{ℕ, ◌+◌, ◌-◌, ◌^◌, ◌==◌, Bool, min, List, if◌then◌else◌}
use Rattle.std.specs.List.{list_any}

pub record Plan : Type 0 where
  -- the numbers of the calls that fail; the first call is number 1
  pub fails : List ℕ
  -- how many calls were made
  pub made : ℕ
  -- how many of them failed
  pub faults : ℕ

-- a count goes up, and stays at its greatest value
abbrev pub counted : ℕ → ℕ
counted count = min (count + 1) (2 ^ 64 - 1)

-- the next call is one of those that fail
abbrev pub fails_next : Plan → Bool
fails_next plan = list_any (λ number. number == counted plan.made) plan.fails

-- the plan after a call that failed or did not
abbrev pub after_call : Plan → Bool → Plan
after_call plan failed = record { fails = plan.fails; made = counted plan.made; faults = if failed then counted plan.faults else plan.faults }
