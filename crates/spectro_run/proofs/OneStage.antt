-- A chain of stages has at most one outcome, since each stage ends in at most one way.
use Rattle.std.proofs.Common.{◌≡◌, ◌∙◌, ℕ, List, sym, subst}
use Rattle.spectro_run.specs.Stages.{IsAtMostOne, Outcome, Stage, After, Writes, refused, given}
use Rattle.spectro_run.specs.declared.status.Status.{Status}

-- a stage gives at most one value, is refused in at most one way, and never both
pub record EndsInOneWay {T : Type 0} (stage : Stage T) : Type 0 where
  pub value : (one other : T) → stage.Gives one → stage.Gives other → one ≡ other
  pub refusal : (one other : Status) → stage.Refuses one → stage.Refuses other → one ≡ other
  pub apart : (status : Status) (value : T) → stage.Refuses status → stage.Gives value → ⊥

module _ {T : Type 0} (stage : Stage T) (Rest : T → Outcome) (way : EndsInOneWay stage) (rest : (value : T) → stage.Gives value
    → IsAtMostOne (Rest value)) where
  after-same : (one other : Status) (bytes more : List ℕ) → After stage Rest one bytes → After stage Rest other more → (one ≡ other) × (bytes ≡ more)
  after-same one other bytes more (refused first none) (refused second none') = (way.refusal one other first second, none ∙ sym none')
  after-same one other bytes more (refused first none) (given value gives second) = absurd (way.apart one value first gives)
  after-same one other bytes more (given value gives first) (refused second none) = absurd (way.apart other value second gives)
  after-same one other bytes more (given value gives first) (given value' gives' second) =
      let same : Rest value other more = subst (λ v. Rest v other more) (way.value value' value gives' gives) second in
      ((rest value gives).status one other bytes more first same, (rest value gives).bytes one other bytes more first same)

  pub after-one : IsAtMostOne (After stage Rest)
  after-one = record {
    status = λ one other bytes more first second. (after-same one other bytes more first second).0;
    bytes = λ one other bytes more first second. (after-same one other bytes more first second).1;
  }

pub writes-one : (text : List ℕ) → IsAtMostOne (Writes text)
writes-one text = record {
  status = λ one other bytes more first second. first.0 ∙ sym second.0;
  bytes = λ one other bytes more first second. first.1 ∙ sym second.1;
}
