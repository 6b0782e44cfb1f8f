-- The stages of texts: what is read of a text is accepted or refused just as the whole is.
use Rattle.std.proofs.Common.{◌≡◌, ◌≤◌, ℕ, List, take, length, refl, sym, subst, inl, inr}
use Rattle.std.specs.Prelude.{◌⊎◌, Option, None, Some, IfSome, IfOk, IfErr, Result, Ok, Err}
use Rattle.spectro_io.specs.Limits.{read_limit}
use Rattle.spectro_io.specs.Shelves.{Texts}
use Rattle.spectro_io.specs.Faults.{Rose}
use Rattle.spectro_aut.specs.Texts.{IsText}
use Rattle.spectro_aut.proofs.Texts as aut_texts
use Rattle.spectro_notions.specs.NotionTexts.{IsNotionText}
use Rattle.spectro_notions.proofs.Texts as notion_texts
use Rattle.spectro_weights.specs.WeightTexts.{IsWeightText}
use Rattle.spectro_weights.proofs.Texts as weight_texts
use Rattle.spectro_run.specs.Held.{IsHeld}
use Rattle.spectro_run.specs.Reading.{HasRead, HoldsNothing, IsUnread, LeavesRest, OrMemory, ReadsToEnd}
use Rattle.spectro_run.specs.Refusals.{RefusesSystem, RefusesTable, RefusesWeighing, of_file}
use Rattle.spectro_run.specs.Stops.{IsStop, TakesStage, no_memory, refused, unread}
use Rattle.spectro_words.specs.Words.{Word}
use Rattle.spectro_run.specs.declared.status.BadText as declared
use Rattle.spectro_run.specs.declared.status.Status.{Status}
use Rattle.spectro_run.specs.declared.status.Status.TheVariants.{BadText}
use Rattle.spectro_run.specs.declared.status.Which.{Which}
use Rattle.spectro_run.specs.declared.status.Which.TheVariants.{Notions, Weights}
use Rattle.spectro_run.proofs.FilesHeld.{some-held}
use Rattle.spectro_run.proofs.ReadFronts.{whole_from_front}

-- a text that the name holds, of which the bytes are what is read
text-held : (told : Option Texts) (name : Word) (bytes : List ℕ) → IfSome told (HasRead name bytes)
    → (text : List ℕ) × IsHeld told (Some name) (Some text) × ((bytes ≡ text) ⊎ (bytes ≡ take read_limit text))
text-held None name bytes read = (bytes, (bytes, refl), inl refl)
text-held (Some texts) name bytes read = (read.0, sym read.1, inr read.2)

-- what is so of the bytes that are read is so of the text
of-text : (P : List ℕ → Type 0) (text bytes : List ℕ) → (bytes ≡ text) ⊎ (bytes ≡ take read_limit text)
    → (P (take read_limit text) → read_limit ≤ length text → P text) → P bytes → P text
of-text P text bytes (inl whole) long is = subst P whole is
of-text P text bytes (inr front) long is = whole_from_front P text bytes front (λ more read. long read more) is

-- a text that is too long to be read is judged as its front is, and a refusal says which text it is of
pub record AreJudged {T : Type 0} (IsTextOf : List ℕ → T → Type 0) (Refuses : List ℕ → Status → Type 0) (which : Which) : Type 0 where
  pub value : (text : List ℕ) (value : T) → IsTextOf (take read_limit text) value → read_limit ≤ length text → IsTextOf text value
  pub fault : (text : List ℕ) (status : Status) → Refuses (take read_limit text) status → read_limit ≤ length text → Refuses text status
  pub named : (text : List ℕ) (status : Status) → Refuses text status → (bad : declared.BadText) × (bad.which ≡ which) × (status ≡ BadText bad)

pub systems-judged : (which : Which) → AreJudged IsText (RefusesSystem which) which
systems-judged which = record {
  value = λ text system is long. absurd (aut_texts.read_front_no_text text system is long);
  fault = λ text status is long. (is.0, aut_texts.fault_of_read_front text is.0 is.1 long, is.2);
  named = λ text status is. (_, refl, is.2);
}

pub weighings-judged : AreJudged IsWeightText RefusesWeighing Weights
weighings-judged = record {
  value = λ text weighing is long. absurd (weight_texts.read_front_no_text text weighing is long);
  fault = λ text status is long. (is.0, weight_texts.fault_of_read_front text is.0 is.1 long, is.2);
  named = λ text status is. (_, refl, is.2);
}

pub tables-judged : AreJudged IsNotionText RefusesTable Notions
tables-judged = record {
  value = λ text table is long. absurd (notion_texts.read_front_no_text text table is long);
  fault = λ text status is long. (is.0, notion_texts.fault_of_read_front text is.0 is.1 long, is.2);
  named = λ text status is. (_, refl, is.2);
}

module _ (told : Option Texts) (name : Word) where
  -- a file that was not read holds nothing
  none-held : (told : Option Texts) → HoldsNothing told name → IsHeld told (Some name) None
  none-held None holds = absurd holds
  none-held (Some texts) holds = sym holds

  module _ {T : Type 0} (IsTextOf : List ℕ → T → Type 0) (Refuses : List ℕ → Status → Type 0) (before now : ℕ) where
    -- the text was not read
    pub unread-stage : (status : Status) → OrMemory (IsUnread told name before now) status
        → TakesStage told (Some name) (of_file IsTextOf Refuses) (Rose before now) (Err status)
    unread-stage status (inl memory) = record {
      held = (some-held told (Some name)).0;
      is = (some-held told (Some name)).1;
      ends = no_memory memory;
    }
    unread-stage status (inr (is, inl rose)) = record {
      held = (some-held told (Some name)).0;
      is = (some-held told (Some name)).1;
      ends = unread is rose;
    }
    unread-stage status (inr (is, inr holds)) = record {
      held = None;
      is = none-held told holds;
      ends = refused (subst IsStop (sym is) tt) is;
    }

    module _ (which : Which) (judged : AreJudged IsTextOf Refuses which) (bytes : List ℕ) where
      -- the text was read, and is of a value or refused
      pub read-stage : (result : Result T Status) → IfSome told (HasRead name bytes) → IfOk result (IsTextOf bytes)
          → IfErr result (OrMemory (Refuses bytes)) → TakesStage told (Some name) (of_file IsTextOf Refuses) (Rose before now) result
      read-stage (Ok value) read is refuses =
          let held = text-held told name bytes read in
          record {
            held = Some held.0;
            is = held.1;
            ends = of-text (λ text. IsTextOf text value) held.0 bytes held.2 (judged.value held.0 value) is;
          }
      read-stage (Err status) read is (inl memory) = record {
        held = (some-held told (Some name)).0;
        is = (some-held told (Some name)).1;
        ends = no_memory memory;
      }
      read-stage (Err status) read is (inr refusal) =
          let held = text-held told name bytes read in
          record {
            held = Some held.0;
            is = held.1;
            ends = refused (let named = judged.named bytes status refusal in subst IsStop (sym named.2) tt)
                (of-text (λ text. Refuses text status) held.0 bytes held.2 (judged.fault held.0 status) refusal);
          }

-- a text that is refused was read to its end
pub read-whole : {T : Type 0} (IsTextOf : List ℕ → T → Type 0) (Refuses : List ℕ → Status → Type 0) (which : Which) → AreJudged IsTextOf Refuses which
    → (told : Option Texts) (name : Word) (bytes : List ℕ) (left : Option (List ℕ)) (result : Result T Status) → LeavesRest told (Some name) left
    → IfErr result (OrMemory (Refuses bytes)) → IfErr result (ReadsToEnd told (Some name) which left)
read-whole IsTextOf Refuses which judged told name bytes left (Ok value) rest refuses = tt
read-whole IsTextOf Refuses which judged told name bytes left (Err status) rest (inl memory) =
    subst (ReadsToEnd told (Some name) which left) (sym memory) tt
read-whole IsTextOf Refuses which judged told name bytes left (Err status) rest (inr refusal) =
    let named = judged.named bytes status refusal in
    subst (ReadsToEnd told (Some name) which left) (sym named.2) (named.1, rest)
