-- What is built for what was found for two pairs, as the code asks for it.
use Rattle.std.proofs.Common.{◌≡◌, ◌∙◌, ◌+◌, ◌<◌, ℕ, List, [], ◌++◌, All, drop, length, take, ap, sym, subst, take-append-drop}
use Rattle.std.specs.Prelude.{Option}
use Rattle.std.specs.List.{AllByRecursion}
use Rattle.std.proofs.lemmas.List.{append-nil}
use Rattle.std.proofs.lemmas.List.Elements.{All-from_recursion}
use Rattle.spectro_spec.specs.System.{System}
use Rattle.spectro_spec.specs.Weighing.{Weighing}
use Rattle.spectro_spec.specs.Price.{Price}
use Rattle.spectro_spec.specs.Notion.{Notion}
use Rattle.spectro_game.specs.Pairs.{Pair}
use Rattle.spectro_game.specs.Generations.{Table}
use Rattle.spectro_rows.specs.Rows.{row_at}
use Rattle.spectro_energy.specs.declared.energy.Energy.{Energy}
use Rattle.spectro_hml.specs.Sheets.{SheetNode}
use Rattle.spectro_build.specs.Built.{IsBuilt}
use Rattle.spectro_build.specs.Wanted.{IsListedIn, needs_of, pair_of}
use Rattle.spectro_build.specs.declared.wanted.Wanted.{Wanted}
use Rattle.spectro_report.specs.Firsts.{AreFirsts, AreTold, firsts_of, prices_found, wanted_of}
use Rattle.spectro_report.specs.Reports.{needs_at, nodes_told, prices_told}
use Rattle.spectro_report.specs.Verdicts.{Verdict}
use Rattle.spectro_report.proofs.Asking.{needs-found, wanted-listed}
use Rattle.spectro_report.proofs.Finding.{found-member}
use Rattle.spectro_report.proofs.Numbered.{built-told, numbers-below, numbers-long}

-- what is asked for at first, and then, is wanted in the end
pub asked-both : (first second none front whole wanted : List Wanted) → none ≡ [] → front ≡ none ++ first → whole ≡ front ++ second → wanted ≡ whole
    → wanted ≡ first ++ second
asked-both first second none front whole wanted empty asked then is = is ∙ then ∙ ap (λ one. one ++ second) (asked ∙ ap (λ one. one ++ first) empty)

-- what was found in the rows of two pairs is listed in them
pub both-listed : (rows : List (List Price)) (table : List Notion) (pair turned : ℕ) (firsts others : List (Option Energy)) → pair < length rows
    → turned < length rows → AreFirsts (row_at rows pair) table (firsts_of firsts) → AreFirsts (row_at rows turned) table (firsts_of others)
    → All (IsListedIn rows) (wanted_of pair firsts ++ wanted_of turned others)
both-listed rows table pair turned firsts others below also found too =
    let rest : AllByRecursion (IsListedIn rows) (wanted_of turned others) = subst (AllByRecursion (IsListedIn rows)) (append-nil (wanted_of turned others))
    (wanted-listed rows turned others [] also (found-member (row_at rows turned) table (firsts_of others) too) tt) in
    All-from_recursion (IsListedIn rows) (wanted_of pair firsts ++ wanted_of turned others)
    (wanted-listed rows pair firsts (wanted_of turned others) below (found-member (row_at rows pair) table (firsts_of firsts) found) rest)

module _ (weighing : Weighing) (system : System) (pairs : List Pair) (table : Table) (pair turned : ℕ) (firsts others : List (Option Energy))
    (nodes : List SheetNode) (numbers : List ℕ)
    (built : IsBuilt weighing system pairs table (needs_of pairs (wanted_of pair firsts ++ wanted_of turned others)) nodes numbers) where
  needs : needs_of pairs (wanted_of pair firsts ++ wanted_of turned others)
      ≡ needs_at (pair_of pairs pair) (prices_found (firsts_of firsts)) ++ needs_at (pair_of pairs turned) (prices_found (firsts_of others))
  needs =
      let rest : needs_of pairs (wanted_of turned others) ≡ needs_at (pair_of pairs turned) (prices_found (firsts_of others)) =
      ap (needs_of pairs) (sym (append-nil (wanted_of turned others))) ∙ needs-found pairs turned others []
      ∙ append-nil (needs_at (pair_of pairs turned) (prices_found (firsts_of others))) in
      needs-found pairs pair firsts (wanted_of turned others)
      ∙ ap (λ more. needs_at (pair_of pairs pair) (prices_found (firsts_of firsts)) ++ more) rest

  built-so : IsBuilt weighing system pairs table
      (needs_at (pair_of pairs pair) (prices_found (firsts_of firsts)) ++ needs_at (pair_of pairs turned) (prices_found (firsts_of others))) nodes numbers
  built-so = subst (λ wanted. IsBuilt weighing system pairs table wanted nodes numbers) needs built

  pub all-below : All (λ k. k < length nodes) numbers
  all-below = numbers-below weighing system pairs table (pair_of pairs pair) (pair_of pairs turned) (prices_found (firsts_of firsts))
      (prices_found (firsts_of others)) nodes numbers built-so

  pub all-long : length numbers ≡ length (prices_found (firsts_of firsts)) + length (prices_found (firsts_of others))
  all-long = numbers-long weighing system pairs table (pair_of pairs pair) (pair_of pairs turned) (prices_found (firsts_of firsts))
      (prices_found (firsts_of others)) nodes numbers built-so

  pub said-built : (half : ℕ) (forth back : List Verdict) → AreTold nodes (firsts_of firsts) (take half numbers) forth
      → AreTold nodes (firsts_of others) (drop half numbers) back
      → IsBuilt weighing system pairs table (needs_at (pair_of pairs pair) (prices_told forth) ++ needs_at (pair_of pairs turned) (prices_told back)) nodes
      (nodes_told forth ++ nodes_told back)
  said-built half forth back told also =
      built-told weighing system pairs table (pair_of pairs pair) (pair_of pairs turned) (firsts_of firsts) (firsts_of others) nodes numbers built-so
      (take half numbers) (drop half numbers) (take-append-drop half numbers) forth back told also
