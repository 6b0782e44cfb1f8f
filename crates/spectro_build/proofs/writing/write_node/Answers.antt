-- What is taken stands before, so its nodes are there.
use Rattle.std.proofs.Common.{◌<◌, length, Contains, refl, sym, ap, subst}
use Rattle.std.proofs.lemmas.List.Elements.{All-contains_itself, All-weaker}
use Rattle.spectro_spec.proofs.Membership.{Contains-map}
use Rattle.spectro_hml.specs.Clauses.{ClausesRise}
use Rattle.spectro_hml.specs.Sheets.{see_node, all_node}
use Rattle.spectro_theory.specs.Reaching.{StandOnce}
use Rattle.spectro_build.specs.Kept.{keys_taken}
use Rattle.spectro_build.specs.Written.{AreNumbered, IsKeptNode}
use Rattle.spectro_build.specs.declared.clauses.SignedKey.{SignedKey}
use Rattle.spectro_build.proofs.SeenObservations.{label-is}
use Rattle.spectro_build.proofs.writing.write_node.Goals as goal

pub number_clauses-requires-clause-apart : goal.number_clauses-requires-clause-apart
number_clauses-requires-clause-apart c = subst (λ chosen. StandOnce (keys_taken c.args.signed.now chosen)) c.in-Split.is c.requires.apart

pub push_all-requires-clause-before : goal.push_all-requires-clause-before
push_all-requires-clause-before c =
    let signed = c.args.signed.now in
    let clauses = c.deref.result.now in
    let numbered = subst (AreNumbered c.args.needs.now signed) (sym c.deref.ensures.value) c.in_ok-number_clauses-in-Split.ensures.numbered in
    All-weaker (Contains clauses) (λ clause. clause.node < length c.args.sheet.now)
    (λ clause member.
    let (one, inside, (sign, stands)) = (numbered clause).0 member in
    c.requires.before one.key clause.node
    (subst (λ chosen. Contains (keys_taken signed chosen) one.key) (sym c.in-Split.is) (Contains-map (λ (z : SignedKey). z.key) signed one inside)) stands)
    clauses (All-contains_itself clauses)

pub returns-in_ok-push_see-in-Observed : goal.returns-in_ok-push_see-in-Observed
returns-in_ok-push_see-in-Observed c =
    let node = see_node c.label.result.now c.number.result in
    record {
      node = (
        node,
        c.in_ok-push_see-in-Observed.ensures.ok,
        subst (λ chosen. IsKeptNode c.args.lts.now c.args.needs.now c.args.signed.now chosen node) (sym c.in-Observed.is) (
          c.number.result,
          c.number.ensures,
          ap (λ label. see_node label c.number.result) (sym (label-is c.args.lts.now c.in-Observed.seen.label c.label.result.now c.label.ensures.label)),
        ),
      );
    }

pub returns-in_ok-push_all-in-Split : goal.returns-in_ok-push_all-in-Split
returns-in_ok-push_all-in-Split c =
    let clauses = c.deref.result.now in
    record {
      node = (
        all_node clauses,
        c.in_ok-push_all-in-Split.ensures.ok,
        subst (λ chosen. IsKeptNode c.args.lts.now c.args.needs.now c.args.signed.now chosen (all_node clauses)) (sym c.in-Split.is) (
          clauses,
          subst ClausesRise (sym c.deref.ensures.value) c.in_ok-number_clauses-in-Split.ensures.rise,
          refl,
          subst (AreNumbered c.args.needs.now c.args.signed.now) (sym c.deref.ensures.value) c.in_ok-number_clauses-in-Split.ensures.numbered,
        ),
      );
    }
