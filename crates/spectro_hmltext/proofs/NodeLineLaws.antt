-- A line is of one node at a place, or has one fault there.
use Rattle.std.proofs.Common.{◌≡◌, ◌∙◌, ℕ, List, sym, ap, subst}
use Rattle.spectro_io.proofs.QuotedLabels.{label-once}
use Rattle.spectro_hml.specs.Sheets.{SheetNode, see_node}
use Rattle.spectro_hmltext.specs.NodeLines.{NodeForm, see_form, all_form, HasLabel, IsNodeOf, IsNodeAtPlace, IsNodeLine}
use Rattle.spectro_hmltext.specs.NodeFaults.{IsFormFault, bad_label, bad_number, bad_node, not_rising, IsNodeFault, bad_line, bad_form}
use Rattle.spectro_hmltext.specs.declared.node_line.NodeError.{NodeError}
use Rattle.spectro_hmltext.proofs.NodeForms.{form-once}

-- ---- nodes
node-once : (form : NodeForm) (one other : SheetNode) → IsNodeOf form one → IsNodeOf form other → one ≡ other
node-once (see_form number inside next) one other first second = first.2
    ∙ ap (λ label. see_node label next) (label-once inside first.0 second.0 first.1 second.1) ∙ sym second.2
node-once (all_form number clauses) one other first second = first ∙ sym second

pub one_node : (line : List ℕ) (place : ℕ) (one other : SheetNode) → IsNodeLine line place one → IsNodeLine line place other → one ≡ other
one_node line place one other first second =
    node-once second.form one other
    (subst (λ form. IsNodeOf form one) (form-once line first.form second.form first.written second.written) first.placed.given) second.placed.given

-- ---- faults
form_fault-once : (form : NodeForm) (place : ℕ) (one two : NodeError) → IsFormFault form place one → IsFormFault form place two → one ≡ two
form_fault-once form place one two (bad_label none is) (bad_label none_too same) = is ∙ sym same
form_fault-once form place one two (bad_label none is) (bad_number has large same) = absurd (none has)
form_fault-once form place one two (bad_label none is) (bad_node has small not_next same) = absurd (none has)
form_fault-once form place one two (bad_label none is) (not_rising has small next falls same) = absurd (none has)
form_fault-once form place one two (bad_number has large is) (bad_label none same) = absurd (none has)
form_fault-once form place one two (bad_number has large is) (bad_number has_too large_too same) = is ∙ sym same
form_fault-once form place one two (bad_number has large is) (bad_node has_too small not_next same) = absurd (large small)
form_fault-once form place one two (bad_number has large is) (not_rising has_too small next falls same) = absurd (large small)
form_fault-once form place one two (bad_node has small not_next is) (bad_label none same) = absurd (none has)
form_fault-once form place one two (bad_node has small not_next is) (bad_number has_too large same) = absurd (large small)
form_fault-once form place one two (bad_node has small not_next is) (bad_node has_too small_too not_too same) = is ∙ sym same
form_fault-once form place one two (bad_node has small not_next is) (not_rising has_too small_too next falls same) = absurd (not_next next)
form_fault-once form place one two (not_rising has small next falls is) (bad_label none same) = absurd (none has)
form_fault-once form place one two (not_rising has small next falls is) (bad_number has_too large same) = absurd (large small)
form_fault-once form place one two (not_rising has small next falls is) (bad_node has_too small_too not_next same) = absurd (not_next next)
form_fault-once form place one two (not_rising has small next falls is) (not_rising has_too small_too next_too falls_too same) = is ∙ sym same

pub one_fault : (line : List ℕ) (place : ℕ) (one other : NodeError) → IsNodeFault line place one → IsNodeFault line place other → one ≡ other
one_fault line place one other (bad_line none is) (bad_line none_too same) = is ∙ sym same
one_fault line place one other (bad_line none is) (bad_form form written fault) = absurd (none form written)
one_fault line place one other (bad_form form written fault) (bad_line none same) = absurd (none form written)
one_fault line place one other (bad_form form written fault) (bad_form form_too written_too fault_too) =
    form_fault-once form_too place one other (subst (λ form. IsFormFault form place one) (form-once line form form_too written written_too) fault) fault_too

-- ---- a node, or a fault
given-label : (form : NodeForm) (node : SheetNode) → IsNodeOf form node → HasLabel form
given-label (see_form number inside next) node given = (given.0, given.1)
given-label (all_form number clauses) node given = tt

placed-no_fault : (form : NodeForm) (place : ℕ) (node : SheetNode) (error : NodeError) → IsNodeAtPlace form place node → IsFormFault form place error → ⊥
placed-no_fault form place node error placed (bad_label none same) = none (given-label form node placed.given)
placed-no_fault form place node error placed (bad_number has large same) = large placed.small
placed-no_fault form place node error placed (bad_node has small not_next same) = not_next placed.next
placed-no_fault form place node error placed (not_rising has small next falls same) = falls placed.rise

pub no_fault : (line : List ℕ) (place : ℕ) (node : SheetNode) (error : NodeError) → IsNodeLine line place node → IsNodeFault line place error → ⊥
no_fault line place node error is (bad_line none same) = none is.form is.written
no_fault line place node error is (bad_form form written fault) =
    placed-no_fault is.form place node error is.placed (subst (λ form. IsFormFault form place error) (form-once line form is.form written is.written) fault)
