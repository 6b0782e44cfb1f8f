-- The fault of a line that is of no node at its place. Each kind yields to those that are tested before it.
use Rattle.std.specs.Prelude.{ℕ, ◌≡◌, List}
use Rattle.spectro_hmltext.specs.NodeLines.{NodeForm, IsNodeForm, HasLabel, AreSmall, IsNextAt, Rises}
use Rattle.spectro_hmltext.specs.declared.node_line.NodeError.{NodeError}
use Rattle.spectro_hmltext.specs.declared.node_line.NodeError.TheVariants.{BadLine, BadNumber, NotRising, BadNode, BadLabel, OutOfMemory}

-- the form is of no node that may stand at this place
pub data IsFormFault (form : NodeForm) (place : ℕ) (error : NodeError) : Type 0 where
  bad_label : ¬ HasLabel form → error ≡ BadLabel → IsFormFault form place error
  bad_number : HasLabel form → ¬ AreSmall form → error ≡ BadNumber → IsFormFault form place error
  bad_node : HasLabel form → AreSmall form → ¬ IsNextAt place form → error ≡ BadNode → IsFormFault form place error
  not_rising : HasLabel form → AreSmall form → IsNextAt place form → ¬ Rises form → error ≡ NotRising → IsFormFault form place error

-- the line has no form, or its form has a fault
pub data IsNodeFault (line : List ℕ) (place : ℕ) (error : NodeError) : Type 0 where
  bad_line : ((form : NodeForm) → ¬ IsNodeForm line form) → error ≡ BadLine → IsNodeFault line place error
  bad_form : (form : NodeForm) → IsNodeForm line form → IsFormFault form place error → IsNodeFault line place error

-- what an error says of the line; want of memory says nothing
abbrev pub IsRefused : List ℕ → ℕ → NodeError → Type 0
IsRefused line place OutOfMemory = Unit {0}
IsRefused line place error = IsNodeFault line place error
