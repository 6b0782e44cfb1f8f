-- The grammar of the words: all forms, and which words are which command.
use Rattle.std.specs.Prelude.{◌≡◌, List, [], ◌∷◌, Contains, Option, None, Some, codes}
use Rattle.std.specs.Option.{option_map}
use Rattle.spectro_words.specs.Words.{Word}
use Rattle.spectro_words.specs.Limits.{limit_of}
use Rattle.spectro_words.specs.Demos.{demo_number_of}
use Rattle.spectro_words.specs.Commands.{Command, eval, rewrite, price, size, compare, demo}
use Rattle.spectro_words.specs.Forms.{Form, Fill}

-- eval: a formula, then a file; weights may be given
abbrev pub eval_of : List Word → List (Option Word) → Option Command
eval_of (formula ∷ file ∷ []) (weights ∷ []) = Some (eval formula file weights)
eval_of placed given = None

-- rewrite: a file
abbrev pub rewrite_of : List Word → List (Option Word) → Option Command
rewrite_of (file ∷ []) [] = Some (rewrite file)
rewrite_of placed given = None

-- price: a formula; weights may be given
abbrev pub price_of : List Word → List (Option Word) → Option Command
price_of (formula ∷ []) (weights ∷ []) = Some (price formula weights)
price_of placed given = None

-- size: the left file, then the right one; a limit may be given
abbrev pub size_of : List Word → List (Option Word) → Option Command
size_of (left ∷ right ∷ []) (limit ∷ []) = option_map (size left right) (limit_of limit)
size_of placed given = None

-- compare: the left file, then the right one; weights, then notions and then a limit may be given
abbrev pub compare_of : List Word → List (Option Word) → Option Command
compare_of (left ∷ right ∷ []) (weights ∷ notions ∷ limit ∷ []) = option_map (compare left right weights notions) (limit_of limit)
compare_of placed given = None

-- demo: its number
abbrev pub demo_of : List Word → List (Option Word) → Option Command
demo_of (number ∷ []) [] = option_map demo (demo_number_of number)
demo_of placed given = None

-- the forms: verb, number of places, options in their order, and the command of what fills these
abbrev pub forms : List Form
forms =
    record { verb = codes "eval"; places = 2; options = codes "--weights" ∷ []; command = eval_of }
    ∷ (record { verb = codes "rewrite"; places = 1; options = []; command = rewrite_of }
    ∷ (record { verb = codes "price"; places = 1; options = codes "--weights" ∷ []; command = price_of }
    ∷ (record { verb = codes "size"; places = 2; options = codes "--limit" ∷ []; command = size_of }
    ∷ (record { verb = codes "compare"; places = 2; options = codes "--weights" ∷ codes "--notions" ∷ codes "--limit" ∷ []; command = compare_of }
    ∷ (record { verb = codes "demo"; places = 1; options = []; command = demo_of }
    ∷ [])))))

-- the words fill one of the forms, and the command is that of what fills it
pub record IsCommand (words : List Word) (asked : Command) : Type 0 where
  pub form : Form
  pub listed : Contains forms form
  pub placed : List Word
  pub given : List (Option Word)
  pub filled : Fill words form placed given
  pub command : form.command placed given ≡ Some asked
