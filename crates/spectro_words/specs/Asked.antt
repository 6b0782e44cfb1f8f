-- The commands of the code as those of the definitions.
use Rattle.spectro_words.specs.Commands as commands
use Rattle.spectro_words.specs.Words.{named}
use Rattle.spectro_words.specs.declared.command.Command.{Command}
use Rattle.spectro_words.specs.declared.command.Command.TheVariants.{Eval, Rewrite, Price, Size, Compare, Demo}

abbrev pub asked : Command → commands.Command
asked (Eval formula file weights) = commands.eval formula.now file.now (named weights)
asked (Rewrite file) = commands.rewrite file.now
asked (Price formula weights) = commands.price formula.now (named weights)
asked (Size left right limit) = commands.size left.now right.now limit
asked (Compare left right weights notions limit) = commands.compare left.now right.now (named weights) (named notions) limit
asked (Demo number) = commands.demo number
