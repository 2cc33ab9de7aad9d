use Rattle.eversolar_words.specs.Words.{word}
use borrow.Author.Rules.{rules}
use Rattle.eversolar_words.proofs.word.Goals as goal

pub returns : goal.returns
unfolding word
returns c = search rules
