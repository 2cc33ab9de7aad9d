use Rattle.eversolar_words.specs.Words.{word_bytes}
use borrow.Author.Rules.{rules}
use Rattle.eversolar_words.proofs.bytes_of.Goals as goal

pub returns : goal.returns
unfolding word_bytes
returns c = search rules
