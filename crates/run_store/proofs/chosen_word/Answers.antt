-- `run_store::chosen_word` meets its contract: by the definition.
-- Assumes nothing.
use Rattle.run_store.specs.Store.{chosen_word}
use borrow.Author.Rules.{rules}
use Rattle.run_store.proofs.chosen_word.Goals as goal

pub returns : goal.returns
unfolding chosen_word
returns c = search rules
