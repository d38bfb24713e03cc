use Rattle.std.proofs.Common.{◌≡◌, Some, refl}
use Rattle.scenario.specs.declared.word.Word.{Word}
use Rattle.scenario.specs.declared.word.Word.TheVariants.{Scenario}
use Rattle.scenario.specs.Words.{name_of, word_of}
use Rattle.scenario.proofs.laws.all_words_are_read.Goals as goal

read_back : (word : Word) → word_of (name_of word) ≡ Some word
unfolding word_of
read_back Scenario = refl
read_back _ = refl

pub returns : goal.returns
returns c = read_back
