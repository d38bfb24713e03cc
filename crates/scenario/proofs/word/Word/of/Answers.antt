use Rattle.std.proofs.Common.{rules, tests, ◌∙◌, ap}
use Rattle.std.specs.Str.{bytes_eq}
use Rattle.std.proofs.lemmas.Iterator.{YieldsList-from_slice}
use Rattle.std.proofs.lemmas.Iterator.Search.{find_from_yields_List}
use Rattle.scenario.specs.Words.{name_of, word_of, words}
use Rattle.scenario.proofs.TextParts.{four, five}
use Rattle.scenario.proofs.word.Word.of.Goals as goal

pub returns-in-write : goal.returns-in-write
unfolding word_of
returns-in-write c =
    ap word_of (five c.args.bytes.now 119 114 105 116 101 c.in-write.len_at_least c.in-write.len_below (search rules) (search rules) (search rules) (search rules) (search rules))

pub returns-in-read : goal.returns-in-read
unfolding word_of
returns-in-read c =
    ap word_of (four c.args.bytes.now 114 101 97 100 c.in-read.len_at_least c.in-read.len_below (search rules) (search rules) (search rules) (search rules))

pub returns-in-image : goal.returns-in-image
unfolding word_of
returns-in-image c =
    ap word_of (five c.args.bytes.now 105 109 97 103 101 c.in-image.len_at_least c.in-image.len_below (search rules) (search rules) (search rules) (search rules) (search rules))

pub returns-in-query : goal.returns-in-query
unfolding word_of
returns-in-query c =
    ap word_of (five c.args.bytes.now 113 117 101 114 121 c.in-query.len_at_least c.in-query.len_below (search rules) (search rules) (search rules) (search rules) (search rules))

pub returns-in_default : goal.returns-in_default
unfolding word_of
returns-in_default c =
    c.copied.ensures
    ∙ find_from_yields_List (λ word. bytes_eq (name_of word) c.args.bytes.now) _ _ c.find.result c.find.ensures.ran (YieldsList-from_slice words cc) (λ x b q k. search (rules, tests))
