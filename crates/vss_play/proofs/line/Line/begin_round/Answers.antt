use Rattle.std.proofs.lemmas.List.Sorted.{IsPermutation-trans}
use Rattle.vss_play.proofs.line.Line.begin_round.Goals as goal

pub returns-clause-all : goal.returns-clause-all
returns-clause-all c = IsPermutation-trans _ _ _ c.part.ensures.all c.bring_all_forward.ensures.all
