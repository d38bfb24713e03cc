use Rattle.std.proofs.lemmas.List.Sorted.{IsPermutation-trans}
use Rattle.vss_play.proofs.line.Line.look_back.Goals as goal

pub returns-clause-all : goal.returns-clause-all
returns-clause-all c = IsPermutation-trans _ _ _ c.bring_all_forward.ensures.all c.bring_all_forward-2.ensures.all
