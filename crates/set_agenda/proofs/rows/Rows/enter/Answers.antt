use Rattle.std.proofs.Common.{refl, ◌∙◌, None}
use Rattle.set_agenda.proofs.Closings.{row_in}
use Rattle.set_agenda.proofs.rows.Rows.enter.Goals as goal

pub returns : goal.returns
returns c = λ ms h. record {
  all = c.enter_level.ensures.all ∙ row_in None ms c.args.member _ _ refl h.all c.insert.ensures;
  unfailed = c.enter_level.ensures.unfailed ∙ row_in None ms c.args.member _ _ refl h.unfailed c.insert-2.ensures;
  levels = c.enter_level.ensures.levels ms (record { system = h.levels.system; back_end = h.levels.back_end; front_end = h.levels.front_end });
}
