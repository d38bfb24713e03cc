use Rattle.std.proofs.Common.{◌∙◌, sym, arith}
use Rattle.image_store.proofs.Passes.{as_many_wanted}
use Rattle.image_store.proofs.Plains.{as_many_blocks}
use Rattle.image_store.proofs.Opens.{captured_gives, captured_ready}
use Rattle.image_store.proofs.laws.captured_is_kept.Goals as goal

pub returns : goal.returns
returns g c = λ done wanted before p input_is spool_is stands.
    let size = c.blocks-blocks.ensures.size in
    let as_many = c.requires.size in
    let marks = c.capture.ensures.len ∙ c.requires.marks in
    let many = as_many_blocks g.D.Device.told c.args.store.now.group p.volumes c.args.v stands.group c.requires.volume in
    let whole = as_many_wanted _ _ (g.I.Device.told c.args.input.now) wanted c.blocks-blocks.ensures.whole c.requires.size input_is in
    let so = c.in-Ok.ensures.captured wanted before p input_is spool_is stands (record { rest = λ b low. absurd (omega arith); marked = λ b low. absurd (omega arith) }) in
    let ahead = rw c.in-Done.is at (c.in-Ok-copy_ahead.ensures.ahead p (c.capture.ensures.still p stands)) in
    (rw c.in-Done-taken.is at (c.in-Ok-overwrite.ensures.overwriting wanted p (captured_gives _ _ _ _ _ (omega arith) so) ahead
    (captured_ready _ so.spool _ _ _ (marks ∙ sym many) (whole ∙ sym many) (omega arith) so.captured))).1
