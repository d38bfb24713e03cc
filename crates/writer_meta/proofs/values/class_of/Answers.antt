use Rattle.std.proofs.Common.{◌≡◌, None, refl}
use Rattle.uuid.specs.Text.{parsed}
use Rattle.writer_meta.proofs.Lists.{none_parsed}
use Rattle.writer_meta.proofs.values.class_of.Goals as goal

pub returns-in-Err : goal.returns-in-Err
returns-in-Err c =
    let none : parsed c.in_ok-text.text.now ≡ None = none_parsed c.in-Err.field-0 _ c.in-Err.ensures.ok in
    rw (← c.in_ok-text.ensures) (rw none refl)
