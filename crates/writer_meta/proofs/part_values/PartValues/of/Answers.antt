use Rattle.std.proofs.Common.{◌≡◌, ◌∙◌, sym, ap, true, string_bytes}
use Rattle.serde_json.specs.View.{members_view}
use Rattle.writer_meta.specs.Document.{is_known, component_members, rows_in, rows_or, rows_with, rows_seen}
use Rattle.writer_meta.proofs.Lists.{rows-further, unknown-further}
use Rattle.writer_meta.proofs.part_values.PartValues.of.Goals as goal

pub loop-name-preserved : goal.loop-name-preserved
loop-name-preserved c =
    let yes : is_known component_members (string_bytes c.in-Some.name.now) ≡ true = rw (← c.as_str.ensures.value) (sym c.in-Some-with.ensures.known) in
    let more : rows_seen c.in-Some-with.more ≡ rows_with (rows_seen c.loop-name.values) (string_bytes c.in-Some.name.now) _ = rw (← c.as_str.ensures.value) c.in-Some-with.ensures.more in (
      ap (λ rows. rows_or rows (rows_in (members_view c.next.new.self))) more
          ∙ rows-further _ _ _ _ c.loop-name.name-iterator c.next.new.self (c.in-Some.name.now, c.in-Some.value.now) c.in-Some.ensures.steps
          ∙ c.loop-name.invariant.0,
      c.loop-name.invariant.1
          ∙ unknown-further (is_known component_members) c.loop-name.name-iterator c.next.new.self (c.in-Some.name.now, c.in-Some.value.now) c.in-Some.ensures.steps yes,
    )
