use Rattle.std.proofs.Common.{◌≡◌, drop, map}
use Rattle.serde_json.specs.View.{items_view}
use Rattle.writer_meta.specs.Metadata.{part_of}
use Rattle.writer_meta.specs.Document.{parts_in}
use Rattle.writer_meta.proofs.Lists.{after}
use Rattle.writer_meta.proofs.components.Components.each_value.Given as goal

-- the components so far, and then those of the values that are left
abbrev pub invariant-loop-value : goal.invariant-loop-value
invariant-loop-value l =
    parts_in (items_view l.values) ≡ after (map part_of l.components.items) (parts_in (items_view (drop l.value-index l.values)))
