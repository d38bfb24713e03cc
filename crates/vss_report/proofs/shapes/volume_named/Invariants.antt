use Rattle.std.proofs.Common.{◌≡◌, ◌-◌, length}
use Rattle.std.specs.Prelude.{find}
use Rattle.std.specs.List.{range_with_len}
use Rattle.std.specs.Str.{bytes_eq}
use Rattle.vss_report.specs.Words.{volume_text}
use Rattle.vss_report.specs.Shapes.{volume_named}
use Rattle.vss_report.proofs.shapes.volume_named.Given as goal

-- none that was passed has the name
abbrev pub invariant-loop-volume : goal.invariant-loop-volume
invariant-loop-volume l =
    volume_named l.scenario l.name ≡ find (λ i. bytes_eq (volume_text l.scenario i) l.name) (range_with_len l.volume (length l.scenario.volumes - l.volume))
