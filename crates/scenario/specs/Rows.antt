-- What contracts see of a writer and of a lane that are kept: what the plan has of them.
use Rattle.writer_meta.specs.Metadata.{meta_of}
use Rattle.scenario.specs.declared.writer.Writer.{Writer}
use Rattle.scenario.specs.declared.lane.Lane.{Lane}
use Rattle.scenario.specs.Plan.{WriterPlan, LanePlan}

abbrev pub writer_plan : Writer → WriterPlan
writer_plan w = record { name = w.name; meta = meta_of w.metadata; script = w.script }

abbrev pub lane_plan : Lane → LanePlan
lane_plan l = record { name = l.name; acts_as = l.acts_as; lines = l.lines.items }
