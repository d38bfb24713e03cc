-- What a contract sees of a scenario that was read: its plan.
use Rattle.std.specs.Prelude.{ℕ, List, map}
use Rattle.scenario.specs.declared.volume_row.VolumeRow.{VolumeRow}
use Rattle.scenario.specs.declared.writer.Writer.{Writer}
use Rattle.scenario.specs.declared.lane.Lane.{Lane}
use Rattle.scenario.specs.declared.scenario.Scenario.TheInside.{Inside}
use Rattle.scenario.specs.Plan.{Plan, GroupPlan}
use Rattle.scenario.specs.Rows.{writer_plan, lane_plan}

abbrev pub plan_from : List ℕ → List VolumeRow → List GroupPlan → List Writer → List Lane → Plan
plan_from source volumes groups writers lanes = record {
  source = source;
  volumes = volumes;
  groups = groups;
  writers = map writer_plan writers;
  lanes = map lane_plan lanes;
}

abbrev pub plan_of : Inside → Plan
plan_of a = plan_from a.source.bytes a.volumes.items a.groups.items a.writers.items a.lanes.items
