use Rattle.std.proofs.Common.{◌<◌, length, ap, arith}
use Rattle.std.proofs.lemmas.List.{length-map}
use Rattle.scenario.specs.Plan.{Plan, lines_of}
use Rattle.scenario.specs.Rows.{lane_plan}
use Rattle.scenario.specs.Views.{plan_of}
use Rattle.scenario.proofs.TextParts.{lines_at, few_at}
use Rattle.scenario.proofs.scenario.Scenario.lane_len.Goals as goal

pub overflow_cast-result : goal.overflow_cast-result
overflow_cast-result c =
    let lanes = c.self.inside.lanes.items in
    let count = ap (λ (s : Plan). length s.lanes) c.self.view_is in
    let inside : c.args.lane < length lanes = omega (arith, count, length-map lanes lane_plan, c.requires) in
    let few = few_at (plan_of c.self.inside) lanes c.args.lane c.index.result.now c.self.invariant.0.lanes inside c.index.ensures in
    omega (arith, few, c.len.ensures, c.index.result.now.lines.ok.0)

pub returns : goal.returns
returns c =
    let lanes = c.self.inside.lanes.items in
    let count = ap (λ (s : Plan). length s.lanes) c.self.view_is in
    let inside : c.args.lane < length lanes = omega (arith, count, length-map lanes lane_plan, c.requires) in
    let lines = ap length (lines_at lanes c.args.lane c.index.result.now inside c.index.ensures) in
    let seen = ap (λ (s : Plan). length (lines_of s c.args.lane)) c.self.view_is in
    omega (arith, lines, seen, c.len.ensures, c.index.result.now.lines.ok.0)
