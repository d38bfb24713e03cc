use Rattle.std.proofs.Common.{◌≤◌, arith, length}
use Rattle.std.proofs.lemmas.List.{length-map}
use Rattle.component_doc.specs.Over.{metas_of}
use Rattle.component_doc.proofs.Known.{one_refused, allowed-on, allowed-end}
use Rattle.component_doc.proofs.metas.Metas.are_allowed.Goals as goal

pub returns-then-not-allowed : goal.returns-then-not-allowed
returns-then-not-allowed c = one_refused (metas_of c.args.self.now) c.loop-writer.writer c.in_ok-allowed.allowed c.in_ok-allowed.ensures c.if-not-allowed.true

pub loop-writer-preserved : goal.loop-writer-preserved
loop-writer-preserved c = allowed-on (metas_of c.args.self.now) c.loop-writer.writer c.in_ok-allowed.allowed c.in_ok-allowed.ensures c.if-not-allowed.false c.loop-writer.invariant

pub returns : goal.returns
returns c =
    let past : length (metas_of c.args.self.now) ≤ c.loop-writer.writer = simp length-map (omega arith) in
    allowed-end (metas_of c.args.self.now) c.loop-writer.writer past c.loop-writer.invariant
