use Rattle.std.proofs.Common.{◌<◌, ◌≤◌, arith, length}
use Rattle.std.proofs.lemmas.List.{length-map}
use Rattle.component_doc.specs.Over.{metas_of}
use Rattle.component_doc.proofs.Known.{known-end, known-on}
use Rattle.component_doc.proofs.metas.Metas.known.Goals as goal

pub loop-writer-preserved : goal.loop-writer-preserved
loop-writer-preserved c =
    let l = c.loop-writer in
    let within : l.writer < length (metas_of c.args.self.now) = simp length-map (omega arith) in
    known-on (metas_of c.args.self.now) l.writer l.writers.items _ c.is_some.result _ c.of_writer.result within c.in_ok-push_if.ensures c.is_some.ensures c.of_writer.ensures l.invariant

pub returns : goal.returns
returns c =
    let l = c.loop-writer in
    let past : length (metas_of c.args.self.now) ≤ l.writer = simp length-map (omega arith) in
    known-end (metas_of c.args.self.now) l.writer l.writers.items past l.invariant
