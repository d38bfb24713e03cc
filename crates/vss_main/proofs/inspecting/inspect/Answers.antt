use Rattle.std.proofs.Common.{◌≡◌, refl}
use Rattle.std.specs.Prelude.{IsErrOf, Ok}
use Rattle.io_edge.specs.declared.reading.ReadError.TheVariants as error
use Rattle.diff_area.specs.declared.area_fault.AreaFault.TheVariants as fault
use Rattle.vss_main.specs.Inspected.{Edges}
use Rattle.vss_main.proofs.Listed.{HasEnded, without}
use Rattle.vss_main.proofs.inspecting.inspect.Goals as goal

pub returns-in-Err : goal.returns-in-Err
returns-in-Err g c =
    let edges : Edges = record {
      left_first = g.S.Source.left c.args.source.now;
      left_last = g.S.Source.left c.read_all.new.source;
      reads_first = g.S.Source.count c.args.source.now;
      reads_last = g.S.Source.count c.read_all.new.source;
      taken_first = g.K.Sink.taken c.args.sink.now;
      taken_last = g.K.Sink.taken c.args.sink.now;
      writes_first = g.K.Sink.count c.args.sink.now;
      writes_last = g.K.Sink.count c.args.sink.now;
    } in
    let ended : HasEnded edges c.refused.result = without edges (IsErrOf (Ok c.in-Ok.bytes) error.TooLong) c.in-Ok.bytes.bytes c.bytes-2.result.now c.in-Err.fault c.refused.result (record {
      lent_is = c.bytes-2.ensures;
      read = record { gave = c.in-Ok.ensures.read; to_the_end = c.in-Ok.ensures.to_the_end; within = c.in-Ok.ensures.within; reads = c.in-Ok.ensures.same };
      silent = record { taken = refl; writes = refl };
      refused = c.in-Err.ensures.refused;
      no_device = (λ (same : c.in-Err.fault ≡ fault.Device). c.in-Err.ensures.cause (cc));
      exact = c.in-Err.ensures.exact;
      not_longer = (λ none. cc);
      short = c.in-Ok.ensures.too_long;
    }) c.refused.ensures in
    record { too_long = ended.too_long; inspected = ended.inspected; complete = ended.complete }
