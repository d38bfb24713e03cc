use Rattle.std.proofs.Common.{ℕ, List, refl, ap, subst}
use Rattle.std.specs.Prelude.{Err}
use Rattle.io_edge.specs.Streams.{Took, TookPart}
use Rattle.vss_main.proofs.Asking.{input_of, counted_by}
use Rattle.vss_main.proofs.reporting.run_input.Goals as goal

pub returns-in-Err-OutOfMemory-report_of-clause-status : goal.returns-in-Err-OutOfMemory-report_of-clause-status
returns-in-Err-OutOfMemory-report_of-clause-status g c = record {
  reads = c.in-Ok.ensures.same;
  later = c.report_of.ensures.later;
  counted = counted_by g.M.Made.Device.told _ c.in-Ok-parse_text.scenario
      (input_of _ c.in-Ok.text.bytes c.in-Ok-parse_text.scenario c.in-Ok.ensures.read c.in-Ok.ensures.to_the_end c.in-Ok.ensures.within c.in-Ok-parse_text.ensures.read)
      (c.in-Err-OutOfMemory-report_of.ensures.counted (ap Err c.in-Err-OutOfMemory-report_of.field-0-is));
  unwritten = record { taken = refl; writes = refl };
}

pub returns-in-Ok-write_all-clause-status : goal.returns-in-Ok-write_all-clause-status
returns-in-Ok-write_all-clause-status g c = record {
  report = c.in-Ok-report_of.report.bytes;
  is_report = record {
    scenario = c.in-Ok-parse_text.scenario;
    is_input = input_of _ c.in-Ok.text.bytes c.in-Ok-parse_text.scenario c.in-Ok.ensures.read c.in-Ok.ensures.to_the_end c.in-Ok.ensures.within c.in-Ok-parse_text.ensures.read;
    store = c.in-Ok-store_of.store;
    is_store = c.in-Ok-store_of.ensures;
    ran = c.in-Ok-report_of.ensures.ran;
  };
  written = subst (λ (bs : List ℕ). Took (g.K.Sink.taken c.args.sink.now) bs (g.K.Sink.taken c.write_all.new.sink)) c.bytes.ensures c.in-Ok-write_all.ensures.ok;
  reads = c.in-Ok.ensures.same;
  writes = c.in-Ok-write_all.ensures.cause.same;
}

pub returns-clause-status : goal.returns-clause-status
returns-clause-status g c = record {
  report = c.in-Ok-report_of.report.bytes;
  is_report = record {
    scenario = c.in-Ok-parse_text.scenario;
    is_input = input_of _ c.in-Ok.text.bytes c.in-Ok-parse_text.scenario c.in-Ok.ensures.read c.in-Ok.ensures.to_the_end c.in-Ok.ensures.within c.in-Ok-parse_text.ensures.read;
    store = c.in-Ok-store_of.store;
    is_store = c.in-Ok-store_of.ensures;
    ran = c.in-Ok-report_of.ensures.ran;
  };
  part = subst (λ (bs : List ℕ). TookPart (g.K.Sink.taken c.args.sink.now) bs (g.K.Sink.taken c.write_all.new.sink)) c.bytes.ensures c.in-Err-write_all.ensures.err;
  reads = c.in-Ok.ensures.same;
  rose = c.in-Err-write_all.ensures.cause.rose refl;
}
