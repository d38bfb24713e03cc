use Rattle.std.proofs.Common.{IsUtf8, subst, sym}
use Rattle.component_doc.proofs.Known.{IsUtf8-full_name}
use Rattle.writer_meta.specs.Metadata.{part_of}
use Rattle.component_doc.proofs.written.component_value.Goals as goal

pub str_of-path-requires : goal.str_of-path-requires
str_of-path-requires c = subst IsUtf8 (sym c.in_ok-full_name.ensures) (IsUtf8-full_name (part_of c.args.component.now) c.requires)
