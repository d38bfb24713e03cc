use Rattle.writer_meta.proofs.Laws.{IsUtf8-part_name, IsUtf8-part_path}
use Rattle.writer_meta.proofs.component.Component.to_value.Goals as goal

pub str_of-name-requires : goal.str_of-name-requires
str_of-name-requires c = IsUtf8-part_name c.args.self.now.path.bytes c.args.self.now.name.bytes c.requires

pub str_of-path-requires : goal.str_of-path-requires
str_of-path-requires c = IsUtf8-part_path c.args.self.now.path.bytes c.args.self.now.name.bytes c.requires
