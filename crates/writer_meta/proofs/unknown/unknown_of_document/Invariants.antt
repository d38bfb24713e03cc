use Rattle.std.proofs.Common.{◌≡◌}
use Rattle.serde_json.specs.View.{members_view}
use Rattle.writer_meta.specs.Document.{unknown_in, is_known, document_members}
use Rattle.writer_meta.proofs.unknown.unknown_of_document.Given as goal

-- what is left says which is the first
abbrev pub invariant-loop-name : goal.invariant-loop-name
invariant-loop-name l =
    unknown_in (is_known document_members) (members_view l.members.entries) ≡ unknown_in (is_known document_members) (members_view l.name-iterator)
