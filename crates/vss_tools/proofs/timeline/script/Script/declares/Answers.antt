use Rattle.std.proofs.Common.{◌∙◌, Bor, List, ℕ, ap}
use Rattle.std.specs.List.{list_any}
use Rattle.vss_tools.specs.Refused.{is_of}
use Rattle.vss_tools.proofs.TextLines.{any_text}
use Rattle.vss_tools.proofs.timeline.script.Script.declares.Goals as goal

pub returns : goal.returns
returns c =
    let word = c.args.word.now in
    let name = c.args.name.now in
    rw (← c.self.view_is) (c.is_among.ensures ∙ ap (λ xs. list_any (λ (line : Bor (List ℕ)). is_of word name line.now) xs) c.deref.ensures.value
    ∙ any_text (is_of word name) c.self.inside.declared.items ∙ ap (list_any (is_of word name)) c.self.invariant.0)
