use Rattle.std.proofs.Common.{◌≡◌, ℕ, ◌+◌, ◌≤◌, ◌==◌, Bool, true, List, [], length, refl, ap, subst, sym, ◌∙◌, arith}
use Rattle.std.proofs.lemmas.Bool.Decides.{nat_tests}
use Rattle.std.proofs.lemmas.List.{drop_all}
use Rattle.scenario.specs.declared.text_line.TextLine.{TextLine}
use Rattle.scenario.specs.Lines.{lines_at}
use Rattle.scenario.specs.declared.unread.Unread.{Unread}
use Rattle.scenario.specs.declared.unread.Unread.TheVariants.{Bad, OutOfMemory}
use Rattle.scenario.specs.Grammar.{Reading, IsUnreadAt, read_from, takes_from}
use Rattle.scenario.proofs.parsing.read.Goals as goal

unread_as : (line : ℕ) (r q : Reading) (t u : Bool) (unread : Unread) → r ≡ q → (t ≡ true → u ≡ true) → IsUnreadAt line q t unread → IsUnreadAt line r u unread
unread_as line r q t u (Bad cause) e f h = e ∙ h
unread_as line r q t u OutOfMemory e f h = f h

pub returns-in-Err-clause-refused : goal.returns-in-Err-clause-refused
returns-in-Err-clause-refused c =
    let rest = lines_at c.args.text.now (c.line_at-line.result.span.end + 1) in
    unread_as c.lines.number _ _ _ _ c.in-Err.unread c.lines.invariant.0 c.lines.invariant.1
    (subst (λ (ls : List TextLine). IsUnreadAt c.lines.number (read_from c.args.text.now c.lines.number c.lines.draft.said ls)
    (takes_from c.args.text.now c.lines.number c.lines.draft.said ls) c.in-Err.unread) (sym c.line_at-line.ensures.next) (c.in-Err.ensures.refused rest))

no_lines : (text : List ℕ) (at : ℕ) → length text ≤ at → lines_at text at ≡ []
no_lines text at past =
    let same : (at == at) ≡ true = grind (arith, nat_tests) in
    rw (drop_all at text past, same) refl

pub returns-then-not-is_opened-clause-refused : goal.returns-then-not-is_opened-clause-refused
returns-then-not-is_opened-clause-refused c =
    c.lines.invariant.0
    ∙ ap (λ (ls : List TextLine). read_from c.args.text.now c.lines.number c.lines.draft.said ls) (no_lines c.args.text.now c.lines.at c.lines-test.false)
    ∙ rw (sym c.is_opened.ensures, c.if-not-is_opened.true, c.line-cause.ensures) refl
